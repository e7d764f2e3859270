-- The facts of a frame that are reasons for silence or an error, the addresses that are told with two of them, and the side that is told with one.
-- The facts that the judgement tests in the same words are its own: `other_station`, `function_not_allowed`, `wrong_length`, `wrong_value` and
-- `bad_write`. Assumes nothing.
use Rattle.std.specs.Prelude.{ℕ, Bool, not, cond, ◌&&◌, ◌||◌, List, [], ◌∷◌, ltb, eqb, length}
use Rattle.check_value.specs.Frame.{shortest, longest, check_agrees}
use Rattle.frame.specs.Frame.{reads, clears, most_read, function, start, second, is_write, run}
use Rattle.range.specs.declared.Side.{Side}
use Rattle.sheet_rules.specs.Rows.{areas, clear_address}
use Rattle.sheet_rules.specs.Lookup.{lies_in, address_of}
use Rattle.sheet_rules.specs.declared.Purpose.{Purpose}
use Rattle.sheet_rules.specs.declared.Purpose.TheVariants.{Read, Write}
use Rattle.sheet_rules.specs.Runs.{opens, all_open}
use Rattle.bank_rules.specs.Calls.{Lent}
use Rattle.meter_rules.specs.Write.{stop_place, stop_side}
use Rattle.meter_rules.specs.Steps.{starts_in_records, beyond_stored, wrong_count}

-- rule Y10
abbrev pub too_short : List ℕ → Bool
too_short frame = ltb (length frame) shortest

-- rule Y11
abbrev pub too_long : List ℕ → Bool
too_long frame = ltb longest (length frame)

-- rule Y12
abbrev pub check_differs : List ℕ → Bool
check_differs frame = not (check_agrees frame)

-- rule J64, which rule Y16 tells as a count: a read of more registers than a reply has room for, from an address that is no record's
abbrev pub reads_too_many : List ℕ → List ℕ → Bool
reads_too_many sheet frame = eqb (function frame) reads && ltb most_read (second frame) && not (starts_in_records sheet frame)

-- rule Y16: what step 5 tests, or a read of too many
abbrev pub bad_count : List ℕ → List ℕ → Bool
bad_count sheet frame = wrong_count sheet frame || reads_too_many sheet frame

-- rule Y17, of a read: a record beyond what is stored, or an address of the run that is not open to reading
abbrev pub shut_read : Lent → List ℕ → Bool
shut_read given frame =
    cond (starts_in_records given.sheet frame) (beyond_stored given frame) (not (all_open Read given.sheet (run frame)))

-- rule Y17: of a read as above; of a write an address of the run that is not open to it; a clear elsewhere than at the clear address
abbrev pub shut_address : Lent → List ℕ → Bool
shut_address given frame =
    (eqb (function frame) reads && shut_read given frame)
    || (is_write frame && not (all_open Write given.sheet (run frame)))
    || (eqb (function frame) clears && not (eqb (start frame) (clear_address given.sheet)))

-- rule Y20, the first of some addresses that is not open to the purpose; 0 where each is. Nothing lies above FFFF in a sheet of bytes, so
-- 10000 can be told.
unfoldable pub first_shut : Purpose → List ℕ → List ℕ → ℕ
first_shut purpose sheet [] = 0
first_shut purpose sheet (address ∷ behind) =
    cond (opens purpose (lies_in (areas sheet) address)) (first_shut purpose sheet behind) address

-- rule Y20, the address that is told: the lowest that is not open of a run, which ascends, or the frame's own for a clear. A record lies in no area,
-- and a read of one that has come this far has a count of 1: so where it is beyond what is stored, its own address is told.
abbrev pub first_bad_address : List ℕ → List ℕ → ℕ
first_bad_address sheet frame =
    cond (eqb (function frame) reads) (first_shut Read sheet (run frame))
    (cond (is_write frame) (first_shut Write sheet (run frame)) (start frame))

-- rule Y21: the first address of the first bad item, as the listing has it; told only where an item is bad
abbrev pub first_bad_item : Lent → List ℕ → ℕ
first_bad_item given frame = address_of (areas given.sheet) (stop_place given frame)

-- rule Y23: the side at which the value that the first bad item would have misses its range; told only where an item is bad
abbrev pub first_bad_side : Lent → List ℕ → Side
first_bad_side given frame = stop_side given frame
