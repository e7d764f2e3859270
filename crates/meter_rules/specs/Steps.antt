-- The judgement of a frame: the conditions of steps 1 to 7, step 7 as two, and their order. Assumes nothing.
use Rattle.std.specs.Prelude.{ℕ, ◌+◌, ◌*◌, Bool, not, cond, ◌&&◌, ◌||◌, List, [], ◌∷◌, ltb, eqb, length}
use Rattle.check_value.specs.Frame.{passes}
use Rattle.sheet_rules.specs.Rows.{clear_address, record_area}
use Rattle.bank_rules.specs.Bank.{station_of}
use Rattle.bank_rules.specs.Calls.{Lent}
use Rattle.lists.specs.Cases.{Case, when, first_case}
use Rattle.meter_rules.specs.declared.Judged.{Judged}
use Rattle.meter_rules.specs.declared.Judged.TheVariants.{FailsCheck, OtherStation, FunctionNotAllowed, WrongLength, WrongCount, WrongAddress, WrongValue, BadItem, GoodRead, GoodRecord, GoodClear, GoodWrite}
use Rattle.frame.specs.Frame.{reads, clears, writes_one, writes_many, most_read, station, function, start, second, byte_count, is_write, count, run}
use Rattle.sheet_rules.specs.Rules.{allowed, bit_of03, bit_of05, bit_of06, bit_of10, in_records}
use Rattle.sheet_rules.specs.Lookup.{record_number}
use Rattle.sheet_rules.specs.declared.Purpose.TheVariants.{Read, Write}
use Rattle.sheet_rules.specs.Runs.{all_open}
use Rattle.ring_rules.specs.Ring.{stored_count, place_of, record_start}
use Rattle.meter_rules.specs.Write.{first_place, some_bad, stop_place, stop_side}

-- step 1: rule J10
abbrev pub fails_check : List ℕ → Bool
fails_check frame = not (passes frame)

-- step 2: rule J20; that no sound bank is at 0 or above F7 (rule J21) is a law, and no test
abbrev pub other_station : Lent → List ℕ → Bool
other_station given frame = not (eqb (station frame) (station_of given.sheet given.bank))

-- rules J30 and S13: a function is one of the four, and the sheet allows it
abbrev pub code_allowed : List ℕ → ℕ → Bool
code_allowed sheet code =
    (eqb code reads && allowed sheet bit_of03) || (eqb code clears && allowed sheet bit_of05)
    || (eqb code writes_one && allowed sheet bit_of06) || (eqb code writes_many && allowed sheet bit_of10)

abbrev pub function_allowed : List ℕ → List ℕ → Bool
function_allowed sheet frame = code_allowed sheet (function frame)

-- step 3: rule J30
abbrev pub function_not_allowed : List ℕ → List ℕ → Bool
function_not_allowed sheet frame = not (function_allowed sheet frame)

-- step 4: rules J40 and J41
abbrev pub wrong_length : List ℕ → Bool
wrong_length frame =
    cond (eqb (function frame) writes_many) (ltb (length frame) 9 || not (eqb (length frame) (9 + byte_count frame)))
    (not (eqb (length frame) 8))

-- rule J53: a frame's first address is a record's
abbrev pub starts_in_records : List ℕ → List ℕ → Bool
starts_in_records sheet frame = in_records (start frame) (record_area sheet)

-- step 5: rules J50 to J53
abbrev pub wrong_count : List ℕ → List ℕ → Bool
wrong_count sheet frame =
    (eqb (function frame) reads && (eqb (second frame) 0 || (starts_in_records sheet frame && not (eqb (second frame) 1))))
    || (eqb (function frame) writes_many && (eqb (second frame) 0 || not (eqb (byte_count frame) (2 * second frame))))

-- rule S86: the number of the record that a read asks for
abbrev pub asked_number : List ℕ → List ℕ → ℕ
asked_number sheet frame = record_number (record_area sheet) (start frame)

-- rules J66 and T20: it is beyond what is stored
abbrev pub beyond_stored : Lent → List ℕ → Bool
beyond_stored given frame = ltb (stored_count given.ring) (asked_number given.sheet frame)

-- rules J60 to J62, J64 and J66, of a read: of a record, or of registers
abbrev pub wrong_read : Lent → List ℕ → Bool
wrong_read given frame =
    cond (starts_in_records given.sheet frame) (beyond_stored given frame)
    (ltb most_read (second frame) || not (all_open Read given.sheet (run frame)))

-- step 6: rules J60 to J66. The areas of a sheet of bytes end at FFFF at the most, so an address above it lies in none: rule J62.
abbrev pub wrong_address : Lent → List ℕ → Bool
wrong_address given frame =
    (eqb (function frame) reads && wrong_read given frame)
    || (is_write frame && not (all_open Write given.sheet (run frame)))
    || (eqb (function frame) clears && not (eqb (start frame) (clear_address given.sheet)))

-- step 7 for a clear: rule J70
abbrev pub wrong_value : List ℕ → Bool
wrong_value frame = eqb (function frame) clears && not (eqb (second frame) 0)

-- step 7 for a write: rule J71
abbrev pub bad_write : Lent → List ℕ → Bool
bad_write given frame = is_write frame && some_bad given frame

-- rule J1: the first step whose condition holds says where the frame stops
abbrev pub steps : Lent → List ℕ → List (Case Judged)
steps given frame =
    when (fails_check frame) FailsCheck
    ∷ when (other_station given frame) OtherStation
    ∷ when (function_not_allowed given.sheet frame) FunctionNotAllowed
    ∷ when (wrong_length frame) WrongLength
    ∷ when (wrong_count given.sheet frame) WrongCount
    ∷ when (wrong_address given frame) WrongAddress
    ∷ when (wrong_value frame) WrongValue
    ∷ when (bad_write given frame) (BadItem (first_place given.sheet frame) (stop_place given frame) (stop_side given frame))
    ∷ []

-- rules T2 and T20: the word of the ring at which the record begins that a read asks for
abbrev pub asked_start : Lent → List ℕ → ℕ
asked_start given frame =
    record_start (record_area given.sheet) (place_of (record_area given.sheet) given.ring (asked_number given.sheet frame))

-- a read that no step stops: of a record, or of registers
abbrev pub good_read : Lent → List ℕ → Judged
good_read given frame =
    cond (starts_in_records given.sheet frame) (GoodRecord (asked_start given frame) (record_area given.sheet).words)
    (GoodRead (first_place given.sheet frame) (count frame))

-- rule J80, a frame that no step stops: a read, a clear or a write
abbrev pub good_frame : Lent → List ℕ → Judged
good_frame given frame =
    cond (eqb (function frame) reads) (good_read given frame)
    (cond (eqb (function frame) clears) GoodClear (GoodWrite (first_place given.sheet frame) (count frame)))

-- rules J1 and J80: where a frame stops, or that it is good
unfoldable pub judged_frame : Lent → List ℕ → Judged
judged_frame given frame = first_case (steps given frame) (good_frame given frame)
