-- What the stages of judgement answer, what those from step 4 on know of a frame, and where a write would leave an item. Only private promises cite
-- this file. Assumes nothing.
use Rattle.std.specs.Prelude.{ℕ, ◌+◌, ◌≡◌, Bool, true, not, cond, ◌||◌, List, ltb, eqb, drop, Option, Some, None}
use Rattle.lists.specs.Cases.{first_case}
use Rattle.range.specs.declared.Side.{Side}
use Rattle.range.specs.declared.Side.TheVariants.{InRange}
use Rattle.sheet_rules.specs.declared.Item.{Item}
use Rattle.sheet_rules.specs.declared.RecordArea.{RecordArea}
use Rattle.sheet_rules.specs.Rows.{record_area}
use Rattle.sheet_rules.specs.Rules.{sound, in_records}
use Rattle.sheet_rules.specs.Lookup.{record_number}
use Rattle.ring_rules.specs.Ring.{stored_count, place_of, record_start}
use Rattle.bank_rules.specs.Bank.{station_of, side_by}
use Rattle.bank_rules.specs.Calls.{Lent}
use Rattle.frame.specs.declared.Parts.{Parts}
use Rattle.frame.specs.Frame.{reads, writes_many, parts_of}
use Rattle.meter_rules.specs.declared.Judged.{Judged}
use Rattle.meter_rules.specs.declared.Judged.TheVariants.{WrongCount, WrongAddress, GoodRecord}
use Rattle.meter_rules.specs.Write.{would_be, touched}
use Rattle.meter_rules.specs.Steps.{function_allowed, steps, good_frame}

-- what step 2 answers: a frame for the bank's station, taken apart, or that it is for another
unfoldable pub addressed_to : List ℕ → List ℕ → Parts → Option Parts
addressed_to sheet bank parts = cond (eqb parts.station (station_of sheet bank)) (Some parts) None

-- what step 4 tests, by the parts of a frame
abbrev pub wrong_length_in : Parts → Bool
wrong_length_in parts =
    cond (eqb parts.function writes_many) (ltb parts.length 9 || not (eqb parts.length (9 + parts.bytes))) (not (eqb parts.length 8))

-- where a frame stops, or that it is good, once so many of the steps' conditions have let it through
unfoldable pub judged_from : ℕ → Lent → List ℕ → Judged
judged_from passed given frame = first_case (drop passed (steps given frame)) (good_frame given frame)

-- the sheet is sound, the parts are the frame's, and its function is allowed
pub record Known (sheet frame : List ℕ) (parts : Parts) : Type 0 where
  pub sheet_sound : sound sheet ≡ true
  pub apart : parts ≡ parts_of frame
  pub allowed : function_allowed sheet frame ≡ true

-- the frame is a read, and its count is not 0
pub record AsksRead (parts : Parts) : Type 0 where
  pub asks : parts.function ≡ reads
  pub some : parts.second ≡ 0 → ⊥

-- the side of its range at which a write would leave an item: one that it does not touch stays as it is, which in a sound bank is in range
abbrev pub side_left : ℕ → ℕ → List ℕ → List ℕ → Item → Side
side_left first many bank frame item = cond (touched first many item) (side_by (would_be first many bank frame) item) InRange

-- a read of one record by its address: it is beyond what is stored, or good
abbrev pub judged_record : RecordArea → List ℕ → ℕ → Judged
judged_record records ring address =
    cond (ltb (stored_count ring) (record_number records address)) WrongAddress
    (GoodRecord (record_start records (place_of records ring (record_number records address))) records.words)

-- a read that is no good one of registers, by its first address and its count: from a record's address on it is of one record, and else its address is wrong
abbrev pub judged_shut : List ℕ → List ℕ → ℕ → ℕ → Judged
judged_shut sheet ring address many =
    cond (in_records address (record_area sheet)) (cond (eqb many 1) (judged_record (record_area sheet) ring address) WrongCount) WrongAddress
