-- Where a frame stops, from what the stages of judgement find. Assumes nothing.
use mathlib.Core.Path.{◌≡◌, refl, sym, ap, ap₂, ◌∙◌}
use mathlib.Core.Bool.{Bool, true, false, not, cond, ◌&&◌, ◌||◌, and-false, or-true}
use mathlib.Core.List.{List}
use mathlib.Core.Logic.{◌⊎◌, inl, inr}
use Prim.Native.Nat.{ℕ, ◌+◌, ◌-◌, ◌*◌, ◌%◌, ◌≤◌, ◌<◌}
use native.Mathlib.Omega.{arith}
use lib.Dec.{ltb, eqb}
use borrow.Author.Tests.{ne_eqb, not-false, lt-ltb, le-ltb}
use Rattle.std.specs.Prelude.{Option, Some, None}
use Rattle.lists.specs.Lists.{up_from}
use Rattle.lists.specs.Cases.{when}
use Rattle.sheet_rules.specs.declared.RecordArea.{RecordArea}
use Rattle.sheet_rules.specs.Rows.{areas, clear_address, record_area}
use Rattle.sheet_rules.specs.Lookup.{lies_in, place_in, record_number}
use Rattle.sheet_rules.specs.Rules.{sound, in_records}
use Rattle.sheet_rules.proofs.Records.{in_records_lem}
use Rattle.ring_rules.specs.Ring.{newest_place, stored_count, place_of, record_start}
use Rattle.bank_rules.specs.Bank.{station_of}
use Rattle.bank_rules.specs.Calls.{Lent}
use Rattle.frame.specs.declared.Parts.{Parts}
use Rattle.frame.proofs.Passing.{passed_parts, passed_true, passed_false}
use Rattle.frame.specs.Frame.{reads, clears, writes_one, writes_many, function, start, second, is_write, count, most_read, parts_of, passed_frame}
use Rattle.meter_rules.specs.declared.Judged.{Judged}
use Rattle.meter_rules.specs.declared.Judged.TheVariants.{FailsCheck, OtherStation, FunctionNotAllowed, WrongLength, WrongCount, WrongAddress, WrongValue, BadItem, GoodRead, GoodRecord, GoodClear, GoodWrite}
use Rattle.sheet_rules.specs.declared.Purpose.TheVariants.{Read}
use Rattle.sheet_rules.specs.Runs.{all_open}
use Rattle.meter_rules.specs.Write.{first_place, some_bad, stop_place, stop_side}
use Rattle.meter_rules.specs.Steps.{starts_in_records, asked_start, good_read, fails_check, other_station, code_allowed, function_allowed, function_not_allowed, wrong_length, wrong_count, wrong_address, wrong_value, bad_write, good_frame, judged_frame}
use Rattle.meter_rules.proofs.Order.{step_stops, step_passes, step_none, asks_for, value_is, bad_is, write_is, many_is, last_function, asks_write, read_address, registers_wrong, record_wrong, clear_address_lem, clear_value, write_value, write_bad}
use Rattle.meter.specs.Stages.{addressed_to, wrong_length_in, judged_from, judged_record, judged_shut, Known}

module _ (given : Lent) (frame : List ℕ) where
  -- ---- the steps, one after another

  pub stops_check : fails_check frame ≡ true → FailsCheck ≡ judged_frame given frame
  unfolding judged_frame
  stops_check e = sym (step_stops (when (fails_check frame) FailsCheck) _ _ e)

  pub stops_station : fails_check frame ≡ false → other_station given frame ≡ true → OtherStation ≡ judged_frame given frame
  unfolding judged_frame
  stops_station p e =
      sym (step_passes (when (fails_check frame) FailsCheck) _ _ p ∙ step_stops (when (other_station given frame) OtherStation) _ _ e)

  pub stops_function : fails_check frame ≡ false → other_station given frame ≡ false → function_not_allowed given.sheet frame ≡ true
      → FunctionNotAllowed ≡ judged_frame given frame
  unfolding judged_frame
  stops_function p q e =
      sym (step_passes (when (fails_check frame) FailsCheck) _ _ p ∙ step_passes (when (other_station given frame) OtherStation) _ _ q
      ∙ step_stops (when (function_not_allowed given.sheet frame) FunctionNotAllowed) _ _ e)

  pub passes_function : fails_check frame ≡ false → other_station given frame ≡ false → function_not_allowed given.sheet frame ≡ false
      → judged_from 3 given frame ≡ judged_frame given frame
  unfolding judged_frame judged_from
  passes_function p q e =
      sym (step_passes (when (fails_check frame) FailsCheck) _ _ p ∙ step_passes (when (other_station given frame) OtherStation) _ _ q
      ∙ step_passes (when (function_not_allowed given.sheet frame) FunctionNotAllowed) _ _ e)

  pub stops_length : wrong_length frame ≡ true → WrongLength ≡ judged_from 3 given frame
  unfolding judged_from
  stops_length e = sym (step_stops (when (wrong_length frame) WrongLength) _ _ e)

  pub passes_length : wrong_length frame ≡ false → judged_from 4 given frame ≡ judged_from 3 given frame
  unfolding judged_from
  passes_length e = sym (step_passes (when (wrong_length frame) WrongLength) _ _ e)

  pub stops_count : wrong_count given.sheet frame ≡ true → WrongCount ≡ judged_from 4 given frame
  unfolding judged_from
  stops_count e = sym (step_stops (when (wrong_count given.sheet frame) WrongCount) _ _ e)

  pub passes_count : wrong_count given.sheet frame ≡ false → judged_from 5 given frame ≡ judged_from 4 given frame
  unfolding judged_from
  passes_count e = sym (step_passes (when (wrong_count given.sheet frame) WrongCount) _ _ e)

  pub stops_address : wrong_address given frame ≡ true → WrongAddress ≡ judged_from 5 given frame
  unfolding judged_from
  stops_address e = sym (step_stops (when (wrong_address given frame) WrongAddress) _ _ e)

  pub stops_value : wrong_address given frame ≡ false → wrong_value frame ≡ true → WrongValue ≡ judged_from 5 given frame
  unfolding judged_from
  stops_value p e =
      sym (step_passes (when (wrong_address given frame) WrongAddress) _ _ p ∙ step_stops (when (wrong_value frame) WrongValue) _ _ e)

  pub stops_item : wrong_address given frame ≡ false → wrong_value frame ≡ false → bad_write given frame ≡ true
      → BadItem (first_place given.sheet frame) (stop_place given frame) (stop_side given frame) ≡ judged_from 5 given frame
  unfolding judged_from
  stops_item p q e =
      sym (step_passes (when (wrong_address given frame) WrongAddress) _ _ p ∙ step_passes (when (wrong_value frame) WrongValue) _ _ q
      ∙ step_stops (when (bad_write given frame) (BadItem (first_place given.sheet frame) (stop_place given frame) (stop_side given frame))) _ _ e)

  pub stops_nowhere : wrong_address given frame ≡ false → wrong_value frame ≡ false → bad_write given frame ≡ false
      → good_frame given frame ≡ judged_from 5 given frame
  unfolding judged_from
  stops_nowhere p q e =
      sym (step_passes (when (wrong_address given frame) WrongAddress) _ _ p ∙ step_passes (when (wrong_value frame) WrongValue) _ _ q
      ∙ step_passes (when (bad_write given frame) (BadItem (first_place given.sheet frame) (stop_place given frame) (stop_side given frame))) _ _ e
      ∙ step_none (good_frame given frame))

  -- ---- by function

  good_reading : function frame ≡ reads → wrong_address given frame ≡ false → good_read given frame ≡ judged_from 5 given frame
  good_reading e p =
      ap (λ (r : Bool). cond r (good_read given frame) (cond (eqb (function frame) clears) GoodClear (GoodWrite (first_place given.sheet frame) (count frame))))
      (sym (asks_for frame reads e).is_read)
      ∙ stops_nowhere p (value_is frame (asks_for frame reads e)) (bad_is frame (asks_for frame reads e) given)

  pub good_read_lem : function frame ≡ reads → starts_in_records given.sheet frame ≡ false → wrong_address given frame ≡ false
      → GoodRead (first_place given.sheet frame) (second frame) ≡ judged_from 5 given frame
  good_read_lem e outside p =
      ap₂ (λ (i o : Bool). cond i (GoodRecord (asked_start given frame) (record_area given.sheet).words)
      (GoodRead (first_place given.sheet frame) (cond o 1 (second frame)))) (sym outside) (sym (asks_for frame reads e).is_one)
      ∙ good_reading e p

  pub good_record : function frame ≡ reads → starts_in_records given.sheet frame ≡ true → wrong_address given frame ≡ false
      → GoodRecord (asked_start given frame) (record_area given.sheet).words ≡ judged_from 5 given frame
  good_record e inside p =
      ap (λ (i : Bool). cond i (GoodRecord (asked_start given frame) (record_area given.sheet).words)
      (GoodRead (first_place given.sheet frame) (count frame))) (sym inside)
      ∙ good_reading e p

  pub good_clear : function frame ≡ clears → wrong_address given frame ≡ false → wrong_value frame ≡ false
      → GoodClear ≡ judged_from 5 given frame
  good_clear e p q =
      ap₂ (λ (r c : Bool). cond r (good_read given frame) (cond c GoodClear (GoodWrite (first_place given.sheet frame) (count frame))))
      (sym (asks_for frame clears e).is_read) (sym (asks_for frame clears e).is_clear)
      ∙ stops_nowhere p q (bad_is frame (asks_for frame clears e) given)

  module _ (write : is_write frame ≡ true) where
    pub good_write : wrong_address given frame ≡ false → some_bad given frame ≡ false
        → GoodWrite (first_place given.sheet frame) (count frame) ≡ judged_from 5 given frame
    good_write p e =
        ap₂ (λ (r c : Bool). cond r (good_read given frame) (cond c GoodClear (GoodWrite (first_place given.sheet frame) (count frame))))
        (sym (asks_write frame write).is_read) (sym (asks_write frame write).is_clear)
        ∙ stops_nowhere p (write_value frame write) (write_bad frame write given ∙ e)

-- ---- step 2, read back: the frame is for this station and its parts are these, or it is for another

module _ (given : Lent) (frame : List ℕ) {passed : Parts} (apart : passed ≡ parts_of frame) {answer : Option Parts}
    (is : answer ≡ addressed_to given.sheet given.bank passed) where
  pub elsewhere : answer ≡ None → other_station given frame ≡ true
  unfolding addressed_to
  elsewhere told =
      ap (λ (p : Parts). not (eqb p.station (station_of given.sheet given.bank))) (sym apart)
      ∙ go (eqb passed.station (station_of given.sheet given.bank)) (sym told ∙ is)
    where
      go : (b : Bool) → None ≡ cond b (Some passed) None → not b ≡ true
      go true e = let z : ◌≡◌ {A = ℕ} 0 1 = cc in absurd (omega arith)
      go false e = refl

  module _ {parts : Parts} (told : answer ≡ Some parts) where
    here : (b : Bool) → Some parts ≡ cond b (Some passed) None → (not b ≡ false) × (parts ≡ passed)
    here true e = (refl, cc)
    here false e = let z : ◌≡◌ {A = ℕ} 0 1 = cc in absurd (omega arith)

    pub here_station : other_station given frame ≡ false
    unfolding addressed_to
    here_station =
        ap (λ (p : Parts). not (eqb p.station (station_of given.sheet given.bank))) (sym apart)
        ∙ (here (eqb passed.station (station_of given.sheet given.bank)) (sym told ∙ is)).0

    pub here_parts : parts ≡ parts_of frame
    unfolding addressed_to
    here_parts = (here (eqb passed.station (station_of given.sheet given.bank)) (sym told ∙ is)).1 ∙ apart

-- ---- steps 1 to 3, from what each stage answers

module _ (given : Lent) (frame : List ℕ) {first : (Option Parts)} (is : first ≡ passed_frame frame) where
  pub fails_first : first ≡ None → FailsCheck ≡ judged_frame given frame
  fails_first told = stops_check given frame (ap not (passed_false frame is told))

  module _ {passed : Parts} (told : first ≡ Some passed) {next : Option Parts} (is-next : next ≡ addressed_to given.sheet given.bank passed) where
    passing : fails_check frame ≡ false
    passing = ap not (passed_true frame is told)

    pub stops_second : next ≡ None → OtherStation ≡ judged_frame given frame
    stops_second away = stops_station given frame passing (elsewhere given frame (passed_parts frame is told) is-next away)

    module _ {parts : Parts} (here : next ≡ Some parts) {allows : Bool} (is-allowed : allows ≡ code_allowed given.sheet parts.function) where
      apart : parts ≡ parts_of frame
      apart = here_parts given frame (passed_parts frame is told) is-next here

      at_home : other_station given frame ≡ false
      at_home = here_station given frame (passed_parts frame is told) is-next here

      allowing : function_allowed given.sheet frame ≡ allows
      allowing = sym (is-allowed ∙ ap (λ (p : Parts). code_allowed given.sheet p.function) apart)

      pub stops_third : not allows ≡ true → FunctionNotAllowed ≡ judged_frame given frame
      stops_third shut = stops_function given frame passing at_home (ap not allowing ∙ shut)

      pub passes_third : not allows ≡ false → judged_from 3 given frame ≡ judged_frame given frame
      passes_third open-to = passes_function given frame passing at_home (ap not allowing ∙ open-to)

      pub then_known : sound given.sheet ≡ true → not allows ≡ false → Known given.sheet frame parts
      then_known keeps open-to = record { sheet_sound = keeps; apart = apart; allowed = allowing ∙ not-false allows open-to }

-- ---- a read of a record, by how many are newer

module _ (records : RecordArea) (ring : List ℕ) (address : ℕ) {newer : ℕ} (inside : in_records address records ≡ true) (behind : newer ≡ address - records.first) where
  numbered : newer + 1 ≡ record_number records address
  numbered = omega (arith, behind, (in_records_lem records address inside).low)

  abbrev judged_by : Bool → Judged
  judged_by past = cond past WrongAddress (GoodRecord (record_start records (place_of records ring (record_number records address))) records.words)

  pub record_beyond : {stored : ℕ} → stored ≡ stored_count ring → stored ≤ newer → WrongAddress ≡ judged_record records ring address
  record_beyond says few =
      sym (ap judged_by (lt-ltb (stored_count ring) (record_number records address) (omega (arith, says, few, numbered))))

  pub record_stored : {stored newest first many : ℕ} → stored ≡ stored_count ring → newer < stored → newest ≡ newest_place ring
      → first ≡ 2 + ((newest + records.records - newer) % records.records) * records.words → many ≡ records.words
      → GoodRecord first many ≡ judged_record records ring address
  record_stored says enough place begin words =
      ap₂ GoodRecord
      (begin
      ∙ ap₂ (λ (n k : ℕ). 2 + ((n + records.records - k) % records.records) * records.words) place
      (let back : newer ≡ record_number records address - 1 = omega (arith, numbered) in back))
      words
      ∙ sym (ap judged_by (le-ltb (stored_count ring) (record_number records address) (omega (arith, says, enough, numbered))))

-- ---- the steps in the parts of the frame

-- step 4 and step 5
abbrev pub count_wrong : List ℕ → Parts → Bool
count_wrong sheet parts =
    eqb parts.function reads && (eqb parts.second 0 || (in_records parts.start (record_area sheet) && not (eqb parts.second 1)))
    || eqb parts.function writes_many && (eqb parts.second 0 || not (eqb parts.bytes (2 * parts.second)))

module _ (given : Lent) (frame : List ℕ) {parts : Parts} (apart : parts ≡ parts_of frame) where
  pub length_stops : wrong_length_in parts ≡ true → WrongLength ≡ judged_from 3 given frame
  length_stops e = stops_length given frame (ap wrong_length_in (sym apart) ∙ e)

  pub length_passes_lem : wrong_length_in parts ≡ false → judged_from 4 given frame ≡ judged_from 3 given frame
  length_passes_lem e = passes_length given frame (ap wrong_length_in (sym apart) ∙ e)

  pub count_stops : count_wrong given.sheet parts ≡ true → WrongCount ≡ judged_from 4 given frame
  count_stops e = stops_count given frame (ap (count_wrong given.sheet) (sym apart) ∙ e)

  pub count_passes : count_wrong given.sheet parts ≡ false → judged_from 5 given frame ≡ judged_from 4 given frame
  count_passes e = passes_count given frame (ap (count_wrong given.sheet) (sym apart) ∙ e)

  -- a read of registers whose count is not 0
  pub read_counted : parts.function ≡ reads → (parts.second ≡ 0 → ⊥) → starts_in_records given.sheet frame ≡ false
      → judged_from 5 given frame ≡ judged_from 4 given frame
  read_counted asks some outside =
      count_passes
      (simp (asks, ne_eqb parts.second 0 some, ap (λ (p : Parts). in_records p.start (record_area given.sheet)) apart ∙ outside))

module _ (frame : List ℕ) {parts : Parts} (apart : parts ≡ parts_of frame) where
  -- a function that is allowed and none of the first three is 10
  pub last_of_parts : (sheet : List ℕ) → function_allowed sheet frame ≡ true → (parts.function ≡ reads → ⊥) → (parts.function ≡ clears → ⊥)
      → (parts.function ≡ writes_one → ⊥) → parts.function ≡ writes_many
  last_of_parts sheet permitted =
      last_function sheet parts.function (ap (λ (p : Parts). code_allowed sheet p.function) apart ∙ permitted)

  pub write_of_parts : (parts.function ≡ writes_one) ⊎ (parts.function ≡ writes_many) → is_write frame ≡ true
  write_of_parts (inl one) = write_is frame (asks_for frame writes_one (sym (ap (λ (p : Parts). p.function) apart) ∙ one))
  write_of_parts (inr many) = write_is frame (asks_for frame writes_many (sym (ap (λ (p : Parts). p.function) apart) ∙ many))

  module _ (asks : parts.function ≡ reads) where
    read_function : function frame ≡ reads
    read_function = sym (ap (λ (p : Parts). p.function) apart) ∙ asks

    pub read_of_parts : (given : Lent) → starts_in_records given.sheet frame ≡ false
        → wrong_address given frame ≡ (ltb most_read parts.second || not (all_open Read given.sheet (up_from parts.start parts.second)))
    read_of_parts given outside =
        read_address frame given read_function ∙ registers_wrong frame given outside
        ∙ ap (λ (n : ℕ). ltb most_read (second frame) || not (all_open Read given.sheet (up_from (start frame) n)))
        (many_is frame (asks_for frame reads read_function))
        ∙ ap (λ (p : Parts). ltb most_read p.second || not (all_open Read given.sheet (up_from p.start p.second))) (sym apart)

    pub good_read_of_parts : (given : Lent) {first : ℕ} → starts_in_records given.sheet frame ≡ false
        → first ≡ place_in (lies_in (areas given.sheet) parts.start) → wrong_address given frame ≡ false
        → GoodRead first parts.second ≡ judged_from 5 given frame
    good_read_of_parts given outside placed e =
        ap (λ (n : ℕ). GoodRead n parts.second) placed
        ∙ ap (λ (p : Parts). GoodRead (place_in (lies_in (areas given.sheet) p.start)) p.second) apart
        ∙ good_read_lem given frame read_function outside e

    -- a read whose count is not 0 and that is no good one of registers
    module _ (given : Lent) (some : parts.second ≡ 0 → ⊥)
        (shut : (ltb most_read parts.second || not (all_open Read given.sheet (up_from parts.start parts.second))) ≡ true) where
      abbrev area : RecordArea
      area = record_area given.sheet

      abbrev begins : Bool
      begins = in_records parts.start area

      abbrev number : ℕ
      number = record_number area parts.start

      its_start : starts_in_records given.sheet frame ≡ begins
      its_start = ap (λ (p : Parts). in_records p.start area) (sym apart)

      beyond : begins ≡ true → wrong_address given frame ≡ ltb (stored_count given.ring) number
      beyond inside =
          read_address frame given read_function ∙ record_wrong frame given (its_start ∙ inside)
          ∙ ap (λ (p : Parts). ltb (stored_count given.ring) (record_number area p.start)) (sym apart)

      of_one : eqb parts.second 1 ≡ true → judged_from 5 given frame ≡ judged_from 4 given frame
      of_one one = count_passes given frame apart (simp (asks, one, ne_eqb parts.second 0 some, and-false))

      pub shut_of_parts : judged_shut given.sheet given.ring parts.start parts.second ≡ judged_from 4 given frame
      shut_of_parts = go begins refl (eqb parts.second 1) refl (ltb (stored_count given.ring) number) refl
        where
          go : (inside : Bool) → begins ≡ inside → (one : Bool) → eqb parts.second 1 ≡ one → (past : Bool) → ltb (stored_count given.ring) number ≡ past
              → cond inside (cond one (cond past WrongAddress (GoodRecord (record_start area (place_of area given.ring number)) area.words)) WrongCount) WrongAddress
              ≡ judged_from 4 given frame
          go false outside one _ past _ =
              stops_address given frame (read_of_parts given (its_start ∙ outside) ∙ shut) ∙ read_counted given frame apart asks some (its_start ∙ outside)
          go true inside false more past _ = count_stops given frame apart (simp (asks, inside, more, or-true))
          go true inside true one true e = stops_address given frame (beyond inside ∙ e) ∙ of_one one
          go true inside true one false e =
              ap (λ (p : Parts). GoodRecord (record_start area (place_of area given.ring (record_number area p.start))) area.words) apart
              ∙ good_record given frame read_function (its_start ∙ inside) (beyond inside ∙ e)
              ∙ of_one one

  module _ (asks : parts.function ≡ clears) where
    pub clear_function : function frame ≡ clears
    clear_function = sym (ap (λ (p : Parts). p.function) apart) ∙ asks

    pub clear_of_parts : (given : Lent) → wrong_address given frame ≡ not (eqb parts.start (clear_address given.sheet))
    clear_of_parts given =
        clear_address_lem frame given clear_function ∙ ap (λ (p : Parts). not (eqb p.start (clear_address given.sheet))) (sym apart)

    pub value_of_parts : wrong_value frame ≡ not (eqb parts.second 0)
    value_of_parts = clear_value frame clear_function ∙ ap (λ (p : Parts). not (eqb p.second 0)) (sym apart)
