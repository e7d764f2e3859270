-- A meter judges a built query as its order. Assumes nothing.
use mathlib.Core.Path.{◌≡◌, refl, sym, ap, ◌∙◌}
use mathlib.Core.Bool.{true, false, not, or-false}
use mathlib.Core.List.{List, [], ◌∷◌}
use Prim.Native.Nat.{ℕ, ◌+◌, ◌*◌, ◌≤◌}
use native.Mathlib.Omega.{arith}
use lib.Dec.{ltb, eqb}
use lib.ListN.{length}
use borrow.Author.Tests.{eq-eqb, ne_eqb, le-ltb, eqb-true, not-true}
use Rattle.lists.specs.Cases.{when, first_case}
use Rattle.lists.specs.Lists.{up_from}
use Rattle.lists.proofs.Tests.{first_of, second_of_lem}
use Rattle.check_value.specs.Frame.{passes}
use Rattle.sheet_rules.specs.declared.Purpose.TheVariants as purpose
use Rattle.sheet_rules.specs.declared.RecordArea.{RecordArea}
use Rattle.sheet_rules.specs.Rows.{clear_address, record_area}
use Rattle.sheet_rules.specs.Rules.{in_records}
use Rattle.sheet_rules.specs.Lookup.{record_number}
use Rattle.sheet_rules.specs.Runs.{all_open}
use Rattle.bank_rules.specs.Bank.{station_of}
use Rattle.bank_rules.specs.Calls.{Lent}
use Rattle.ring_rules.specs.Ring.{stored_count, place_of, record_start}
use Rattle.frame.specs.Frame.{reads, clears, writes_one, writes_many, most_read, station, function, start, second, byte_count}
use Rattle.meter_rules.specs.declared.Judged.{Judged}
use Rattle.meter_rules.specs.declared.Judged.TheVariants.{FunctionNotAllowed, WrongAddress, BadItem, GoodRead, GoodRecord, GoodClear, GoodWrite}
use Rattle.meter_rules.specs.Write.{first_place, some_bad, stop_place, stop_side}
use Rattle.meter_rules.specs.Steps.{code_allowed, judged_frame}
use Rattle.controller_rules.specs.declared.Order.{Order}
use Rattle.controller_rules.specs.declared.Order.TheVariants.{Read, Record, Write, Writes, Clear, Unknown}
use Rattle.controller_rules.specs.Order.{Asked, ask, value_count, no_frame}
use Rattle.controller_rules.specs.Query.{query}
use Rattle.controller_rules.proofs.Framed.{framed, within, values_fit_lem, known}
use Rattle.controller_rules.proofs.Queries.{query_length, query_station, query_function, query_start, query_second, query_passes, query_count}
use Rattle.exchange.specs.Judged.{suits, place_at, judged_as}

-- a frame that passes and is for the bank's station, by what its parts say
module _ (given : Lent) (frame : List ℕ) (whole : passes frame ≡ true) (here : eqb (station frame) (station_of given.sheet given.bank) ≡ true)
    (at : ℕ) (starts : start frame ≡ at) where
  abbrev sheet : List ℕ
  sheet = given.sheet

  as_read : (count : ℕ) → function frame ≡ reads → second frame ≡ count → length frame ≡ 8 → 1 ≤ count → count ≤ most_read
      → in_records at (record_area sheet) ≡ false
      → judged_frame given frame
      ≡ first_case
      (when (not (code_allowed sheet reads)) FunctionNotAllowed ∷ when (not (all_open purpose.Read sheet (up_from at count))) WrongAddress ∷ [])
      (GoodRead (place_at sheet at) count)
  unfolding judged_frame first_case
  as_read count is counts long some few outside =
      simp (whole, here, is, counts, long, starts, ne_eqb count 0 (λ e. omega (arith, some, e)), le-ltb most_read count few, outside, or-false)

  as_record : function frame ≡ reads → second frame ≡ 1 → length frame ≡ 8 → in_records at (record_area sheet) ≡ true
      → judged_frame given frame
      ≡ first_case
      (when (not (code_allowed sheet reads)) FunctionNotAllowed
      ∷ when (ltb (stored_count given.ring) (record_number (record_area sheet) at)) WrongAddress ∷ [])
      (GoodRecord (record_start (record_area sheet) (place_of (record_area sheet) given.ring (record_number (record_area sheet) at))) (record_area sheet).words)
  unfolding judged_frame first_case
  as_record is counts long inside = simp (whole, here, is, counts, long, starts, inside, or-false)

  as_clear : function frame ≡ clears → second frame ≡ 0 → length frame ≡ 8
      → judged_frame given frame
      ≡ first_case
      (when (not (code_allowed sheet clears)) FunctionNotAllowed ∷ when (not (eqb at (clear_address sheet))) WrongAddress ∷ []) GoodClear
  unfolding judged_frame first_case
  as_clear is counts long = simp (whole, here, is, counts, long, starts)

  abbrev stops : Judged
  stops = BadItem (first_place sheet frame) (stop_place given frame) (stop_side given frame)

  as_write : function frame ≡ writes_one → length frame ≡ 8
      → judged_frame given frame
      ≡ first_case
      (when (not (code_allowed sheet writes_one)) FunctionNotAllowed ∷ when (not (all_open purpose.Write sheet (up_from at 1))) WrongAddress
      ∷ when (some_bad given frame) stops ∷ [])
      (GoodWrite (place_at sheet at) 1)
  unfolding judged_frame first_case
  as_write is long = simp (whole, here, is, long, starts, or-false)

  as_writes : (count : ℕ) → function frame ≡ writes_many → second frame ≡ count → byte_count frame ≡ 2 * count → length frame ≡ 9 + byte_count frame → 1 ≤ count
      → judged_frame given frame
      ≡ first_case
      (when (not (code_allowed sheet writes_many)) FunctionNotAllowed ∷ when (not (all_open purpose.Write sheet (up_from at count))) WrongAddress
      ∷ when (some_bad given frame) stops ∷ [])
      (GoodWrite (place_at sheet at) count)
  unfolding judged_frame first_case
  as_writes count is counts bytes long some =
      simp (whole, here, is, counts, long, bytes, starts, ne_eqb count 0 (λ e. omega (arith, some, e)), le-ltb (9 + 2 * count) 9 (omega arith), eq-eqb (9 + 2 * count) (9 + 2 * count) refl, eq-eqb (2 * count) (2 * count) refl, or-false)

-- ---- a built query, order by order

module _ (given : Lent) (stationed : ℕ) (values : List ℕ) (here : stationed ≡ station_of given.sheet given.bank) where
  ours : (asked : Asked) → asked.station ≡ stationed → eqb (station (query asked)) (station_of given.sheet given.bank) ≡ true
  ours asked is = eq-eqb (station (query asked)) (station_of given.sheet given.bank) (query_station asked ∙ is ∙ here)

  by_order : (order : Order) → no_frame (ask order stationed values) ≡ false → suits given.sheet order ≡ true
      → judged_frame given (query (ask order stationed values)) ≡ judged_as given (ask order stationed values)
  unfolding judged_as first_case
  by_order (Read first count) has fits =
      let asked : Asked = ask (Read first count) stationed values in
      let few = within 1 most_read count (framed asked has).number in
      as_read given (query asked) (query_passes asked has) (ours asked refl) first (query_start asked) count (query_function asked) (query_second asked)
      (query_length asked) few.0 few.1 (not-true (in_records first (record_area given.sheet)) fits)
  by_order (Record address words) has fits =
      let asked : Asked = ask (Record address words) stationed values in
      let area : RecordArea = record_area given.sheet in
      let inside = first_of (in_records address area) (eqb words area.words) fits in
      let many = eqb-true words area.words (second_of_lem (in_records address area) (eqb words area.words) fits) in
      as_record given (query asked) (query_passes asked has) (ours asked refl) address (query_start asked) (query_function asked) (query_second asked)
      (query_length asked) inside
      ∙ ap
      (λ (n : ℕ). first_case
      (when (not (code_allowed given.sheet reads)) FunctionNotAllowed ∷ when (ltb (stored_count given.ring) (record_number area address)) WrongAddress ∷ [])
      (GoodRecord (record_start area (place_of area given.ring (record_number area address))) n)) (sym many)
  by_order (Write address value) has fits =
      let asked : Asked = ask (Write address value) stationed values in
      as_write given (query asked) (query_passes asked has) (ours asked refl) address (query_start asked) (query_function asked) (query_length asked)
  by_order (Writes first) has fits =
      let asked : Asked = ask (Writes first) stationed values in
      let right = values_fit_lem values (framed asked has).number in
      let counted = query_count first stationed values in
      as_writes given (query asked) (query_passes asked has) (ours asked refl) first (query_start asked) (value_count values) (query_function asked) (query_second asked)
      (counted ∙ right.0) (query_length asked ∙ omega (arith, counted)) right.1
  by_order (Clear address) has fits =
      let asked : Asked = ask (Clear address) stationed values in
      as_clear given (query asked) (query_passes asked has) (ours asked refl) address (query_start asked) (query_function asked) (query_second asked) (query_length asked)
  by_order Unknown has fits = absurd (known (ask Unknown stationed values) has refl)

-- rule Q51
pub judged_as_order : (given : Lent) (asked : Asked) → no_frame asked ≡ false → asked.station ≡ station_of given.sheet given.bank
    → suits given.sheet asked.order ≡ true → judged_frame given (query asked) ≡ judged_as given asked
judged_as_order given asked has here fits = by_order given asked.station asked.values here asked.order has fits
