-- The judgement of a write, steps 6 and 7, from what its calls found: the number of registers, whether all are open, the first place and the
-- stop. Assumes nothing.
use Prim.Native.Nat.{ℕ}
use mathlib.Core.Path.{◌≡◌, refl, ◌∙◌, sym, ap, ap₂}
use mathlib.Core.Bool.{Bool, true, false, not, cond, ◌&&◌, true≢false}
use mathlib.Core.List.{List}
use Rattle.std.specs.Prelude.{Option, None}
use Rattle.range.specs.declared.Side.{Side}
use Rattle.range.specs.declared.Side.TheVariants.{InRange}
use Rattle.range.specs.Range.{inside}
use Rattle.sheet_rules.specs.declared.Item.{Item}
use Rattle.sheet_rules.specs.Rows.{areas, items}
use Rattle.lists.specs.Lists.{up_from}
use Rattle.bank_rules.specs.Bank.{side_by, good_by}
use Rattle.bank_rules.specs.Calls.{Lent}
use Rattle.sheet_rules.specs.Lookup.{lies_in, place_in}
use Rattle.frame.specs.declared.Parts.{Parts}
use Rattle.meter_rules.specs.declared.Judged.TheVariants.{WrongAddress, BadItem, GoodWrite}
use Rattle.sheet_rules.specs.declared.Purpose.TheVariants.{Write}
use Rattle.frame.specs.Frame.{parts_of, many_of, is_write, count}
use Rattle.sheet_rules.specs.Runs.{all_open}
use Rattle.meter_rules.specs.Write.{first_place, would_be, touched, bad_item, stop_in, stop_of, place_of_stop, side_of_stop, stop_place, stop_side, stops_with}
use Rattle.meter_rules.specs.Steps.{wrong_address}
use Rattle.meter.specs.Stages.{judged_from, side_left}
use Rattle.meter.proofs.Staging.{stops_address, stops_item, good_write}
use Rattle.meter_rules.proofs.Order.{write_address, write_value, write_bad}
use Rattle.meter_rules.proofs.Stopping as stopping
use Rattle.meter_rules.proofs.Soundness.{some_stops}
use Rattle.meter_rules.specs.declared.Stop.{Stop}

-- ---- an item, by the side at which a write would leave it

module _ (first many : ℕ) (bank frame : List ℕ) (item : Item) {side : Side} (is : side ≡ side_left first many bank frame item) where
  abbrev would : ℕ → ℕ
  would = would_be first many bank frame

  -- in range: it is not bad
  pub left_inside : inside side ≡ true → bad_item first many bank frame item ≡ false
  unfolding bad_item good_by
  left_inside fine = go (touched first many item) (ap inside (sym is) ∙ fine)
    where
      go : (touch : Bool) → inside (cond touch (side_by would item) InRange) ≡ true → (touch && not (inside (side_by would item))) ≡ false
      go true e = ap not e
      go false e = refl

  -- out of it: it is bad, and the side is that of its value
  pub left_bad : inside side ≡ false → (bad_item first many bank frame item ≡ true) × (side ≡ side_by would item)
  unfolding bad_item good_by
  left_bad missed = go (touched first many item) is (ap inside (sym is) ∙ missed)
    where
      go : (touch : Bool) → side ≡ cond touch (side_by would item) InRange → inside (cond touch (side_by would item) InRange) ≡ false
          → ((touch && not (inside (side_by would item))) ≡ true) × (side ≡ side_by would item)
      go true same e = (ap not e, same)
      go false same e = absurd (true≢false e)

-- ---- the write

module _ (given : Lent) (frame : List ℕ) (write : is_write frame ≡ true) (parts : Parts) (apart : parts ≡ parts_of frame) {many : ℕ}
    (counts : many ≡ many_of parts.function parts.second) where
  counted : many ≡ count frame
  counted = counts ∙ ap (λ (p : Parts). many_of p.function p.second) apart

  address_is : wrong_address given frame ≡ not (all_open Write given.sheet (up_from parts.start many))
  address_is =
      write_address frame write given
      ∙ ap not (sym (ap₂ (λ (s n : ℕ). all_open Write given.sheet (up_from s n)) (ap (λ (p : Parts). p.start) apart) counted))

  -- an address is shut
  pub write_shut_lem : all_open Write given.sheet (up_from parts.start many) ≡ false → WrongAddress ≡ judged_from 5 given frame
  write_shut_lem shut = stops_address given frame (address_is ∙ ap not shut)

  module _ (all : all_open Write given.sheet (up_from parts.start many) ≡ true) {first : ℕ} (places : first ≡ place_in (lies_in (areas given.sheet) parts.start))
      {stop : (Option Stop)} (stops : stop ≡ stop_in first many given.bank frame (items given.sheet)) where
    placed : first ≡ first_place given.sheet frame
    placed = places ∙ ap (λ (p : Parts). place_in (lies_in (areas given.sheet) p.start)) apart

    stopped : stop ≡ stop_of given frame
    unfolding stop_of
    stopped = stops ∙ ap₂ (λ (first many : ℕ). stop_in first many given.bank frame (items given.sheet)) placed counted

    -- the write stops
    pub write_stopped : {place : ℕ} {side : Side} → stop ≡ stops_with place side → BadItem first place side ≡ judged_from 5 given frame
    unfolding stop_place stop_side
    write_stopped {place} {side} at =
        let found : stop_of given frame ≡ stops_with place side = sym stopped ∙ at in
        ap (λ (n : ℕ). BadItem n place side) placed
        ∙ sym (ap (λ (s : Option Stop). BadItem (first_place given.sheet frame) (place_of_stop s) (side_of_stop s)) found)
        ∙ stops_item given frame (address_is ∙ ap not all) (write_value frame write)
        (write_bad frame write given ∙ sym (some_stops given frame) ∙ ap stopping.stops found)

    -- it does not
    pub write_good : stop ≡ None → GoodWrite first many ≡ judged_from 5 given frame
    write_good none =
        ap₂ GoodWrite placed counted
        ∙ good_write given frame write (address_is ∙ ap not all) (sym (some_stops given frame) ∙ ap stopping.stops (sym stopped ∙ none))
