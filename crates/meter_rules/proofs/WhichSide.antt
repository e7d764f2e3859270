-- The side that a write's stop tells: it is that of the value that a bad item would have, and never in range; and of a pair of which one half is sent
-- that value is the joined one. (That no item in front of the stop is bad is `front_fine` of Keeping.) Assumes nothing.
use mathlib.Core.Path.{◌≡◌, sym, ap, ap₂, ◌∙◌}
use mathlib.Core.Bool.{Bool, true, false, not, cond, false≢true}
use mathlib.Core.List.{List}
use mathlib.Core.Logic.{◌⊎◌, inl, inr}
use Prim.Native.Nat.{ℕ, ◌+◌, ◌-◌, ◌*◌}
use borrow.Author.Tests.{not-true}
use Rattle.std.specs.Prelude.{None}
use Rattle.range.specs.Range.{side_of, inside}
use Rattle.sheet_rules.specs.declared.Item.{Item}
use Rattle.sheet_rules.specs.Rows.{items}
use Rattle.sheet_rules.specs.Rules.{is_pair}
use Rattle.lists.proofs.Tests.{second_of_lem}
use Rattle.lists.proofs.Among.{Among}
use Rattle.bank_rules.specs.Stores.{word_of}
use Rattle.bank_rules.specs.Bank.{value_by, side_by, good_by}
use Rattle.bank_rules.specs.Calls.{Lent}
use Rattle.frame.specs.Frame.{count, sent}
use Rattle.meter_rules.specs.Write.{first_place, in_run, would_be, touched, bad_item, some_bad, stop_of, place_of_stop, side_of_stop, stop_place, stop_side}
use Rattle.meter_rules.proofs.Stopping.{stops_at, stops}
use Rattle.meter_rules.proofs.Keeping.{stop_at}
use Rattle.meter_rules.proofs.Soundness.{some_stops}

-- ---- the stop

module _ (given : Lent) (frame : List ℕ) where
  -- the item that a write stops at, with the side of its value
  pub record Stopped : Type 0 where
    pub item : Item
    pub among : Among item (items given.sheet)
    pub bad : bad_item (first_place given.sheet frame) (count frame) given.bank frame item ≡ true
    pub at_place : item.place ≡ stop_place given frame
    pub at_side : side_by (would_be (first_place given.sheet frame) (count frame) given.bank frame) item ≡ stop_side given frame

  pub stopped : some_bad given frame ≡ true → Stopped
  unfolding stop_place stop_side
  stopped one = go (stop_at (first_place given.sheet frame) (count frame) given.bank frame (items given.sheet))
    where
      go : (stop_of given frame ≡ None)
          ⊎ ((item : Item) × Among item (items given.sheet)
          × (bad_item (first_place given.sheet frame) (count frame) given.bank frame item ≡ true)
          × (stops_at (first_place given.sheet frame) (count frame) given.bank frame item ≡ stop_of given frame))
          → Stopped
      go (inl none) = absurd (false≢true (sym (ap stops none) ∙ some_stops given frame ∙ one))
      go (inr found) =
          record {
            item = found.0;
            among = found.1;
            bad = found.2;
            at_place = ap place_of_stop found.3;
            at_side = ap side_of_stop found.3;
          }

  -- the side is never in range
  pub side_missed : some_bad given frame ≡ true → inside (stop_side given frame) ≡ false
  unfolding bad_item good_by
  side_missed one =
      let found = stopped one in
      let would : ℕ → ℕ = would_be (first_place given.sheet frame) (count frame) given.bank frame in
      ap inside (sym found.at_side)
      ∙ not-true (good_by would found.item)
      (second_of_lem (touched (first_place given.sheet frame) (count frame) found.item) (not (good_by would found.item)) found.bad)

-- ---- half of a pair

module _ (first many : ℕ) (bank frame : List ℕ) (item : Item) (pair : is_pair item ≡ true) where
  abbrev would : ℕ → ℕ
  would = would_be first many bank frame

  joined : value_by would item ≡ would item.place * 65536 + would (item.place + 1)
  joined = ap (λ (b : Bool). cond b (would item.place * 65536 + would (item.place + 1)) (would item.place)) pair

  sent_at : (place : ℕ) → in_run first many place ≡ true → would place ≡ sent frame (place - first)
  sent_at place within = ap (λ (b : Bool). cond b (sent frame (place - first)) (word_of bank place)) within

  kept_at : (place : ℕ) → in_run first many place ≡ false → would place ≡ word_of bank place
  kept_at place out = ap (λ (b : Bool). cond b (sent frame (place - first)) (word_of bank place)) out

  -- the upper half alone is sent, with the lower one in the bank
  pub side_of_upper : in_run first many item.place ≡ true → in_run first many (item.place + 1) ≡ false
      → side_by would item ≡ side_of item.kind item.low item.high (sent frame (item.place - first) * 65536 + word_of bank (item.place + 1))
  unfolding side_by
  side_of_upper upper lower =
      ap (side_of item.kind item.low item.high)
      (joined ∙ ap₂ (λ (u l : ℕ). u * 65536 + l) (sent_at item.place upper) (kept_at (item.place + 1) lower))

  -- the lower half alone is sent, with the upper one in the bank
  pub side_of_lower : in_run first many item.place ≡ false → in_run first many (item.place + 1) ≡ true
      → side_by would item ≡ side_of item.kind item.low item.high (word_of bank item.place * 65536 + sent frame (item.place + 1 - first))
  unfolding side_by
  side_of_lower upper lower =
      ap (side_of item.kind item.low item.high)
      (joined ∙ ap₂ (λ (u l : ℕ). u * 65536 + l) (kept_at item.place upper) (sent_at (item.place + 1) lower))
