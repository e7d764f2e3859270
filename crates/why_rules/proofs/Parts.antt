-- The facts and the steps of judgement: step 1 is three facts, step 6 a part of the count and the address, and all other steps are facts
-- themselves. Assumes nothing.
use mathlib.Core.Path.{◌≡◌, refl, ap, ap₂, ◌∙◌}
use mathlib.Core.Bool.{Bool, true, false, not, cond, ◌&&◌, ◌||◌, or-false}
use mathlib.Core.List.{List}
use mathlib.Core.Logic.{◌⊎◌, inl, inr}
use Prim.Native.Nat.{ℕ}
use lib.Dec.{leb, ltb, eqb}
use lib.ListN.{length}
use borrow.Author.Tests.{le-leb, lt-leb, ltb-true, ltb-false, eqb-true, not-true}
use Rattle.std.specs.Prelude.{Option}
use Rattle.check_value.specs.Frame.{passes, check_agrees}
use Rattle.frame.specs.Frame.{reads, clears, most_read, function, start, second, is_write, run}
use Rattle.sheet_rules.specs.Rows.{clear_address}
use Rattle.sheet_rules.specs.declared.Purpose.TheVariants.{Read, Write}
use Rattle.sheet_rules.specs.Runs.{opens, all_open}
use Rattle.sheet_rules.proofs.Records.{record_nowhere}
use Rattle.sheet_rules.specs.Rules.{sound}
use Rattle.sheet_rules.specs.declared.Lies.{Lies}
use Rattle.bank_rules.specs.Calls.{Lent}
use Rattle.meter_rules.specs.Steps.{fails_check, starts_in_records, beyond_stored, wrong_count, wrong_address}
use Rattle.meter_rules.proofs.Records.{record_count, record_shut}
use Rattle.meter_rules.proofs.Order.{asks_for, asks_write, write_is, many_is}
use Rattle.lists.specs.Lists.{up_from}
use Rattle.lists.proofs.Tests.{first_of, second_of_lem}
use Rattle.why_rules.specs.Facts.{too_short, too_long, check_differs, reads_too_many, shut_read, shut_address, first_shut, first_bad_address}

-- at least a number, and below it
not_below : (low n : ℕ) → leb low n ≡ not (ltb n low)
not_below low n = go (ltb n low) refl
  where
    go : (less : Bool) → ltb n low ≡ less → leb low n ≡ not less
    go true e = lt-leb low n (ltb-true n low e)
    go false e = le-leb low n (ltb-false n low e)

pub fails_check_lem : (frame : List ℕ) → fails_check frame ≡ (too_short frame || too_long frame || check_differs frame)
unfolding passes
fails_check_lem frame =
    ap₂ (λ (a b : Bool). not (a && b && check_agrees frame)) (not_below 4 (length frame)) (not_below (length frame) 100)
    ∙ go (too_short frame) (too_long frame) (check_agrees frame)
  where
    go : (short long agrees : Bool) → not (not short && not long && agrees) ≡ (short || long || not agrees)
    go true long agrees = refl
    go false true agrees = refl
    go false false agrees = refl

pub wrong_address_lem : (given : Lent) (frame : List ℕ) → wrong_address given frame ≡ (reads_too_many given.sheet frame || shut_address given frame)
wrong_address_lem given frame =
    go (eqb (function frame) reads) (starts_in_records given.sheet frame) (ltb most_read (second frame)) (beyond_stored given frame)
    (not (all_open Read given.sheet (run frame))) (is_write frame && not (all_open Write given.sheet (run frame)))
    (eqb (function frame) clears && not (eqb (start frame) (clear_address given.sheet)))
  where
    go : (read inside many beyond shut write clear : Bool)
        → (read && cond inside beyond (many || shut) || write || clear) ≡ (read && many && not inside || (read && cond inside beyond shut || write || clear))
    go true true true beyond shut write clear = refl
    go true true false beyond shut write clear = refl
    go true false true beyond shut write clear = refl
    go true false false beyond shut write clear = refl
    go false inside many beyond shut write clear = refl

-- ---- an address that is not open, function by function

one : (a b c : Bool) → (a || b || c) ≡ true → (a ≡ true) ⊎ (b ≡ true) ⊎ (c ≡ true)
one true b c e = inl refl
one false true c e = inr (inl refl)
one false false c e = inr (inr e)

-- a record lies in no area, so its address is not open either
module _ (given : Lent) (frame : List ℕ) (keeps : sound given.sheet ≡ true) (right : wrong_count given.sheet frame ≡ false) where
  shut_read_lem : function frame ≡ reads → shut_read given frame ≡ true → all_open Read given.sheet (run frame) ≡ false
  shut_read_lem is shut = go (starts_in_records given.sheet frame) refl shut
    where
      go : (inside : Bool) → starts_in_records given.sheet frame ≡ inside
          → cond inside (beyond_stored given frame) (not (all_open Read given.sheet (run frame))) ≡ true → all_open Read given.sheet (run frame) ≡ false
      go true e beyond = record_shut given.sheet frame is e keeps (record_count given.sheet frame is e right)
      go false e closed = not-true (all_open Read given.sheet (run frame)) closed

  pub which_shut : shut_address given frame ≡ true
      → ((function frame ≡ reads) × (all_open Read given.sheet (run frame) ≡ false))
      ⊎ ((is_write frame ≡ true) × (all_open Write given.sheet (run frame) ≡ false))
      ⊎ ((function frame ≡ clears) × (eqb (start frame) (clear_address given.sheet) ≡ false))
  which_shut e = go (one (eqb (function frame) reads && shut_read given frame) (is_write frame && not (all_open Write given.sheet (run frame)))
      (eqb (function frame) clears && not (eqb (start frame) (clear_address given.sheet))) e)
    where
      both : (a b : Bool) → (a && not b) ≡ true → (a ≡ true) × (b ≡ false)
      both a b e = (first_of a (not b) e, not-true b (second_of_lem a (not b) e))

      go : ((eqb (function frame) reads && shut_read given frame) ≡ true) ⊎ ((is_write frame && not (all_open Write given.sheet (run frame))) ≡ true)
          ⊎ ((eqb (function frame) clears && not (eqb (start frame) (clear_address given.sheet))) ≡ true)
          → ((function frame ≡ reads) × (all_open Read given.sheet (run frame) ≡ false))
          ⊎ ((is_write frame ≡ true) × (all_open Write given.sheet (run frame) ≡ false))
          ⊎ ((function frame ≡ clears) × (eqb (start frame) (clear_address given.sheet) ≡ false))
      go (inl e) =
          let is = eqb-true (function frame) reads (first_of (eqb (function frame) reads) (shut_read given frame) e) in
          inl (is, shut_read_lem is (second_of_lem (eqb (function frame) reads) (shut_read given frame) e))
      go (inr (inl e)) = inr (inl (both (is_write frame) (all_open Write given.sheet (run frame)) e))
      go (inr (inr e)) =
          let is = both (eqb (function frame) clears) (eqb (start frame) (clear_address given.sheet)) e in
          inr (inr (eqb-true (function frame) clears is.0, is.1))

module _ (sheet frame : List ℕ) where
  pub read_told : function frame ≡ reads → first_bad_address sheet frame ≡ first_shut Read sheet (run frame)
  read_told is =
      ap (λ (b : Bool). cond b (first_shut Read sheet (run frame)) (cond (is_write frame) (first_shut Write sheet (run frame)) (start frame)))
      (asks_for frame reads is).is_read

  pub write_told : is_write frame ≡ true → first_bad_address sheet frame ≡ first_shut Write sheet (run frame)
  write_told is =
      ap₂ (λ (r w : Bool). cond r (first_shut Read sheet (run frame)) (cond w (first_shut Write sheet (run frame)) (start frame)))
      (asks_write frame is).is_read is

  pub clear_told : function frame ≡ clears → first_bad_address sheet frame ≡ start frame
  clear_told is =
      ap₂ (λ (r w : Bool). cond r (first_shut Read sheet (run frame)) (cond w (first_shut Write sheet (run frame)) (start frame)))
      (asks_for frame clears is).is_read (write_is frame (asks_for frame clears is))

-- of a read the address is a record's own, beyond what is stored, or one of the run
module _ (given : Lent) (frame : List ℕ) (is : function frame ≡ reads) where
  pub shut_of_read : shut_address given frame ≡ shut_read given frame
  shut_of_read =
      let asks = asks_for frame reads is in
      ap₂ (λ (r w : Bool). r && shut_read given frame || w && not (all_open Write given.sheet (run frame))
      || eqb (function frame) clears && not (eqb (start frame) (clear_address given.sheet))) asks.is_read (write_is frame asks)
      ∙ ap (λ (c : Bool). shut_read given frame || false || c && not (eqb (start frame) (clear_address given.sheet))) asks.is_clear
      ∙ or-false (shut_read given frame || false) ∙ or-false (shut_read given frame)

  pub record_told : sound given.sheet ≡ true → starts_in_records given.sheet frame ≡ true → second frame ≡ 1
      → first_bad_address given.sheet frame ≡ start frame
  unfolding first_shut up_from
  record_told keeps inside one =
      read_told given.sheet frame is
      ∙ ap (λ (n : ℕ). first_shut Read given.sheet (up_from (start frame) n)) (many_is frame (asks_for frame reads is) ∙ one)
      ∙ ap (λ (lies : Option Lies). cond (opens Read lies) 0 (start frame)) (record_nowhere given.sheet keeps (start frame) inside)
