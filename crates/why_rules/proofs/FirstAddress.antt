-- The first address of a run that is not open: each one in front of it is open, and it is not. Over a sound sheet it is where the run's reach
-- ends. Assumes nothing.
use mathlib.Core.Path.{◌≡◌, refl, sym, ap, ◌∙◌}
use mathlib.Core.Bool.{Bool, true, false, cond}
use mathlib.Core.List.{List}
use Prim.Native.Nat.{ℕ, zero, suc, ◌+◌, ◌≤◌, ◌<◌}
use native.Mathlib.Omega.{arith}
use lib.Dec.{ltb}
use borrow.Author.Tests.{leb-false, ltb-true, ltb-false}
use Rattle.lists.specs.Lists.{up_from}
use Rattle.sheet_rules.specs.Rows.{areas}
use Rattle.sheet_rules.specs.Rules.{sound}
use Rattle.sheet_rules.specs.Lookup.{lies_in}
use Rattle.sheet_rules.specs.declared.Purpose.{Purpose}
use Rattle.sheet_rules.specs.Runs.{opens, all_open, reach}
use Rattle.sheet_rules.proofs.Reach.{reach_from, all_open_reach, reach_open, reach_shut}
use Rattle.why_rules.specs.Facts.{first_shut}

module _ (purpose : Purpose) (sheet : List ℕ) where
  abbrev open? : ℕ → Bool
  open? address = opens purpose (lies_in (areas sheet) address)

  -- an address of a run that is not open, and has none such in front of it, is the first
  pub first_shut_is : (start count address : ℕ) → start ≤ address → address < start + count → ((k : ℕ) → start + k < address → open? (start + k) ≡ true)
      → open? address ≡ false → first_shut purpose sheet (up_from start count) ≡ address
  unfolding first_shut up_from
  first_shut_is start zero address low high front shut = absurd (omega arith)
  first_shut_is start (suc count) address low high front shut =
      go (ltb start address) refl
      (λ past. first_shut_is (suc start) count address past (omega arith)
      (λ k less. ap open? (let same : suc start + k ≡ start + suc k = omega arith in same) ∙ front (suc k) (omega arith)) shut)
    where
      go : (before : Bool) → ltb start address ≡ before → (suc start ≤ address → first_shut purpose sheet (up_from (suc start) count) ≡ address)
          → cond (open? start) (first_shut purpose sheet (up_from (suc start) count)) start ≡ address
      go true e rest =
          let less : start < address = ltb-true start address e in
          let same : start ≡ start + 0 = omega arith in
          ap (λ (b : Bool). cond b (first_shut purpose sheet (up_from (suc start) count)) start) (ap open? same ∙ front 0 (omega arith)) ∙ rest (omega arith)
      go false e rest =
          let here : start ≡ address = omega (arith, ltb-false start address e) in
          ap (λ (b : Bool). cond b (first_shut purpose sheet (up_from (suc start) count)) start) (ap open? here ∙ shut) ∙ here

  module _ (keeps : sound sheet ≡ true) (start count : ℕ) (shut : all_open purpose sheet (up_from start count) ≡ false) where
    within : reach purpose (areas sheet) start < start + count
    within = leb-false (start + count) (reach purpose (areas sheet) start) (sym (all_open_reach sheet keeps purpose start count) ∙ shut)

    pub first_shut_reach : first_shut purpose sheet (up_from start count) ≡ reach purpose (areas sheet) start
    first_shut_reach =
        first_shut_is start count (reach purpose (areas sheet) start) (reach_from purpose (areas sheet) start) within
        (reach_open sheet keeps purpose start) (reach_shut sheet keeps purpose start)

    -- rule Y20: it is an address of the run, each one in front of it is open, and it is not
    pub record FirstOf (address : ℕ) : Type 0 where
      pub low : start ≤ address
      pub high : address < start + count
      pub front : (k : ℕ) → start + k < address → open? (start + k) ≡ true
      pub itself : open? address ≡ false

    pub first_shut_lem : FirstOf (first_shut purpose sheet (up_from start count))
    first_shut_lem = rw first_shut_reach found
      where
        found : FirstOf (reach purpose (areas sheet) start)
        found =
            record {
              low = reach_from purpose (areas sheet) start;
              high = within;
              front = reach_open sheet keeps purpose start;
              itself = reach_shut sheet keeps purpose start;
            }
