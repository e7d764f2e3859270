-- Posted words lie below 10000: nothing lies above FFFF. Assumes nothing.
use mathlib.Core.Path.{◌≡◌, refl, sym, ap, ◌∙◌}
use mathlib.Core.Bool.{Bool, true, false}
use mathlib.Core.List.{List}
use Prim.Native.Nat.{ℕ, zero, suc, ◌+◌, ◌≤◌, ◌<◌}
use native.Mathlib.Omega.{arith}
use native.Mathlib.Nat.{not-suc-le-zero}
use lib.Dec.{leb}
use borrow.Author.Tests.{leb-true, leb-false}
use Rattle.words.specs.Words.{Bytes}
use Rattle.lists.specs.Lists.{up_from, each}
use Rattle.lists.proofs.Tests.{first_of, second_of_lem}
use Rattle.sheet_rules.specs.Rows.{areas}
use Rattle.sheet_rules.specs.Lookup.{lies_in}
use Rattle.sheet_rules.proofs.Addresses.{lies_nowhere}
use Rattle.bank_rules.specs.Bank.{is_read_only, all_read_only}

pub read_only_below : (sheet : List ℕ) → Bytes sheet → (address : ℕ) → is_read_only (lies_in (areas sheet) address) ≡ true → address < 0x10000
read_only_below sheet small address readable = go (leb 0x10000 address) refl
  where
    go : (past : Bool) → leb 0x10000 address ≡ past → address < 0x10000
    go false e = leb-false 0x10000 address e
    go true e =
        let z : ◌≡◌ {A = Bool} false true = sym (ap is_read_only (lies_nowhere sheet small address (leb-true 0x10000 address e))) ∙ readable in
        let n : ◌≡◌ {A = ℕ} 0 1 = cc in
        omega arith

-- the last address of a run that lies in access 1 areas is at most FFFF
module _ (sheet : List ℕ) (small : Bytes sheet) where
  last_below : (count address : ℕ) → all_read_only sheet (up_from address (suc count)) ≡ true → address + count < 0x10000
  unfolding all_read_only each up_from
  last_below zero address readable =
      omega (arith, read_only_below sheet small address (first_of (is_read_only (lies_in (areas sheet) address)) true readable))
  last_below (suc count) address readable =
      omega (
        arith,
        last_below count (suc address)
            (second_of_lem (is_read_only (lies_in (areas sheet) address)) (all_read_only sheet (up_from (suc address) (suc count))) readable),
      )

  pub read_only_run : (address count : ℕ) → 0 < count → all_read_only sheet (up_from address count) ≡ true → address + count ≤ 0x10000
  read_only_run address zero none readable = absurd (not-suc-le-zero none)
  read_only_run address (suc count) more readable = omega (arith, last_below count address readable)
