-- What tests on a row say: of a bound's upper word, and of an item at another place. Assumes nothing.
use mathlib.Core.Path.{◌≡◌, refl}
use mathlib.Core.Bool.{Bool, true, false, and-false}
use Prim.Native.Nat.{ℕ, ◌/◌, ◌≤◌, ◌<◌}
use native.Mathlib.Omega.{arith}
use lib.Dec.{ltb, eqb}
use borrow.Author.Tests.{eq-eqb, ne_eqb, ltb-true, ltb-false}
use Rattle.sheet_rules.specs.declared.Item.{Item}
use Rattle.sheet_rules.specs.Rules.{setting_at}

-- the upper word of a bound is 0 just where the bound is below 10000
pub upper_some : (n : ℕ) → 0x10000 ≤ n → eqb (n / 65536) 0 ≡ false
upper_some n high = ne_eqb (n / 65536) 0 (λ e. omega arith)

pub upper_none : (n : ℕ) → n < 0x10000 → eqb (n / 65536) 0 ≡ true
upper_none n low = eq-eqb (n / 65536) 0 (omega arith)

pub upper_test : (n : ℕ) → eqb (n / 65536) 0 ≡ ltb n 0x10000
upper_test n = go (ltb n 0x10000) refl
  where
    go : (below : Bool) → ltb n 0x10000 ≡ below → eqb (n / 65536) 0 ≡ below
    go true e = upper_none n (ltb-true n 0x10000 e)
    go false e = upper_some n (ltb-false n 0x10000 e)

-- an item at another place is not the setting's
pub elsewhere : (place : ℕ) (item : Item) → (item.place ≡ place → ⊥) → setting_at place item ≡ false
elsewhere place item apart = simp (ne_eqb item.place place apart, and-false)
