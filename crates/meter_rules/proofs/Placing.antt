-- A place that an address gives is below 257, so that sums of places and counts are small. Assumes nothing.
use mathlib.Core.Path.{◌≡◌, refl}
use mathlib.Core.Bool.{true}
use mathlib.Core.List.{List}
use Prim.Native.Nat.{ℕ, ◌≤◌}
use native.Mathlib.Omega.{arith}
use Rattle.std.specs.Prelude.{Option, None, Some}
use Rattle.sheet_rules.specs.Rows.{areas}
use Rattle.sheet_rules.specs.Rules.{sound}
use Rattle.sheet_rules.specs.Lookup.{lies_in, place_in}
use Rattle.sheet_rules.proofs.Sound.{sound_numbers}
use Rattle.sheet_rules.proofs.Addresses.{lies_below}
use Rattle.sheet_rules.specs.declared.Lies.{Lies}

pub place_small : (sheet : List ℕ) → sound sheet ≡ true → (address : ℕ) → place_in (lies_in (areas sheet) address) ≤ 256
place_small sheet right address = go (lies_in (areas sheet) address) refl
  where
    go : (lies : Option Lies) → lies_in (areas sheet) address ≡ lies → place_in lies ≤ 256
    go (Some lies) e = omega (arith, lies_below sheet right address lies.place lies.access e, sound_numbers sheet right)
    go None e = omega arith
