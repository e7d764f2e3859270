-- The text of a number by its sign and its size, and a number of 64 bits as the machine has it. Assumes nothing.
use Prim.Native.Char.{code}
use Prim.Native.Nat.{ℕ, zero, suc, ◌-◌, ◌^◌, ◌<◌}
use mathlib.Core.Path.{◌≡◌, refl}
use mathlib.Core.Bool.{Bool, true, false, cond}
use mathlib.Core.List.{◌∷◌}
use native.Mathlib.Omega.{arith}
use lib.Dec.{ltb}
use lib.IntN.{ℤ, pos, negsuc, nat_abs}
use lib.Signed.{lt_z}
use mir.Syntax.{w64}
use mir.Val.{SFits, of_z, to_z}
use mir.ValLaws.{to_z-of_z}
use borrow.Author.Tests.{ltb-true}
use Rattle.range.specs.Range.{number_of}
use Rattle.listing.specs.Text.{decimal, signed_decimal}

-- a number, written to its bits and read back
abbrev pub read_back : ℤ → ℤ
read_back z = to_z w64 (of_z w64 z)

small_fits : (z : ℤ) → nat_abs z < 2 ^ 32 → SFits w64 z
small_fits (pos n) small = record { sfits = omega arith }
small_fits (negsuc n) small = record { sfits = omega arith }

pub read_back_lem : (z : ℤ) → nat_abs z < 2 ^ 32 → read_back z ≡ z
read_back_lem z small = to_z-of_z w64 z (small_fits z small)

pub from_zero_lem : (z : ℤ) → lt_z z (pos 0) ≡ false → z ≡ pos (nat_abs z)
from_zero_lem (pos n) e = refl
from_zero_lem (negsuc n) e = cc

pub text_below_zero : (z : ℤ) → lt_z z (pos 0) ≡ true → signed_decimal z ≡ code "-" ∷ decimal (nat_abs z)
unfolding signed_decimal
text_below_zero (pos n) e = absurd (let below = ltb-true n 0 e in omega arith)
text_below_zero (negsuc n) e = refl

pub text_from_zero : (z : ℤ) → lt_z z (pos 0) ≡ false → signed_decimal z ≡ decimal (nat_abs z)
unfolding signed_decimal
text_from_zero (pos n) e = refl
text_from_zero (negsuc n) e = cc

-- the number that a 32-bit value stands for is that small
pub number_small : (kind value : ℕ) → value < 2 ^ 32 → nat_abs (number_of kind value) < 2 ^ 32
unfolding number_of
number_small zero value small = small
number_small (suc zero) value small = go (ltb value 0x8000) (ltb value 0x10000)
  where
    go : (low below : Bool)
        → nat_abs (cond low (pos value) (cond below (negsuc (0x10000 - suc value)) (pos (value - 0x10000)))) < 2 ^ 32
    go true below = small
    go false true = omega arith
    go false false = omega arith
number_small (suc (suc kind)) value small = small
