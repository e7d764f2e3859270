-- What the functions of this crate do with one kind of value each, over plain numbers: their goals are found by these. Assumes nothing.
use mathlib.Core.Path.{◌≡◌, refl, sym, ap, ap₂, ◌∙◌}
use Prim.Native.Nat.{ℕ, ◌+◌, ◌≤◌, ◌<◌, ◌^◌}
use native.Mathlib.Omega.{arith}
use lib.Dec.{leb}
use lib.IntN.{ℤ, pos, ◌+ℤ◌, ◌-ℤ◌, -ℤ-+ℤ_cancel}
use lib.Signed.{le_z}
use mir.Syntax.{w64}
use mir.Val.{to_z, of_z}
use mir.ValLaws.{to_z-of_z}
use Rattle.range.specs.Range.{number_of, signed_word, not_above}
use Rattle.range.proofs.Numbers.{number_plain, number_low, number_high, cast_value, less_fits, order_kept}

-- the key of a signed word in the lower and in the upper half
pub low_key : (value : ℕ) → value < 0x8000 → pos (value + 0x10000) ≡ number_of signed_word value +ℤ pos 0x10000
low_key value low = ap (λ (n : ℤ). n +ℤ pos 0x10000) (sym (number_low signed_word value refl low))

pub high_key : (value : ℕ) → 0x8000 ≤ value → pos value ≡ number_of signed_word value +ℤ pos 0x10000
high_key value high =
    sym (ap (λ (n : ℤ). n +ℤ pos 0x10000) (number_high signed_word value refl high) ∙ -ℤ-+ℤ_cancel (pos value) (pos 0x10000))

-- signed words are compared by their keys
pub keys_compared : (kind a b x y : ℕ) → kind ≡ signed_word → pos x ≡ number_of signed_word a +ℤ pos 0x10000
    → pos y ≡ number_of signed_word b +ℤ pos 0x10000 → leb x y ≡ not_above kind a b
unfolding not_above
keys_compared kind a b x y signed first second =
    order_kept 0x10000 (number_of kind a) (number_of kind b) x y
    (first ∙ ap (λ (k : ℕ). number_of k a +ℤ pos 0x10000) (sym signed)) (second ∙ ap (λ (k : ℕ). number_of k b +ℤ pos 0x10000) (sym signed))

-- all others as they are
pub values_compared : (kind a b : ℕ) → (kind ≡ signed_word → ⊥) → leb a b ≡ not_above kind a b
unfolding not_above
values_compared kind a b other = sym (ap₂ (λ (x y : ℤ). le_z x y) (number_plain kind a other) (number_plain kind b other))

-- a value as a signed number of 64 bits, of another kind, and of a signed word in the lower and in the upper half
pub plain_cast : (kind value : ℕ) → (kind ≡ signed_word → ⊥) → value < 2 ^ 32 → to_z w64 value ≡ number_of kind value
plain_cast kind value other small = cast_value value small ∙ sym (number_plain kind value other)

pub low_cast : (kind value : ℕ) → kind ≡ signed_word → value < 0x8000 → to_z w64 value ≡ number_of kind value
low_cast kind value signed low = cast_value value (omega arith) ∙ sym (number_low kind value signed low)

pub high_cast : (kind value : ℕ) → kind ≡ signed_word → 0x8000 ≤ value → value < 2 ^ 32
    → to_z w64 (of_z w64 (to_z w64 value -ℤ pos 0x10000)) ≡ number_of kind value
high_cast kind value signed high small =
    ap (λ (z : ℤ). to_z w64 (of_z w64 (z -ℤ pos 0x10000))) (cast_value value small)
    ∙ to_z-of_z w64 (pos value -ℤ pos 0x10000) (less_fits value small) ∙ sym (number_high kind value signed high)
