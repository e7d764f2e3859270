-- The number that a value stands for, by cases on the kind, that it fits a signed number of 64 bits, and that keys keep the order of the
-- numbers. Assumes nothing.
use mathlib.Core.Path.{◌≡◌, refl, sym, ap, ◌∙◌}
use mathlib.Core.Bool.{Bool, true, false, cond}
use Prim.Native.Nat.{ℕ, zero, suc, ◌+◌, ◌-◌, ◌≤◌, ◌<◌, ◌^◌}
use native.Mathlib.Omega.{arith}
use lib.Dec.{leb, ltb}
use lib.IntN.{ℤ, pos, negsuc, nat_abs, pos-ne-negsuc, ◌+ℤ◌, ◌-ℤ◌}
use lib.Signed.{le_z}
use mir.Syntax.{w64}
use mir.Val.{SFits, to_z}
use borrow.Author.Tests.{lt-ltb, le-ltb, le-leb, lt-leb, leb-true, leb-false, ltb-false}
use Rattle.range.specs.Range.{number_of, signed_word}

-- every kind but the signed word: the number is the value
pub number_plain : (kind value : ℕ) → (kind ≡ signed_word → ⊥) → number_of kind value ≡ pos value
unfolding number_of
number_plain zero value other = refl
number_plain (suc zero) value other = absurd (other refl)
number_plain (suc (suc kind)) value other = refl

-- a signed word in the lower half, and in the upper half
pub number_low : (kind value : ℕ) → kind ≡ signed_word → value < 0x8000 → number_of kind value ≡ pos value
unfolding number_of
number_low kind value signed low = rw signed (simp (lt-ltb value 0x8000 low))

pub number_high : (kind value : ℕ) → kind ≡ signed_word → 0x8000 ≤ value → number_of kind value ≡ pos value -ℤ pos 0x10000
unfolding number_of
number_high kind value signed high = rw signed (simp (le-ltb value 0x8000 high))

-- a 32-bit value, cast to a signed number of 64 bits, is itself
pub cast_value : (value : ℕ) → value < 2 ^ 32 → to_z w64 value ≡ pos value
cast_value value small = simp (lt-ltb value (2 ^ 63) (omega arith))

pub less_fits : (value : ℕ) → value < 2 ^ 32 → SFits w64 (pos value -ℤ pos 0x10000)
less_fits value small = go (ltb value 0x10000) refl
  where
    go : (below : Bool) → ltb value 0x10000 ≡ below → SFits w64 (cond below (negsuc (0x10000 - suc value)) (pos (value - 0x10000)))
    go true e = record { sfits = omega arith }
    go false e = record { sfits = omega arith }

-- ---- keys: numbers and so many more, none of them negative

-- the key of a number that is not negative, and of one that is
key_pos : (more n key : ℕ) → pos key ≡ pos n +ℤ pos more → key ≡ n + more
key_pos more n key e = ap nat_abs e

key_neg : (more n key : ℕ) → pos key ≡ negsuc n +ℤ pos more → key + suc n ≡ more
key_neg more n key e = go (ltb more (suc n)) refl e
  where
    go : (below : Bool) → ltb more (suc n) ≡ below → pos key ≡ cond below (negsuc (suc n - suc more)) (pos (more - suc n)) → key + suc n ≡ more
    go true says e = absurd (pos-ne-negsuc key (suc n - suc more) e)
    go false says e = omega (arith, ltb-false more (suc n) says, ap nat_abs e)

-- two tests of naturals that say the same
leb_same : (a b c d : ℕ) → (a ≤ b → c ≤ d) → (b < a → d < c) → leb a b ≡ leb c d
leb_same a b c d holds fails = go (leb a b) refl
  where
    go : (says : Bool) → leb a b ≡ says → leb a b ≡ leb c d
    go true e = e ∙ sym (le-leb c d (holds (leb-true a b e)))
    go false e = e ∙ sym (lt-leb c d (fails (leb-false a b e)))

-- keys stand in the order of their numbers
pub order_kept : (more : ℕ) (x y : ℤ) (j k : ℕ) → pos j ≡ x +ℤ pos more → pos k ≡ y +ℤ pos more → leb j k ≡ le_z x y
order_kept more (pos x) (pos y) j k p q =
    let a = key_pos more x j p in
    let b = key_pos more y k q in
    leb_same j k x y (λ h. omega (arith, a, b)) (λ h. omega (arith, a, b))
order_kept more (pos x) (negsuc y) j k p q = lt-leb j k (omega (arith, key_pos more x j p, key_neg more y k q))
order_kept more (negsuc x) (pos y) j k p q = le-leb j k (omega (arith, key_neg more x j p, key_pos more y k q))
order_kept more (negsuc x) (negsuc y) j k p q =
    let a = key_neg more x j p in
    let b = key_neg more y k q in
    leb_same j k y x (λ h. omega (arith, a, b)) (λ h. omega (arith, a, b))
