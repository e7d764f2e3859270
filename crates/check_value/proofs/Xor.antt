-- Exclusive-or on numbers as a group operation, and the parity of the ones under it. Assumes nothing.
use mathlib.Core.Path.{◌≡◌, refl, sym, ap, ap₂, ◌∙◌}
use Prim.Native.Nat.{ℕ, ◌+◌, ◌/◌, ◌%◌}
use native.Mathlib.Nat.{zero-add, add_assoc, add-mod, mod-mod}
use native.Mathlib.Omega.{arith}
use lib.Arith.{bin_ind}
use lib.Bits.{bit_xor, xor_shr, xor_add_and, xor_comm, xor_self}
use lib.Count.{ones, ones_step}

-- a number is its half and its lowest bit
pub half_odd : (a b : ℕ) → a / 2 ≡ b / 2 → a % 2 ≡ b % 2 → a ≡ b
half_odd a b p q = omega arith

-- a sum's parity is told by those of its parts
pub parity_add : (a b c d : ℕ) → a % 2 ≡ b % 2 → c % 2 ≡ d % 2 → (a + c) % 2 ≡ (b + d) % 2
parity_add a b c d p q = add-mod a c 2 ∙ ap₂ (λ (x y : ℕ). (x + y) % 2) p q ∙ sym (add-mod b d 2)

pub xor_half : (a b : ℕ) → bit_xor a b / 2 ≡ bit_xor (a / 2) (b / 2)
xor_half a b = xor_shr a b 1

pub xor_odd : (a b : ℕ) → bit_xor a b % 2 ≡ (a + b) % 2
xor_odd a b = omega (arith, xor_add_and a b)

pub xor_assoc : (a b c : ℕ) → bit_xor (bit_xor a b) c ≡ bit_xor a (bit_xor b c)
xor_assoc =
    bin_ind (λ (n : ℕ). (b c : ℕ) → bit_xor (bit_xor n b) c ≡ bit_xor n (bit_xor b c)) (λ b c. refl)
    (λ n ih b c. half_odd (bit_xor (bit_xor n b) c) (bit_xor n (bit_xor b c))
    (xor_half (bit_xor n b) c ∙ ap (λ (x : ℕ). bit_xor x (c / 2)) (xor_half n b) ∙ ih (b / 2) (c / 2)
    ∙ sym (xor_half n (bit_xor b c) ∙ ap (bit_xor (n / 2)) (xor_half b c)))
    (xor_odd (bit_xor n b) c ∙ parity_add (bit_xor n b) (n + b) c c (xor_odd n b) refl ∙ ap (λ (x : ℕ). x % 2) (add_assoc n b c)
    ∙ sym (xor_odd n (bit_xor b c) ∙ parity_add n n (bit_xor b c) (b + c) refl (xor_odd b c))))

pub xor_undo : (a b : ℕ) → bit_xor a (bit_xor a b) ≡ b
xor_undo a b = sym (xor_assoc a a b) ∙ ap (λ (x : ℕ). bit_xor x b) (xor_self a)

pub xor_cancel : (a b c : ℕ) → bit_xor a b ≡ bit_xor a c → b ≡ c
xor_cancel a b c e = sym (xor_undo a b) ∙ ap (bit_xor a) e ∙ xor_undo a c

pub xor_cancel_right : (a b c : ℕ) → bit_xor a c ≡ bit_xor b c → a ≡ b
xor_cancel_right a b c e = xor_cancel c a b (xor_comm c a ∙ e ∙ xor_comm b c)

pub xor_same : (a b : ℕ) → bit_xor a b ≡ 0 → a ≡ b
xor_same a b e = sym (xor_cancel a b a (e ∙ sym (xor_self a)))

pub xor_left_comm : (a b c : ℕ) → bit_xor a (bit_xor b c) ≡ bit_xor b (bit_xor a c)
xor_left_comm a b c =
    sym (xor_assoc a b c) ∙ ap (λ (x : ℕ). bit_xor x c) (xor_comm a b) ∙ xor_assoc b a c

pub xor_interchange : (a b c d : ℕ) → bit_xor (bit_xor a b) (bit_xor c d) ≡ bit_xor (bit_xor a c) (bit_xor b d)
xor_interchange a b c d =
    xor_assoc a b (bit_xor c d) ∙ ap (bit_xor a) (xor_left_comm b c d) ∙ sym (xor_assoc a c (bit_xor b d))

pub xor_ones : (a b : ℕ) → ones (bit_xor a b) % 2 ≡ (ones a + ones b) % 2
unfolding ones
xor_ones =
    bin_ind (λ (n : ℕ). (b : ℕ) → ones (bit_xor n b) % 2 ≡ (ones n + ones b) % 2)
    (λ b. sym (ap (λ (x : ℕ). x % 2) (zero-add (ones b))))
    (λ n ih b. ap (λ (x : ℕ). x % 2) (ones_step (bit_xor n b))
    ∙ parity_add (bit_xor n b % 2) (n % 2 + b % 2) (ones (bit_xor n b / 2)) (ones (n / 2) + ones (b / 2))
    (ap (λ (x : ℕ). x % 2) (xor_odd n b ∙ add-mod n b 2) ∙ mod-mod (n % 2 + b % 2) 2)
    (ap (λ (x : ℕ). ones x % 2) (xor_half n b) ∙ ih (b / 2))
    ∙ ap (λ (x : ℕ). x % 2) (gathered (n % 2) (b % 2) (ones (n / 2)) (ones (b / 2)))
    ∙ ap₂ (λ (x y : ℕ). (x + y) % 2) (sym (ones_step n)) (sym (ones_step b)))
  where
    gathered : (w x y z : ℕ) → w + x + (y + z) ≡ w + y + (x + z)
    gathered w x y z = omega arith
