-- Shifts of a state: linear, undone in one way only, within sixteen bits, and by the high and low part of a number. Assumes nothing.
use mathlib.Core.Path.{◌≡◌, refl, sym, ap, ap₂, ◌∙◌, subst}
use mathlib.Core.Logic.{◌⊎◌, inl, inr, ⊎_elim}
use mathlib.Core.List.{List, [], ◌∷◌}
use Prim.Native.Nat.{ℕ, zero, suc, ◌+◌, ◌*◌, ◌/◌, ◌%◌, ◌^◌, ◌≤◌, ◌<◌}
use native.Mathlib.Nat.{zero-add, suc-add, mod-lt, not-suc-le-zero, le_of_suc-le-suc}
use native.Mathlib.Omega.{arith}
use lib.Dec.{T, ltb, ltb→lt, lit<}
use lib.Ieee.Fits.{and_l, and_r}
use lib.Bits.{bit_xor, xor_self, xor_zero_r, xor_lt, xor_shr, xor_mod, xor_shifted, shifted_half, shifted_even}
use lib.Pow.{split, pow_pos, are_bytes}
use Rattle.check_value.specs.Check.{start_state, polynomial, bits_of_byte, after_shift, shifted, shifted_times, taken, state_after, value_of}
use Rattle.check_value.proofs.Xor.{xor_half, xor_cancel_right, xor_same, xor_interchange}

-- what holds of 0 and of 1 holds of a bit
pub bit_ind : (P : ℕ → Type 0) → P 0 → P 1 → (x : ℕ) → x < 2 → P x
bit_ind P p q zero h = p
bit_ind P p q (suc zero) h = q
bit_ind P p q (suc (suc x)) h = absurd (not-suc-le-zero (le_of_suc-le-suc (le_of_suc-le-suc h)))

pub even_or_odd : (n : ℕ) → (n % 2 ≡ 0) ⊎ (n % 2 ≡ 1)
even_or_odd n = bit_ind (λ (x : ℕ). (x ≡ 0) ⊎ (x ≡ 1)) (inl refl) (inr refl) (n % 2) (omega arith)

pub shifted_if_even : (s : ℕ) → s % 2 ≡ 0 → shifted s ≡ s / 2
unfolding shifted
shifted_if_even s e = ap (λ (x : ℕ). after_shift x (s / 2)) e

pub shifted_if_odd : (s : ℕ) → s % 2 ≡ 1 → shifted s ≡ bit_xor (s / 2) polynomial
unfolding shifted
shifted_if_odd s e = ap (λ (x : ℕ). after_shift x (s / 2)) e

-- one shift by the half and the lowest bit
pub shifted_apart : (s : ℕ) → shifted s ≡ bit_xor (s / 2) (shifted (s % 2))
unfolding shifted
shifted_apart s =
    ⊎_elim
    (λ e. shifted_if_even s e ∙ sym (xor_zero_r (s / 2)) ∙ ap (λ (x : ℕ). bit_xor (s / 2) (shifted x)) (sym e))
    (λ e. shifted_if_odd s e ∙ ap (λ (x : ℕ). bit_xor (s / 2) (shifted x)) (sym e))
    (even_or_odd s)

shifted_bits : (x y : ℕ) → x < 2 → y < 2 → shifted (bit_xor x y) ≡ bit_xor (shifted x) (shifted y)
unfolding shifted
shifted_bits x y h k =
    bit_ind (λ (b : ℕ). shifted (bit_xor b y) ≡ bit_xor (shifted b) (shifted y)) refl
    (bit_ind (λ (b : ℕ). shifted (bit_xor 1 b) ≡ bit_xor (shifted 1) (shifted b)) refl refl y k) x h

pub shifted_linear : (a b : ℕ) → shifted (bit_xor a b) ≡ bit_xor (shifted a) (shifted b)
shifted_linear a b =
    shifted_apart (bit_xor a b)
    ∙ ap₂ (λ (x y : ℕ). bit_xor x (shifted y)) (xor_half a b) (xor_mod a b 1)
    ∙ ap (bit_xor (bit_xor (a / 2) (b / 2))) (shifted_bits (a % 2) (b % 2) (omega arith) (omega arith))
    ∙ xor_interchange (a / 2) (b / 2) (shifted (a % 2)) (shifted (b % 2))
    ∙ ap₂ bit_xor (sym (shifted_apart a)) (sym (shifted_apart b))

pub times_linear : (k a b : ℕ) → shifted_times k (bit_xor a b) ≡ bit_xor (shifted_times k a) (shifted_times k b)
unfolding shifted_times
times_linear zero a b = refl
times_linear (suc k) a b = ap (shifted_times k) (shifted_linear a b) ∙ times_linear k (shifted a) (shifted b)

pub times_of_zero : (k : ℕ) → shifted_times k 0 ≡ 0
unfolding shifted_times
times_of_zero zero = refl
times_of_zero (suc k) = times_of_zero k

-- the last shift first
pub times_suc : (k s : ℕ) → shifted_times (suc k) s ≡ shifted (shifted_times k s)
unfolding shifted_times
times_suc zero s = refl
times_suc (suc k) s = times_suc k (shifted s)

pub times_add : (j k s : ℕ) → shifted_times (j + k) s ≡ shifted_times k (shifted_times j s)
unfolding shifted_times
times_add zero k s = ap (λ (n : ℕ). shifted_times n s) (zero-add k)
times_add (suc j) k s = ap (λ (n : ℕ). shifted_times n s) (suc-add j k) ∙ times_add j k (shifted s)

-- as many shifts as there are zeros at the low end take just these away
pub times_of_high : (k a : ℕ) → shifted_times k (a * 2 ^ k) ≡ a
unfolding shifted_times
times_of_high zero a = omega arith
times_of_high (suc k) a =
    ap (shifted_times k) (shifted_if_even (a * 2 ^ suc k) (shifted_even a k) ∙ shifted_half a k) ∙ times_of_high k a

-- many shifts by the high part, which comes down as it is, and the low part, which is shifted out
pub times_apart : (k x : ℕ) → shifted_times k x ≡ bit_xor (x / 2 ^ k) (shifted_times k (x % 2 ^ k))
times_apart k x =
    ap (shifted_times k) (sym (split x k) ∙ sym (xor_shifted (x / 2 ^ k) k (x % 2 ^ k) (mod-lt x (pow_pos k))))
    ∙ times_linear k (x / 2 ^ k * 2 ^ k) (x % 2 ^ k)
    ∙ ap (λ (y : ℕ). bit_xor y (shifted_times k (x % 2 ^ k))) (times_of_high k (x / 2 ^ k))

-- ---- sixteen bits

bit_shifted_below : (x : ℕ) → x < 2 → shifted x < 2 ^ 16
unfolding shifted
bit_shifted_below = bit_ind (λ (x : ℕ). shifted x < 2 ^ 16) (lit< tt) (lit< tt)

pub shifted_below : (s : ℕ) → s < 2 ^ 16 → shifted s < 2 ^ 16
shifted_below s h =
    subst (λ (x : ℕ). x < 2 ^ 16) (sym (shifted_apart s))
    (xor_lt 16 (s / 2) (shifted (s % 2)) (omega arith) (bit_shifted_below (s % 2) (omega arith)))

pub times_below : (k s : ℕ) → s < 2 ^ 16 → shifted_times k s < 2 ^ 16
unfolding shifted_times
times_below zero s h = h
times_below (suc k) s h = times_below k (shifted s) (shifted_below s h)

pub taken_below : (s byte : ℕ) → s < 2 ^ 16 → byte < 256 → taken s byte < 2 ^ 16
unfolding taken
taken_below s byte h b = times_below bits_of_byte (bit_xor s byte) (xor_lt 16 s byte h (omega arith))

pub head_byte : (byte : ℕ) (bytes : List ℕ) → T (are_bytes (byte ∷ bytes)) → byte < 256
head_byte byte bytes t = ltb→lt byte 256 (and_l (ltb byte 256) (are_bytes bytes) t)

pub tail_bytes : (byte : ℕ) (bytes : List ℕ) → T (are_bytes (byte ∷ bytes)) → T (are_bytes bytes)
tail_bytes byte bytes t = and_r (ltb byte 256) (are_bytes bytes) t

pub after_below : (s : ℕ) (bytes : List ℕ) → s < 2 ^ 16 → T (are_bytes bytes) → state_after s bytes < 2 ^ 16
unfolding state_after
after_below s [] h t = h
after_below s (byte ∷ bytes) h t =
    after_below (taken s byte) bytes (taken_below s byte h (head_byte byte bytes t)) (tail_bytes byte bytes t)

pub value_below : (bytes : List ℕ) → T (are_bytes bytes) → value_of bytes < 2 ^ 16
unfolding value_of
value_below bytes t = after_below start_state bytes (lit< tt) t

-- ---- only one state shifts to a given one

-- the bit shifted out shows at the top
pub odd_shifted_high : (s : ℕ) → s < 2 ^ 16 → s % 2 ≡ 1 → 2 ^ 15 ≤ shifted s
odd_shifted_high s h e = high (shifted s) (ap (λ (x : ℕ). x / 2 ^ 15) (shifted_if_odd s e) ∙ top)
  where
    low : s / 2 / 2 ^ 15 ≡ 0
    low = omega arith

    top : bit_xor (s / 2) polynomial / 2 ^ 15 ≡ 1
    top = xor_shr (s / 2) polynomial 15 ∙ ap (λ (x : ℕ). bit_xor x (polynomial / 2 ^ 15)) low

    high : (x : ℕ) → x / 2 ^ 15 ≡ 1 → 2 ^ 15 ≤ x
    high x q = omega arith

pub shifted_to_zero : (s : ℕ) → s < 2 ^ 16 → shifted s ≡ 0 → s ≡ 0
shifted_to_zero s h e =
    ⊎_elim
    (λ (even : s % 2 ≡ 0). let half : s / 2 ≡ 0 = sym (shifted_if_even s even) ∙ e in omega arith)
    (λ (odd : s % 2 ≡ 1). absurd (let top : 2 ^ 15 ≤ shifted s = odd_shifted_high s h odd in omega arith))
    (even_or_odd s)

pub shifted_injective : (a b : ℕ) → a < 2 ^ 16 → b < 2 ^ 16 → shifted a ≡ shifted b → a ≡ b
shifted_injective a b h k e =
    xor_same a b
    (shifted_to_zero (bit_xor a b) (xor_lt 16 a b h k)
    (shifted_linear a b ∙ ap (λ (x : ℕ). bit_xor x (shifted b)) e ∙ xor_self (shifted b)))

pub times_injective : (k a b : ℕ) → a < 2 ^ 16 → b < 2 ^ 16 → shifted_times k a ≡ shifted_times k b → a ≡ b
unfolding shifted_times
times_injective zero a b h l e = e
times_injective (suc k) a b h l e =
    shifted_injective a b h l
    (times_injective k (shifted a) (shifted b) (shifted_below a h) (shifted_below b l) e)

pub times_to_zero : (k s : ℕ) → s < 2 ^ 16 → shifted_times k s ≡ 0 → s ≡ 0
times_to_zero k s h e = times_injective k s 0 h (lit< tt) (e ∙ sym (times_of_zero k))

pub taken_injective : (a b byte : ℕ) → a < 2 ^ 16 → b < 2 ^ 16 → byte < 256 → taken a byte ≡ taken b byte → a ≡ b
unfolding taken
taken_injective a b byte h k l e =
    xor_cancel_right a b byte
    (times_injective bits_of_byte (bit_xor a byte) (bit_xor b byte) (xor_lt 16 a byte h (omega arith))
    (xor_lt 16 b byte k (omega arith)) e)
