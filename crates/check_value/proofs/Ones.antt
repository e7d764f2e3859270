-- Shifts keep the parity of the ones, so a frame that passes has evenly many of them: rule C8. Assumes nothing.
use mathlib.Core.Path.{◌≡◌, refl, sym, ap, ◌∙◌}
use mathlib.Core.Bool.{true}
use mathlib.Core.List.{List, [], ◌∷◌}
use Prim.Native.Nat.{ℕ, zero, suc, ◌+◌, ◌/◌, ◌%◌, ◌<◌}
use native.Mathlib.Nat.{add-zero, add_comm, add_assoc}
use native.Mathlib.Omega.{arith}
use lib.Dec.{T}
use lib.Bits.{bit_xor}
use lib.Count.{ones, ones_step}
use lib.Pow.{are_bytes}
use Rattle.check_value.specs.Check.{start_state, bits_of_byte, shifted, shifted_times, taken, state_after}
use Rattle.check_value.specs.Frame.{passes}
use Rattle.check_value.specs.Ones.{ones_of}
use Rattle.check_value.proofs.Xor.{parity_add, xor_ones}
use Rattle.check_value.proofs.Shift.{bit_ind, shifted_apart}
use Rattle.check_value.proofs.Zero.{passes_zero}

-- the polynomial has an odd number of ones: what a shift takes out it puts in again
bit_shifted_ones : (x : ℕ) → x < 2 → ones (shifted x) % 2 ≡ x % 2
unfolding shifted ones
bit_shifted_ones = bit_ind (λ (x : ℕ). ones (shifted x) % 2 ≡ x % 2) refl refl

pub shifted_ones : (s : ℕ) → ones (shifted s) % 2 ≡ ones s % 2
shifted_ones s =
    ap (λ (x : ℕ). ones x % 2) (shifted_apart s) ∙ xor_ones (s / 2) (shifted (s % 2))
    ∙ parity_add (ones (s / 2)) (ones (s / 2)) (ones (shifted (s % 2))) (s % 2) refl
    (bit_shifted_ones (s % 2) (omega arith))
    ∙ ap (λ (x : ℕ). x % 2) (add_comm (ones (s / 2)) (s % 2) ∙ sym (ones_step s))

pub times_ones : (k s : ℕ) → ones (shifted_times k s) % 2 ≡ ones s % 2
unfolding shifted_times
times_ones zero s = refl
times_ones (suc k) s = times_ones k (shifted s) ∙ shifted_ones s

pub taken_ones : (s byte : ℕ) → ones (taken s byte) % 2 ≡ (ones s + ones byte) % 2
unfolding taken
taken_ones s byte = times_ones bits_of_byte (bit_xor s byte) ∙ xor_ones s byte

pub after_ones : (s : ℕ) (bytes : List ℕ) → ones (state_after s bytes) % 2 ≡ (ones s + ones_of bytes) % 2
unfolding state_after ones_of
after_ones s [] = ap (λ (x : ℕ). x % 2) (sym (add-zero (ones s)))
after_ones s (byte ∷ bytes) =
    after_ones (taken s byte) bytes
    ∙ parity_add (ones (taken s byte)) (ones s + ones byte) (ones_of bytes) (ones_of bytes) (taken_ones s byte) refl
    ∙ ap (λ (x : ℕ). x % 2) (add_assoc (ones s) (ones byte) (ones_of bytes))

-- rule C8
pub passing_even : (frame : List ℕ) → passes frame ≡ true → T (are_bytes frame) → ones_of frame % 2 ≡ 0
unfolding ones
passing_even frame e t =
    let end : ones (state_after start_state frame) ≡ 0 = ap ones (passes_zero frame t e) in
    let parity : ones (state_after start_state frame) % 2 ≡ (ones start_state + ones_of frame) % 2 = after_ones start_state frame in
    omega arith
