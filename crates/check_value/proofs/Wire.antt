-- A frame's bits fed one at a time in the order sent, and the difference of two lists of bits. Assumes nothing.
use mathlib.Core.Path.{◌≡◌, refl, sym, ap, ap₂, ◌∙◌}
use mathlib.Core.Bool.{Bool, true, false, xor}
use mathlib.Core.List.{List, [], ◌∷◌, ◌++◌}
use Prim.Native.Nat.{ℕ, zero, suc, ◌+◌, ◌*◌, ◌/◌, ◌%◌, ◌^◌, ◌<◌}
use native.Mathlib.Nat.{pow-suc, add_comm, suc-mul}
use native.Mathlib.Omega.{arith}
use lib.Arith.{lt-one}
use lib.Dec.{T, eqb}
use lib.Bits.{bit_xor, xor_comm, xor_self, xor_zero_r}
use lib.ListN.{length, length-append}
use lib.Pow.{are_bytes}
use Rattle.check_value.specs.Check.{bits_of_byte, shifted, shifted_times, taken, state_after}
use Rattle.check_value.specs.Damage.{low_bits, wire, cons_if, differing}
use Rattle.check_value.proofs.Xor.{xor_assoc, xor_interchange}
use Rattle.check_value.proofs.Shift.{bit_ind, shifted_linear, shifted_apart, head_byte, tail_bytes}

-- a bit as a number
abbrev pub bit_of : Bool → ℕ
bit_of false = 0
bit_of true = 1

-- the state after one bit
abbrev pub fed_bit : ℕ → Bool → ℕ
fed_bit state bit = shifted (bit_xor state (bit_of bit))

unfoldable pub fed : ℕ → List Bool → ℕ
fed state [] = state
fed state (bit ∷ bits) = fed (fed_bit state bit) bits

pub fed_append : (s : ℕ) (front back : List Bool) → fed s (front ++ back) ≡ fed (fed s front) back
unfolding fed
fed_append s [] back = refl
fed_append s (bit ∷ front) back = fed_append (fed_bit s bit) front back

-- ---- a byte taken is its bits fed

bit_of_test : (x : ℕ) → x < 2 → bit_of (eqb x 1) ≡ x
bit_of_test = bit_ind (λ (x : ℕ). bit_of (eqb x 1) ≡ x) refl refl

-- many shifts of a state with a number of as many bits in it are these bits fed
pub low_bits_fed : (k s n : ℕ) → n < 2 ^ k → shifted_times k (bit_xor s n) ≡ fed s (low_bits k n)
unfolding shifted_times low_bits fed
low_bits_fed zero s n h = ap (bit_xor s) (lt-one h) ∙ xor_zero_r s
low_bits_fed (suc k) s n h =
    ap (shifted_times k) first ∙ low_bits_fed k (shifted (bit_xor s (n % 2))) (n / 2) (omega (arith, pow-suc 2 k))
    ∙ ap (λ (x : ℕ). fed (shifted (bit_xor s x)) (low_bits k (n / 2))) (sym (bit_of_test (n % 2) (omega arith)))
  where
    first : shifted (bit_xor s n) ≡ bit_xor (shifted (bit_xor s (n % 2))) (n / 2)
    first =
        shifted_linear s n ∙ ap (bit_xor (shifted s)) (shifted_apart n ∙ xor_comm (n / 2) (shifted (n % 2)))
        ∙ sym (xor_assoc (shifted s) (shifted (n % 2)) (n / 2))
        ∙ ap (λ (x : ℕ). bit_xor x (n / 2)) (sym (shifted_linear s (n % 2)))

pub wire_fed : (s : ℕ) (bytes : List ℕ) → T (are_bytes bytes) → state_after s bytes ≡ fed s (wire bytes)
unfolding state_after wire fed
wire_fed s [] t = refl
wire_fed s (byte ∷ bytes) t =
    wire_fed (taken s byte) bytes (tail_bytes byte bytes t)
    ∙ ap (λ (x : ℕ). fed x (wire bytes)) (low_bits_fed bits_of_byte s byte (head_byte byte bytes t))
    ∙ sym (fed_append s (low_bits bits_of_byte byte) (wire bytes))

low_bits_length : (k n : ℕ) → length (low_bits k n) ≡ k
unfolding low_bits
low_bits_length zero n = refl
low_bits_length (suc k) n = ap suc (low_bits_length k (n / 2))

pub wire_length : (bytes : List ℕ) → length (wire bytes) ≡ length bytes * bits_of_byte
unfolding wire
wire_length [] = refl
wire_length (byte ∷ bytes) =
    length-append (low_bits bits_of_byte byte) (wire bytes)
    ∙ ap₂ ◌+◌ (low_bits_length bits_of_byte byte) (wire_length bytes)
    ∙ add_comm bits_of_byte (length bytes * bits_of_byte) ∙ sym (suc-mul (length bytes) bits_of_byte)

-- ---- the difference of two lists of bits

unfoldable pub difference : List Bool → List Bool → List Bool
unfolding xor
difference [] received = []
difference (a ∷ sent) [] = []
difference (a ∷ sent) (b ∷ received) = xor a b ∷ difference sent received

pub difference_length : (sent received : List Bool) → length received ≡ length sent → length (difference sent received) ≡ length sent
unfolding difference
difference_length [] received e = refl
difference_length (a ∷ sent) [] e = e
difference_length (a ∷ sent) (b ∷ received) e = ap suc (difference_length sent received (omega arith))

bit_xor_lem : (a b : Bool) → bit_of (xor a b) ≡ bit_xor (bit_of a) (bit_of b)
unfolding xor
bit_xor_lem false false = refl
bit_xor_lem false true = refl
bit_xor_lem true false = refl
bit_xor_lem true true = refl

pub difference_fed : (s t : ℕ) (sent received : List Bool) → length received ≡ length sent
    → fed (bit_xor s t) (difference sent received) ≡ bit_xor (fed s sent) (fed t received)
unfolding difference fed
difference_fed s t [] [] e = refl
difference_fed s t [] (b ∷ received) e = absurd (omega arith)
difference_fed s t (a ∷ sent) [] e = absurd (omega arith)
difference_fed s t (a ∷ sent) (b ∷ received) e =
    ap (λ (x : ℕ). fed x (difference sent received))
    (ap (λ (x : ℕ). shifted (bit_xor (bit_xor s t) x)) (bit_xor_lem a b)
    ∙ ap shifted (xor_interchange s t (bit_of a) (bit_of b))
    ∙ shifted_linear (bit_xor s (bit_of a)) (bit_xor t (bit_of b)))
    ∙ difference_fed (fed_bit s a) (fed_bit t b) sent received (omega arith)

-- from the same state: the difference fed from 0 ends at the difference of the ends
pub difference_fed_from_zero : (s : ℕ) (sent received : List Bool) → length received ≡ length sent
    → fed 0 (difference sent received) ≡ bit_xor (fed s sent) (fed s received)
difference_fed_from_zero s sent received e =
    ap (λ (x : ℕ). fed x (difference sent received)) (sym (xor_self s)) ∙ difference_fed s s sent received e

-- the places of the ones of a list of bits, its first bit being at the given place
unfoldable pub places_of : ℕ → List Bool → List ℕ
places_of place [] = []
places_of place (bit ∷ bits) = cons_if bit place (places_of (suc place) bits)

pub differing_places : (place : ℕ) (sent received : List Bool)
    → differing place sent received ≡ places_of place (difference sent received)
unfolding differing difference places_of
differing_places place [] received = refl
differing_places place (a ∷ sent) [] = refl
differing_places place (a ∷ sent) (b ∷ received) =
    ap (cons_if (xor a b) place) (differing_places (suc place) sent received)
