-- A frame and what arrives of it: the bits in sending order, those that were changed, and which changes the check is to catch (rules D31,
-- D33 and C7). Assumes nothing.
use Rattle.std.specs.Prelude.{◌≡◌, ◌⊎◌, Bool, true, false, List, [], ◌∷◌, ◌++◌, ℕ, zero, suc, ◌+◌, ◌/◌, ◌%◌, ◌≤◌, ◌<◌, T, eqb, length}
use Rattle.std.proofs.Math.Bool.{xor}
use Rattle.std.proofs.Math.Pow.{are_bytes}
use Rattle.check_value.specs.Check.{bits_of_byte}

-- rule D31: how many bits may be changed anywhere
abbrev pub few_bits : ℕ
few_bits = 3

-- rule D31: how long a run is
abbrev pub run_bits : ℕ
run_bits = 16

-- the lowest bits of a number, the lowest of all first: rule C7
unfoldable pub low_bits : ℕ → ℕ → List Bool
low_bits zero n = []
low_bits (suc count) n = eqb (n % 2) 1 ∷ low_bits count (n / 2)

-- rules C7 and D33: the bits of a frame in sending order
unfoldable pub wire : List ℕ → List Bool
unfolding low_bits
wire [] = []
wire (byte ∷ bytes) = low_bits bits_of_byte byte ++ wire bytes

abbrev pub cons_if : Bool → ℕ → List ℕ → List ℕ
cons_if true place places = place ∷ places
cons_if false place places = places

-- the places at which two lists of bits differ, the first bit of each being at the given place
unfoldable pub differing : ℕ → List Bool → List Bool → List ℕ
unfolding xor
differing place [] received = []
differing place (a ∷ sent) [] = []
differing place (a ∷ sent) (b ∷ received) = cons_if (xor a b) place (differing (suc place) sent received)

-- the places, in the order sent and counted from 0, of the bits that were changed
unfoldable pub changed : List ℕ → List ℕ → List ℕ
unfolding wire differing
changed sent received = differing 0 (wire sent) (wire received)

-- each of the places is one of the sixteen from the first on
unfoldable pub all_within : ℕ → List ℕ → Type 0
all_within first [] = Unit {0}
all_within first (place ∷ places) = (first ≤ place) × (place < first + run_bits) × all_within first places

-- rule D31: all changes lie in one run
unfoldable pub WithinOneRun : List ℕ → Type 0
unfolding all_within
WithinOneRun places = (first : ℕ) × all_within first places

-- rules D31 and D34: damage that keeps the length
pub record Damaged (sent received : List ℕ) : Type 0 where
  pub sent_bytes : T (are_bytes sent)
  pub received_bytes : T (are_bytes received)
  pub same_length : length received ≡ length sent
  pub at_least_one : 1 ≤ length (changed sent received)
  pub few_or_one_run : (length (changed sent received) ≤ few_bits) ⊎ WithinOneRun (changed sent received)
