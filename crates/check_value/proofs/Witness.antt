-- What the theorem on damage assumes is met: a frame that passes, and of each sort of damage one that arrives. Assumes nothing.
use mathlib.Core.Path.{◌≡◌, refl}
use mathlib.Core.Logic.{◌⊎◌, inl, inr}
use mathlib.Core.Bool.{Bool, true, false, ◌&&◌, ◌||◌}
use mathlib.Core.List.{List, [], ◌∷◌, ◌++◌, map}
use Prim.Native.Nat.{ℕ, ◌+◌, ◌≤◌}
use lib.Dec.{T, leb, ltb, eqb, leb→le, ltb→lt, eqb→eq}
use lib.Ieee.Fits.{and_l, and_r}
use lib.Count.{ones, ones_in}
use lib.ListN.{length, get_or}
use lib.Pow.{are_bytes}
use Rattle.check_value.specs.Check.{value_of}
use Rattle.check_value.specs.Frame.{passes, sealed}
use Rattle.check_value.specs.Ones.{ones_of}
use Rattle.check_value.specs.Damage.{few_bits, run_bits, low_bits, wire, changed, all_within, WithinOneRun, Damaged}

-- ---- a test for damage

unfoldable pub within_from : ℕ → List ℕ → Bool
within_from first [] = true
within_from first (place ∷ places) = leb first place && ltb place (first + run_bits) && within_from first places

within_from_lem : (first : ℕ) (places : List ℕ) → T (within_from first places) → all_within first places
unfolding within_from all_within
within_from_lem first [] t = tt
within_from_lem first (place ∷ places) t =
    let here : T (leb first place && ltb place (first + run_bits)) =
    and_l (leb first place && ltb place (first + run_bits)) (within_from first places) t
    in (
      leb→le first place (and_l (leb first place) (ltb place (first + run_bits)) here),
      ltb→lt place (first + run_bits) (and_r (leb first place) (ltb place (first + run_bits)) here),
      within_from_lem first places (and_r (leb first place && ltb place (first + run_bits)) (within_from first places) t),
    )

either : (a b : Bool) → T (a || b) → T a ⊎ T b
either true b t = inl t
either false b t = inr t

-- few places, or all from the first on within one run
abbrev few_or_run : List ℕ → Bool
few_or_run places = leb (length places) few_bits || within_from (get_or places 0 0) places

few_or_run_lem : (places : List ℕ) → T (few_or_run places) → (length places ≤ few_bits) ⊎ WithinOneRun places
unfolding WithinOneRun
few_or_run_lem places t = go (either (leb (length places) few_bits) (within_from (get_or places 0 0) places) t)
  where
    go : T (leb (length places) few_bits) ⊎ T (within_from (get_or places 0 0) places) → (length places ≤ few_bits) ⊎ WithinOneRun places
    go (inl few) = inl (leb→le (length places) few_bits few)
    go (inr run) = inr (get_or places 0 0, within_from_lem (get_or places 0 0) places run)

unfoldable pub is_damaged : List ℕ → List ℕ → Bool
unfolding changed within_from
is_damaged sent received =
    are_bytes sent
    && (are_bytes received
    && (eqb (length received) (length sent)
    && (leb 1 (length (changed sent received)) && few_or_run (changed sent received))))

pub is_damaged_lem : (sent received : List ℕ) → T (is_damaged sent received) → Damaged sent received
unfolding is_damaged
is_damaged_lem sent received t =
    let bytes : Bool = are_bytes received in
    let same : Bool = eqb (length received) (length sent) in
    let some : Bool = leb 1 (length (changed sent received)) in
    let sort : Bool = few_or_run (changed sent received) in
    let u : T (bytes && (same && (some && sort))) = and_r (are_bytes sent) (bytes && (same && (some && sort))) t in
    let v : T (same && (some && sort)) = and_r bytes (same && (some && sort)) u in
    let w : T (some && sort) = and_r same (some && sort) v in
    record {
      sent_bytes = and_l (are_bytes sent) (bytes && (same && (some && sort))) t;
      received_bytes = and_l bytes (same && (some && sort)) u;
      same_length = eqb→eq (length received) (length sent) (and_l same (some && sort) v);
      at_least_one = leb→le 1 (length (changed sent received)) (and_l some sort w);
      few_or_one_run = few_or_run_lem (changed sent received) (and_r some sort w);
    }

-- ---- a frame, and what arrives of it

-- reads two registers at 0101 of station 1
abbrev pub frame_sent : List ℕ
frame_sent = 0x01 ∷ 0x03 ∷ 0x01 ∷ 0x01 ∷ 0x00 ∷ 0x02 ∷ 0x94 ∷ 0x37 ∷ []

-- one bit; the first and the last; three far apart; sixteen in one run from the middle of one byte over the next into a third
abbrev pub frames_received : List (List ℕ)
frames_received =
    (0x01 ∷ 0x01 ∷ 0x01 ∷ 0x01 ∷ 0x00 ∷ 0x02 ∷ 0x94 ∷ 0x37 ∷ [])
    ∷ (0x00 ∷ 0x03 ∷ 0x01 ∷ 0x01 ∷ 0x00 ∷ 0x02 ∷ 0x94 ∷ 0xB7 ∷ [])
    ∷ (0x09 ∷ 0x03 ∷ 0x01 ∷ 0x41 ∷ 0x00 ∷ 0x02 ∷ 0x94 ∷ 0x17 ∷ [])
    ∷ (0x01 ∷ 0xF3 ∷ 0xFE ∷ 0x0E ∷ 0x00 ∷ 0x02 ∷ 0x94 ∷ 0x37 ∷ [])
    ∷ []

pub sent_passes : passes frame_sent ≡ true
unfolding passes value_of
sent_passes = refl

pub received_changed : map (changed frame_sent) frames_received
    ≡ (9 ∷ [])
    ∷ (0 ∷ 63 ∷ [])
    ∷ (3 ∷ 30 ∷ 61 ∷ [])
    ∷ (12 ∷ 13 ∷ 14 ∷ 15 ∷ 16 ∷ 17 ∷ 18 ∷ 19 ∷ 20 ∷ 21 ∷ 22 ∷ 23 ∷ 24 ∷ 25 ∷ 26 ∷ 27 ∷ [])
    ∷ []
unfolding changed
received_changed = refl

abbrev pub AllDamaged : List ℕ → List (List ℕ) → Type 0
AllDamaged sent [] = Unit {0}
AllDamaged sent (received ∷ rest) = Damaged sent received × AllDamaged sent rest

abbrev all_tested : List ℕ → List (List ℕ) → Bool
all_tested sent [] = true
all_tested sent (received ∷ rest) = is_damaged sent received && all_tested sent rest

all_tested_lem : (sent : List ℕ) (rows : List (List ℕ)) → T (all_tested sent rows) → AllDamaged sent rows
all_tested_lem sent [] t = tt
all_tested_lem sent (received ∷ rest) t = (
  is_damaged_lem sent received (and_l (is_damaged sent received) (all_tested sent rest) t),
  all_tested_lem sent rest (and_r (is_damaged sent received) (all_tested sent rest) t),
)

pub received_damaged : AllDamaged frame_sent frames_received
unfolding is_damaged
received_damaged = all_tested_lem frame_sent frames_received tt

-- .. and what is none: nothing changed, four bits far apart, four in a run of seventeen, and a byte lost
pub others_not_damaged : map (is_damaged frame_sent)
    (frame_sent
    ∷ (0x00 ∷ 0x03 ∷ 0x11 ∷ 0x01 ∷ 0x00 ∷ 0x03 ∷ 0x94 ∷ 0xB7 ∷ [])
    ∷ (0x01 ∷ 0x73 ∷ 0x01 ∷ 0x11 ∷ 0x00 ∷ 0x02 ∷ 0x94 ∷ 0x37 ∷ [])
    ∷ (0x01 ∷ 0x01 ∷ 0x01 ∷ 0x01 ∷ 0x00 ∷ 0x02 ∷ 0x94 ∷ [])
    ∷ [])
    ≡ false ∷ false ∷ false ∷ false ∷ []
unfolding is_damaged
others_not_damaged = refl

-- the bits of a byte in sending order: rule C7
pub bits_sent : wire (0x01 ∷ 0xB0 ∷ [])
    ≡ true ∷ false ∷ false ∷ false ∷ false ∷ false ∷ false ∷ false
    ∷ false ∷ false ∷ false ∷ false ∷ true ∷ true ∷ false ∷ true ∷ []
unfolding wire low_bits
bits_sent = refl

-- how many bits are ones: rule C8
pub ones_sent : ones_of (0x01 ∷ 0x03 ∷ 0x00 ∷ 0x07 ∷ []) ≡ 6
unfolding ones_of ones ones_in
ones_sent = refl

-- ---- a reply is sealed so: rule R6

-- six bytes of a longer buffer, with room for just their check, and without; and seven others
pub sealed_so : (sealed (0x01 ∷ 0x03 ∷ 0x01 ∷ 0x01 ∷ 0x00 ∷ 0x02 ∷ 0xA5 ∷ 0xA5 ∷ 0xA5 ∷ []) 6
    ∷ sealed (0x01 ∷ 0x03 ∷ 0x01 ∷ 0x01 ∷ 0x00 ∷ 0x02 ∷ 0xA5 ∷ 0xA5 ∷ []) 6
    ∷ sealed (0x01 ∷ 0x03 ∷ 0x01 ∷ 0x01 ∷ 0x00 ∷ 0x02 ∷ 0xA5 ∷ []) 6
    ∷ sealed (0x01 ∷ 0x03 ∷ 0x04 ∷ 0x00 ∷ 0x01 ∷ 0x00 ∷ 0x00 ∷ 0xA5 ∷ 0xA5 ∷ []) 7
    ∷ [])
    ≡ (frame_sent ++ (0xA5 ∷ []))
    ∷ frame_sent
    ∷ (0x01 ∷ 0x03 ∷ 0x01 ∷ 0x01 ∷ 0x00 ∷ 0x02 ∷ 0xA5 ∷ [])
    ∷ (0x01 ∷ 0x03 ∷ 0x04 ∷ 0x00 ∷ 0x01 ∷ 0x00 ∷ 0x00 ∷ 0xAB ∷ 0xF3 ∷ [])
    ∷ []
unfolding sealed value_of
sealed_so = refl
