-- Areas whose places follow one another share no place: rule S48 holds of a pair just where it ends within the area of its first place.
-- Assumes nothing.
use mathlib.Core.Path.{◌≡◌, refl, ap, ap₂}
use mathlib.Core.Bool.{Bool, true, false, ◌&&◌, ◌||◌, and-false, or-false}
use mathlib.Core.List.{List, [], ◌∷◌}
use Prim.Native.Nat.{ℕ, ◌+◌, ◌≤◌, ◌<◌}
use native.Mathlib.Omega.{arith}
use lib.Dec.{ltb, eqb}
use borrow.Author.Tests.{le-leb, lt-leb, lt-ltb, le-ltb, eqb-true}
use Rattle.sheet_rules.specs.declared.Area.{Area}
use Rattle.lists.specs.Lists.{some}
use Rattle.sheet_rules.specs.Rules.{length_of, places_follow, place_in_area, pair_within}
use Rattle.lists.proofs.Tests.{first_of, second_of_lem}
use Rattle.lists.proofs.Among.{Among, here, there}

-- the place of an area and what follows, from a list whose places follow one another
pub follow_here : (before : ℕ) (area : Area) (behind : List Area) → places_follow before (area ∷ behind) ≡ true → area.place ≡ before
unfolding places_follow
follow_here before area behind e =
    eqb-true area.place before (first_of (eqb area.place before) (places_follow (before + length_of area) behind) e)

pub follow_behind : (before : ℕ) (area : Area) (behind : List Area) → places_follow before (area ∷ behind) ≡ true
    → places_follow (before + length_of area) behind ≡ true
unfolding places_follow
follow_behind before area behind e =
    second_of_lem (eqb area.place before) (places_follow (before + length_of area) behind) e

-- every area stands at or above the sum of the lengths before
pub among_above : {area : Area} (before : ℕ) {l : List Area} → Among area l → places_follow before l ≡ true → before ≤ area.place
among_above {area} before (here {l = behind}) follow = omega (arith, follow_here before area behind follow)
among_above before (there {b = other} {l = behind} m) follow =
    omega (arith, among_above (before + length_of other) m (follow_behind before other behind follow))

-- a place below all of them is in none
below_none : (before : ℕ) (l : List Area) → places_follow before l ≡ true → (place : ℕ) → place < before → pair_within l place ≡ false
unfolding some
below_none before [] follow place low = refl
below_none before (area ∷ behind) follow place low =
    let at = follow_here before area behind follow in
    ap₂ ◌||◌ (ap (λ (b : Bool). b && ltb place (area.place + length_of area) && place_in_area (place + 1) area)
    (lt-leb area.place place (omega arith)))
    (below_none (before + length_of area) behind (follow_behind before area behind follow) place (omega arith))

pub pair_within_lem : {area : Area} (before : ℕ) {l : List Area} → Among area l → places_follow before l ≡ true
    → (place : ℕ) → area.place ≤ place → place < area.place + length_of area
    → pair_within l place ≡ ltb (place + 1) (area.place + length_of area)
unfolding some
pair_within_lem {area} before (here {l = behind}) follow place low high =
    simp (
      le-leb area.place place low,
      lt-ltb place (area.place + length_of area) high,
      le-leb area.place (place + 1) (omega arith),
      below_none (before + length_of area) behind (follow_behind before area behind follow) place
          (omega (arith, follow_here before area behind follow)),
      or-false,
    )
pair_within_lem {area} before (there {b = other} {l = behind} m) follow place low high =
    let behind-follow = follow_behind before other behind follow in
    simp (
      le-ltb place (other.place + length_of other)
          (omega (arith, follow_here before other behind follow, among_above (before + length_of other) m behind-follow)),
      and-false,
    )
    (pair_within_lem (before + length_of other) m behind-follow place low high)
