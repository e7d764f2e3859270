-- Rules S46 and S47 of a sound sheet, part by part, in plain words. Assumes nothing.
use mathlib.Core.Path.{◌≡◌, refl, sym, ap, ap₂, subst, ◌∙◌}
use mathlib.Core.Bool.{Bool, true, false, ◌&&◌, ◌||◌, false≢true, or-true, cond}
use mathlib.Core.List.{List, [], ◌∷◌, ◌++◌}
use mathlib.Core.Logic.{◌⊎◌, inl, inr}
use Prim.Native.Nat.{ℕ, zero, suc, ◌+◌, ◌-◌, ◌≤◌, ◌<◌}
use native.Mathlib.Omega.{arith}
use lib.Dec.{leb, ltb, eqb}
use borrow.Author.Tests.{le-leb, lt-ltb, eq-eqb, eqb-true, leb-true, ltb-true, ltb-false}
use Rattle.sheet_rules.specs.declared.Area.{Area}
use Rattle.sheet_rules.specs.declared.Item.{Item}
use Rattle.lists.specs.Lists.{rows, some, up_from, same_places}
use Rattle.sheet_rules.specs.Rows.{areas, items, item_at, item_count}
use Rattle.sheet_rules.specs.Rules.{places_follow, length_of, covered_by_items, covered_places, places_of, item_places, is_pair, place_in_area, sound}
use Rattle.sheet_rules.specs.Lookup.{holds}
use Rattle.lists.proofs.Tests.{first_of, second_of_lem}
use Rattle.lists.proofs.Among.{Among, here, there, among_nil, among_cons, among_left, among_right, among_append, some_among, up_among, among_up}
use Rattle.sheet_rules.proofs.Within.{follow_here, follow_behind}
use Rattle.sheet_rules.proofs.Sound.{sound_areas, sound_cover}

-- the same places are the same list
pub same_list : (s t : List ℕ) → same_places s t ≡ true → s ≡ t
unfolding same_places
same_list [] [] e = refl
same_list [] (y ∷ t) e = absurd (false≢true e)
same_list (x ∷ s) [] e = absurd (false≢true e)
same_list (x ∷ s) (y ∷ t) e =
    ap₂ ◌∷◌ (eqb-true x y (first_of (eqb x y) (same_places s t) e)) (same_list s t (second_of_lem (eqb x y) (same_places s t) e))

-- ---- places that rise, from a lowest on

abbrev pub Rise : ℕ → List ℕ → Type 0
Rise low [] = Unit {0}
Rise low (x ∷ l) = (low ≤ x) × Rise (suc x) l

rise_lower : (low lower : ℕ) → lower ≤ low → (l : List ℕ) → Rise low l → Rise lower l
rise_lower low lower less [] r = tt
rise_lower low lower less (x ∷ l) r = (omega (arith, r.0), r.1)

rise_tail : (low : ℕ) (s t : List ℕ) → Rise low (s ++ t) → Rise low t
rise_tail low [] t r = r
rise_tail low (x ∷ s) t r = rise_lower (suc x) low (omega (arith, r.0)) t (rise_tail (suc x) s t r.1)

rise_among : {x : ℕ} (low : ℕ) {l : List ℕ} → Among x l → Rise low l → low ≤ x
rise_among low here r = r.0
rise_among low (there {b = y} m) r = omega (arith, r.0, rise_among (suc y) m r.1)

-- what stands in front is below what stands behind
rise_apart : {x y : ℕ} (low : ℕ) {s : List ℕ} (t : List ℕ) → Among x s → Among y t → Rise low (s ++ t) → x < y
rise_apart {x} low t (here {l = s}) m r = rise_among (suc x) (among_right s m) r.1
rise_apart low t (there {b = z} n) m r = rise_apart (suc z) t n m r.1

rise_up : (first count : ℕ) (t : List ℕ) → Rise (first + count) t → Rise first (up_from first count ++ t)
unfolding up_from
rise_up first zero t r = rise_lower (first + 0) first (omega arith) t r
rise_up first (suc count) t r = (omega arith, rise_up (suc first) count t (rise_lower (first + suc count) (suc first + count) (omega arith) t r))

rise_covered : (before : ℕ) (l : List Area) → places_follow before l ≡ true → Rise before (covered_places l)
unfolding covered_places
rise_covered before [] follow = tt
rise_covered before (area ∷ behind) follow =
    go (covered_by_items area.access) (rise_covered (before + length_of area) behind (follow_behind before area behind follow))
  where
    at : area.place ≡ before
    at = follow_here before area behind follow

    go : (open? : Bool) → Rise (before + length_of area) (covered_places behind)
        → Rise before (cond open? (up_from area.place (length_of area)) [] ++ covered_places behind)
    go true rest =
        rise_lower area.place before (omega (arith, at)) (up_from area.place (length_of area) ++ covered_places behind)
        (rise_up area.place (length_of area) (covered_places behind)
        (rise_lower (before + length_of area) (area.place + length_of area) (omega (arith, at)) (covered_places behind) rest))
    go false rest = rise_lower (before + length_of area) before (omega arith) (covered_places behind) rest

-- ---- the places of an item, of the items, and of the areas that items cover

holds_among : (item : Item) (place : ℕ) → holds item place ≡ true → Among place (places_of item)
holds_among item place e = go (eqb item.place place) (is_pair item) (eqb (item.place + 1) place) refl refl e
  where
    go : (first pair second : Bool) → eqb item.place place ≡ first → eqb (item.place + 1) place ≡ second
        → (first || (pair && second)) ≡ true → Among place (item.place ∷ cond pair ((item.place + 1) ∷ []) [])
    go true pair second f s e = subst (λ (n : ℕ). Among n (item.place ∷ cond pair ((item.place + 1) ∷ []) [])) (eqb-true item.place place f) here
    go false true true f s e = there (subst (λ (n : ℕ). Among n ((item.place + 1) ∷ [])) (eqb-true (item.place + 1) place s) here)
    go false true false f s e = absurd (false≢true e)
    go false false second f s e = absurd (false≢true e)

among_holds : (item : Item) (place : ℕ) → Among place (places_of item) → holds item place ≡ true
among_holds item place m = go (is_pair item) (among_cons m)
  where
    first : (pair : Bool) → place ≡ item.place → (eqb item.place place || (pair && eqb (item.place + 1) place)) ≡ true
    first pair e = ap (λ (b : Bool). b || (pair && eqb (item.place + 1) place)) (eq-eqb item.place place (sym e))

    second : (place ≡ item.place + 1) ⊎ Among place [] → (eqb item.place place || eqb (item.place + 1) place) ≡ true
    second (inl e) = ap (λ (b : Bool). eqb item.place place || b) (eq-eqb (item.place + 1) place (sym e)) ∙ or-true (eqb item.place place)
    second (inr m) = absurd (among_nil m)

    go : (pair : Bool) → (place ≡ item.place) ⊎ Among place (cond pair ((item.place + 1) ∷ []) [])
        → (eqb item.place place || (pair && eqb (item.place + 1) place)) ≡ true
    go pair (inl e) = first pair e
    go true (inr m) = second (among_cons m)
    go false (inr m) = absurd (among_nil m)

module _ (row : ℕ → Item) where
  item_among : (from count k place : ℕ) → k < count → Among place (places_of (row (from + k))) → Among place (item_places (rows row from count))
  unfolding rows item_places
  item_among from zero k place inside m = absurd (omega arith)
  item_among from (suc count) zero place inside m =
      among_left (item_places (rows row (suc from) count)) (subst (λ (n : ℕ). Among place (places_of (row n))) (omega arith) m)
  item_among from (suc count) (suc k) place inside m =
      among_right (places_of (row from))
      (item_among (suc from) count k place (omega arith) (subst (λ (n : ℕ). Among place (places_of (row n))) (omega arith) m))

  among_item : (from count place : ℕ) → Among place (item_places (rows row from count))
      → (k : ℕ) × (k < count) × Among place (places_of (row (from + k)))
  unfolding rows item_places
  among_item from zero place m = absurd (among_nil m)
  among_item from (suc count) place m =
      go (among_append (places_of (row from)) (item_places (rows row (suc from) count)) m) (λ r. among_item (suc from) count place r)
    where
      go : Among place (places_of (row from)) ⊎ Among place (item_places (rows row (suc from) count))
          → (Among place (item_places (rows row (suc from) count)) → (k : ℕ) × (k < count) × Among place (places_of (row (suc from + k))))
          → (k : ℕ) × (k < suc count) × Among place (places_of (row (from + k)))
      go (inl m) rest = (0, omega arith, subst (λ (n : ℕ). Among place (places_of (row n))) (omega arith) m)
      go (inr m) rest =
          let found = rest m in
          (suc found.0, omega arith, subst (λ (n : ℕ). Among place (places_of (row n))) (omega arith) found.2)

  -- the places of an item are below those of every later one
  items_apart : (low from count i j x y : ℕ) → Rise low (item_places (rows row from count)) → i < j → j < count
      → Among x (places_of (row (from + i))) → Among y (places_of (row (from + j))) → x < y
  unfolding rows item_places
  items_apart low from zero i j x y rise less inside m n = absurd (omega arith)
  items_apart low from (suc count) i zero x y rise less inside m n = absurd (omega arith)
  items_apart low from (suc count) zero (suc j) x y rise less inside m n =
      rise_apart low (item_places (rows row (suc from) count))
      (subst (λ (n : ℕ). Among x (places_of (row n))) (omega arith) m)
      (item_among (suc from) count j y (omega arith) (subst (λ (n : ℕ). Among y (places_of (row n))) (omega arith) n)) rise
  items_apart low from (suc count) (suc i) (suc j) x y rise less inside m n =
      items_apart low (suc from) count i j x y (rise_tail low (places_of (row from)) (item_places (rows row (suc from) count)) rise)
      (omega arith) (omega arith) (subst (λ (n : ℕ). Among x (places_of (row n))) (omega arith) m)
      (subst (λ (n : ℕ). Among y (places_of (row n))) (omega arith) n)

-- a place lies in an area that items cover, of access 2 or 3
abbrev pub in_covered : List Area → ℕ → Bool
in_covered all place = some (λ area. covered_by_items area.access && place_in_area place area) all

own_among : {area : Area} {all : List Area} (place : ℕ) → Among area all → covered_by_items area.access ≡ true
    → area.place ≤ place → place < area.place + length_of area → Among place (covered_places all)
unfolding covered_places
own_among {area} place (here {l = behind}) open? low high =
    among_left (covered_places behind)
    (subst (λ (b : Bool). Among place (cond b (up_from area.place (length_of area)) [])) (sym open?)
    (subst (λ (n : ℕ). Among n (up_from area.place (length_of area))) back
    (up_among area.place (length_of area) (place - area.place) (omega arith))))
  where
    back : area.place + (place - area.place) ≡ place
    back = omega arith
own_among place (there {b = other} m) open? low high =
    among_right (cond (covered_by_items other.access) (up_from other.place (length_of other)) []) (own_among place m open? low high)

covered_among : (all : List Area) (place : ℕ) → in_covered all place ≡ true → Among place (covered_places all)
covered_among all place e =
    let found = some_among (λ (area : Area). covered_by_items area.access && place_in_area place area) all e in
    let area = found.0 in
    let within = second_of_lem (covered_by_items area.access) (place_in_area place area) found.2 in
    own_among place found.1 (first_of (covered_by_items area.access) (place_in_area place area) found.2)
    (leb-true area.place place (first_of (leb area.place place) (ltb place (area.place + length_of area)) within))
    (ltb-true place (area.place + length_of area) (second_of_lem (leb area.place place) (ltb place (area.place + length_of area)) within))

among_covered : (all : List Area) (place : ℕ) → Among place (covered_places all) → in_covered all place ≡ true
unfolding covered_places some
among_covered [] place m = absurd (among_nil m)
among_covered (area ∷ behind) place m =
    go (covered_by_items area.access) (among_append (cond (covered_by_items area.access) (up_from area.place (length_of area)) []) (covered_places behind) m)
    (λ r. among_covered behind place r)
  where
    go : (open? : Bool) → Among place (cond open? (up_from area.place (length_of area)) []) ⊎ Among place (covered_places behind)
        → (Among place (covered_places behind) → in_covered behind place ≡ true)
        → ((open? && place_in_area place area) || in_covered behind place) ≡ true
    go true (inl m) rest =
        let within = among_up area.place (length_of area) m in
        ap₂ (λ (x y : Bool). (x && y) || in_covered behind place)
        (le-leb area.place place within.0) (lt-ltb place (area.place + length_of area) within.1)
    go false (inl m) rest = absurd (among_nil m)
    go open? (inr m) rest =
        ap (λ (b : Bool). (open? && place_in_area place area) || b) (rest m) ∙ or-true (open? && place_in_area place area)

-- ---- over a sound sheet

module _ (sheet : List ℕ) (keeps : sound sheet ≡ true) where
  same_places_lem : item_places (items sheet) ≡ covered_places (areas sheet)
  same_places_lem = same_list (item_places (items sheet)) (covered_places (areas sheet)) (sound_cover sheet keeps)

  rising : Rise 0 (item_places (items sheet))
  rising = rw same_places_lem (rise_covered 0 (areas sheet) (sound_areas sheet keeps).follow)

  -- an item's places, as the rows count their indices
  counted : {x : ℕ} (k : ℕ) → Among x (places_of (item_at sheet k)) → Among x (places_of (item_at sheet (0 + k)))
  counted {x} k m = subst (λ (n : ℕ). Among x (places_of (item_at sheet n))) same m
    where
      same : k ≡ 0 + k
      same = omega arith

  apart : (i j x y : ℕ) → i < j → j < item_count sheet → Among x (places_of (item_at sheet i)) → Among y (places_of (item_at sheet j)) → x < y
  unfolding items
  apart i j x y less inside m n =
      items_apart (item_at sheet) 0 0 (item_count sheet) i j x y rising less inside (counted i m) (counted j n)

  -- rule S46
  pub items_ascend : (i j : ℕ) → i < j → j < item_count sheet → (item_at sheet i).place < (item_at sheet j).place
  items_ascend i j less inside = apart i j (item_at sheet i).place (item_at sheet j).place less inside here here

  -- rule S47: each place of an access 2 or access 3 area is held
  pub covered_by : (place : ℕ) → in_covered (areas sheet) place ≡ true
      → (k : ℕ) × (k < item_count sheet) × (holds (item_at sheet k) place ≡ true)
  unfolding items
  covered_by place e =
      let found = among_item (item_at sheet) 0 (item_count sheet) place
      (subst (λ (l : List ℕ). Among place l) (sym same_places_lem) (covered_among (areas sheet) place e)) in
      let same : 0 + found.0 ≡ found.0 = omega arith in (
        found.0,
        found.1,
        among_holds (item_at sheet found.0) place
            (subst (λ (n : ℕ). Among place (places_of (item_at sheet n))) same found.2),
      )

  -- rule S47: by one item alone
  pub covered_once : (place i j : ℕ) → i < item_count sheet → j < item_count sheet → holds (item_at sheet i) place ≡ true
      → holds (item_at sheet j) place ≡ true → i ≡ j
  covered_once place i j i-inside j-inside e f = go (ltb i j) (ltb j i) refl refl
    where
      m : Among place (places_of (item_at sheet i))
      m = holds_among (item_at sheet i) place e

      n : Among place (places_of (item_at sheet j))
      n = holds_among (item_at sheet j) place f

      go : (less more : Bool) → ltb i j ≡ less → ltb j i ≡ more → i ≡ j
      go true more l r = absurd (omega (arith, apart i j place place (ltb-true i j l) j-inside m n))
      go false true l r = absurd (omega (arith, apart j i place place (ltb-true j i r) i-inside n m))
      go false false l r = omega (arith, ltb-false i j l, ltb-false j i r)

  -- rule S47: and no place besides
  pub covered_only : (place k : ℕ) → k < item_count sheet → holds (item_at sheet k) place ≡ true → in_covered (areas sheet) place ≡ true
  unfolding items
  covered_only place k inside e =
      among_covered (areas sheet) place
      (subst (λ (l : List ℕ). Among place l) same_places_lem
      (item_among (item_at sheet) 0 (item_count sheet) k place inside (counted k (holds_among (item_at sheet k) place e))))
