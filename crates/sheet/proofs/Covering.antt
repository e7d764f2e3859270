-- How the items cover the places of the access 2 and access 3 areas: the next place that is left, and the next area that has one. Assumes nothing.
use mathlib.Core.Path.{◌≡◌, refl, sym, ap, ap₂, subst₂, ◌∙◌}
use mathlib.Core.Bool.{Bool, true, false, not, ◌&&◌, ◌||◌, and-true, and-false, cond}
use mathlib.Core.List.{List, [], ◌∷◌, ◌++◌}
use Prim.Native.Nat.{ℕ, suc, ◌+◌, ◌-◌, ◌≤◌, ◌<◌}
use native.Mathlib.Omega.{arith}
use lib.Dec.{leb, ltb, eqb}
use borrow.Author.Tests.{le-leb, lt-leb, lt-ltb, le-ltb, eq-eqb, ne_eqb, eqb-true, eqb-false, ltb-true, ltb-false}
use Rattle.sheet_rules.specs.declared.Area.{Area}
use Rattle.sheet_rules.specs.declared.Item.{Item}
use Rattle.sheet.specs.declared.item_rows.Cover.{Cover}
use Rattle.sheet_rules.specs.Rows.{area_count, area_at, areas}
use Rattle.lists.specs.Lists.{up_from, same_places, each}
use Rattle.sheet_rules.specs.Rules.{length_of, places_follow, covered_by_items, covered_places, is_pair, pair_within, areas_sound, access_rule, first_last_rule}
use Rattle.sheet.specs.Cover.{places_left, UnderWay, size_of}
use Rattle.lists.proofs.Walks.{rows_on, rows_end_lem}
use Rattle.sheet_rules.proofs.Rows.{areas_from, areas_rows}
use Rattle.lists.proofs.Among.{Among, row_among}
use Rattle.sheet_rules.proofs.Within.{pair_within_lem}
use Rattle.sheet_rules.proofs.Sound.{areas_rules}

abbrev pub cover : ℕ → ℕ → ℕ → Cover
cover next end area = record { next = next; end = end; area = area }

-- an area's own places, as the code counts them
own_places : (owned : Bool) (place length : ℕ)
    → up_from place (place + cond owned length 0 - place) ≡ cond owned (up_from place length) []
unfolding up_from
own_places true place length = ap (up_from place) all
  where
    all : place + length - place ≡ length
    all = omega arith
own_places false place length = ap (up_from place) none
  where
    none : place + 0 - place ≡ 0
    none = omega arith

own_within : (owned : Bool) (place length at : ℕ) → place ≤ at → at < place + cond owned length 0 → owned ≡ true
own_within true place length at low high = refl
own_within false place length at low high = absurd (omega arith)

pick_small : (owned : Bool) {length : ℕ} → cond owned length 0 ≤ length
pick_small true = omega arith
pick_small false = omega arith

-- an item has one or two places
pub size_small : (item : Item) → size_of item ≤ 2
size_small item = go (is_pair item)
  where
    go : (pair : Bool) → cond pair 2 1 ≤ 2
    go true = omega arith
    go false = omega arith

pub wide_small : (area : Area) → cond (covered_by_items area.access) (length_of area) 0 ≤ length_of area
wide_small area = pick_small (covered_by_items area.access)

pub area_among : (sheet : List ℕ) (k : ℕ) (area : Area) → area ≡ area_at sheet k → k < area_count sheet → Among area (areas sheet)
area_among sheet k area row inside =
    subst₂ (λ (a : Area) (l : List Area). Among a l) (ap (area_at sheet) first ∙ sym row) (areas_rows sheet)
    (row_among (area_at sheet) 0 (area_count sheet) k inside)
  where
    first : 0 + k ≡ k
    first = omega arith

module _ (sheet : List ℕ) where
  -- nothing is left of the area at hand: the next area is opened
  module _ (k : ℕ) (area : Area) (size : ℕ) (row : area ≡ area_at sheet k) (inside : k < area_count sheet)
      (size-says : size ≡ cond (covered_by_items area.access) (length_of area) 0) where
    pub left_open : (next end : ℕ) → end ≤ next
        → places_left sheet (cover area.place (area.place + size) (k + 1)) ≡ places_left sheet (cover next end k)
    unfolding places_left covered_places up_from
    left_open next end done =
        ap (λ (l : List ℕ). l ++ covered_places (areas_from sheet (k + 1)))
        (ap (λ (n : ℕ). up_from area.place (area.place + n - area.place)) size-says
        ∙ own_places (covered_by_items area.access) area.place (length_of area))
        ∙ sym (ap₂ (λ (n : ℕ) (l : List Area). up_from next n ++ covered_places l) none
        (rows_on (area_at sheet) k (area_count sheet) inside ∙ ap (λ (a : Area). a ∷ areas_from sheet (k + 1)) (sym row)))
      where
        none : end - next ≡ 0
        none = omega arith

    pub way_open : each access_rule (areas sheet) ≡ true → each first_last_rule (areas sheet) ≡ true → places_follow 0 (areas sheet) ≡ true → area.place < 0x10000 → area.last < 0x10000
        → UnderWay sheet (cover area.place (area.place + size) (k + 1))
    way_open known order follow place_small last-small =
        record {
          known = known;
          order = order;
          follow = follow;
          ordered = omega arith;
          within = omega arith;
          small = omega (arith, size_small);
          whole = whole;
        }
      where
        size_small : size ≤ length_of area
        size_small = rw size-says (pick_small (covered_by_items area.access))

        whole : (place : ℕ) → area.place ≤ place → place < area.place + size
            → pair_within (areas sheet) place ≡ ltb (place + 1) (area.place + size)
        whole place low high =
            let all : size ≡ length_of area =
            size-says ∙ ap (λ (b : Bool). cond b (length_of area) 0)
            (own_within (covered_by_items area.access) area.place (length_of area) place low (rw size-says at high)) in
            rw all (pair_within_lem 0 (area_among sheet k area row inside) follow place low (rw all at high))

  -- a walk begins, and goes on within the area at hand
  pub way_start : areas_sound sheet ≡ true → UnderWay sheet (cover 0 0 0)
  way_start keeps =
      record {
        known = (areas_rules sheet keeps).access;
        order = (areas_rules sheet keeps).first_last;
        follow = (areas_rules sheet keeps).follow;
        ordered = omega arith;
        within = omega arith;
        small = omega arith;
        whole = λ place low high. absurd (omega arith);
      }

  pub way_on : (c : Cover) (size : ℕ) → UnderWay sheet c → c.next + size ≤ c.end → UnderWay sheet (cover (c.next + size) c.end c.area)
  way_on c size way fits =
      record {
        known = way.known;
        order = way.order;
        follow = way.follow;
        ordered = fits;
        within = way.within;
        small = way.small;
        whole = λ place low high. way.whole place (omega arith) high;
      }

  -- the first place that is left; none is left
  pub left_on : (next end k : ℕ) → next < end → places_left sheet (cover next end k) ≡ next ∷ places_left sheet (cover (next + 1) end k)
  unfolding places_left up_from
  left_on next end k some_left =
      ap (λ (n : ℕ). up_from next n ++ covered_places (areas_from sheet k)) more
      ∙ ap (λ (n : ℕ). next ∷ (up_from n (end - (next + 1)) ++ covered_places (areas_from sheet k))) one
    where
      more : end - next ≡ suc (end - (next + 1))
      more = omega arith

      one : suc next ≡ next + 1
      one = omega arith

  pub left_none : (next end k : ℕ) → end ≤ next → area_count sheet ≤ k → places_left sheet (cover next end k) ≡ []
  unfolding places_left up_from covered_places
  left_none next end k done past =
      ap₂ (λ (n : ℕ) (l : List Area). up_from next n ++ covered_places l) none (rows_end_lem (area_at sheet) k (area_count sheet) past)
    where
      none : end - next ≡ 0
      none = omega arith

-- an item at the next place, of one place or of two: what covering it and lying within one area say together
module _ (sheet : List ℕ) (next end k : ℕ) (way : UnderWay sheet (cover next end k)) (last : end ≤ next → area_count sheet ≤ k)
    (place : ℕ) (places : List ℕ) where
  abbrev pub Together : Bool → Type 0
  Together pair =
      (same_places (place ∷ (cond pair ((place + 1) ∷ []) [] ++ places)) (places_left sheet (cover next end k))
      && (not pair || pair_within (areas sheet) place))
      ≡ (eqb place next && leb (next + cond pair 2 1) end
      && same_places places (places_left sheet (cover (next + cond pair 2 1) end k)))

  -- nothing is left
  together_none : (pair : Bool) → end ≤ next → Together pair
  unfolding same_places
  together_none true done =
      simp (left_none sheet next end k done (last done), lt-leb (next + 2) end (omega arith), and-false)
  together_none false done =
      simp (left_none sheet next end k done (last done), lt-leb (next + 1) end (omega arith), and-false)

  -- it stands elsewhere
  together_apart : (pair : Bool) → next < end → (place ≡ next → ⊥) → Together pair
  unfolding same_places
  together_apart pair some_left apart = simp (left_on sheet next end k some_left, ne_eqb place next apart)

  together_word : next < end → place ≡ next → Together false
  unfolding same_places
  together_word some_left at =
      simp (left_on sheet next end k some_left, eq-eqb place next at, le-leb (next + 1) end (omega arith), and-true)

  together_pair : next + 1 < end → place ≡ next → Together true
  unfolding same_places
  together_pair both_left at =
      simp (
        left_on sheet next end k (omega arith),
        left_on sheet (next + 1) end k both_left,
        eq-eqb place next at,
        eq-eqb (place + 1) (next + 1) (omega arith),
        le-leb (next + 2) end (omega arith),
        way.whole place (omega arith) (omega arith),
        lt-ltb (place + 1) end (omega arith),
        and-true,
        two,
      )
    where
      two : next + 1 + 1 ≡ next + 2
      two = omega arith

  together_over : next < end → end ≤ next + 1 → place ≡ next → Together true
  unfolding same_places
  together_over some_left over at =
      simp (way.whole place (omega arith) (omega arith), le-ltb (place + 1) end (omega arith), lt-leb (next + 2) end (omega arith), and-false)

  pub together : (pair : Bool) → Together pair
  together pair = go pair (ltb next end) (eqb place next) (ltb (next + 1) end) refl refl refl
    where
      go : (pair left here both : Bool) → ltb next end ≡ left → eqb place next ≡ here → ltb (next + 1) end ≡ both → Together pair
      go pair false here both l h b = together_none pair (ltb-false next end l)
      go pair true false both l h b = together_apart pair (ltb-true next end l) (eqb-false place next h)
      go false true true both l h b = together_word (ltb-true next end l) (eqb-true place next h)
      go true true true true l h b = together_pair (ltb-true (next + 1) end b) (eqb-true place next h)
      go true true true false l h b =
          together_over (ltb-true next end l) (ltb-false (next + 1) end b) (eqb-true place next h)
