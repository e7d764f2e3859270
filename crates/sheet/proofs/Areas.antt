-- The rules of the area rows, taken together in one walk that keeps the lowest address that is free and the sum of the lengths. Assumes nothing.
use mathlib.Core.Path.{◌≡◌, refl, sym, ap, ap₂, ◌∙◌}
use mathlib.Core.Bool.{Bool, true, false, not, ◌&&◌, ◌||◌, true≢false, and-true, and-false, and_assoc, cond}
use mathlib.Core.List.{List, [], ◌∷◌}
use Prim.Native.Nat.{ℕ, ◌+◌, ◌/◌, ◌%◌, ◌≤◌, ◌<◌}
use native.Mathlib.Nat.{add_assoc, add-zero, zero-add}
use native.Mathlib.Numerals.{add-one}
use native.Mathlib.Omega.{arith}
use lib.Dec.{leb, eqb, leb-zero}
use borrow.Author.Tests.{le-leb, leb-true}
use Rattle.lists.proofs.Tests.{and_left_comm, first_of, second_of_lem}
use Rattle.sheet_rules.specs.declared.Area.{Area}
use Rattle.sheet_rules.specs.Rows.{version, areas, area_at, area_count, bank_words, functions, clear_address}
use Rattle.sheet_rules.proofs.Rows.{areas_from}
use Rattle.lists.proofs.Walks.{rows_on, rows_end_lem}
use Rattle.lists.specs.Lists.{each, some}
use Rattle.sheet_rules.specs.Rules.{access_rule, write_only_rule, first_last_rule, areas_ascend, places_follow, lengths_sum, in_area, length_of, allowed, bit_of05, clear_address_rule, areas_sound}

-- an area in its turn, in a sheet of a version: behind the lowest address that is free, at the sum of the lengths
abbrev pub in_turn : ℕ → ℕ → ℕ → Area → Bool
in_turn version lowest places area =
    access_rule area && write_only_rule version area && first_last_rule area && leb lowest area.first && eqb area.place places

unfoldable pub walk : ℕ → Bool → ℕ → ℕ → ℕ → ℕ → List Area → Bool
walk version kept clear total lowest places [] = eqb places total
walk version kept clear total lowest places (area ∷ behind) =
    in_turn version lowest places area && not (kept && in_area clear area)
    && walk version kept clear total (area.last + 1) (places + length_of area) behind

unfoldable pub from : ℕ → List Area → Bool
from lowest l = each (λ area. leb lowest area.first) l

-- a higher address that is free says more
higher : (low high : ℕ) → low ≤ high → (l : List Area) → (from low l && from high l) ≡ from high l
unfolding from each
higher low high order [] = refl
higher low high order (area ∷ behind) = go (higher low high order behind) (leb high area.first) refl
  where
    go : (from low behind && from high behind) ≡ from high behind → (free : Bool) → leb high area.first ≡ free
        → (leb low area.first && from low behind && (free && from high behind)) ≡ (free && from high behind)
    go rest true e = simp (le-leb low area.first (omega (arith, leb-true high area.first e)), rest)
    go rest false e = simp and-false

-- the walk's head and rest, regrouped rule by rule
regroup : (a w f l p c ea ew ef el eh asc fo su n : Bool) → ((f && l) ≡ true → (el && eh) ≡ eh)
    → (a && w && f && l && p && c && (ea && ew && ef && (eh && asc) && fo && su && n))
    ≡ ((a && ea) && (w && ew) && (f && ef) && ((l && el) && (eh && asc)) && (p && fo) && su && (c && n))
regroup false w f l p c ea ew ef el eh asc fo su n h = refl
regroup true false f l p c ea ew ef el eh asc fo su n h = simp and-false
regroup true true false l p c ea ew ef el eh asc fo su n h = simp and-false
regroup true true true false p c ea ew ef el eh asc fo su n h = simp and-false
regroup true true true true p c ea ew ef el eh asc fo su n h =
    let e : (el && (eh && asc)) ≡ (eh && asc) = rw (← and_assoc el eh asc, h refl) in
    simp e (simp (and_assoc, and_left_comm))

clear_parts : (kept here behind : Bool) → not (kept && (here || behind)) ≡ (not (kept && here) && not (kept && behind))
clear_parts false here behind = refl
clear_parts true true behind = refl
clear_parts true false behind = refl

-- the walk is the rules of 01, each over all the areas
pub walk_rules : (version : ℕ) (kept : Bool) (clear total lowest places : ℕ) (l : List Area)
    → walk version kept clear total lowest places l
    ≡ (each access_rule l && each (write_only_rule version) l && each first_last_rule l && (from lowest l && areas_ascend l) && places_follow places l
    && eqb (places + lengths_sum l) total && not (kept && some (in_area clear) l))
unfolding walk from each some areas_ascend places_follow lengths_sum
walk_rules version kept clear total lowest places [] = simp (add-zero, and-false, and-true)
walk_rules version kept clear total lowest places (area ∷ behind) =
    ap (λ (rest : Bool). in_turn version lowest places area && not (kept && in_area clear area) && rest)
    (walk_rules version kept clear total (area.last + 1) (places + length_of area) behind)
    ∙ regroup (access_rule area) (write_only_rule version area) (first_last_rule area) (leb lowest area.first) (eqb area.place places)
    (not (kept && in_area clear area)) (each access_rule behind) (each (write_only_rule version) behind) (each first_last_rule behind) (from lowest behind)
    (from (area.last + 1) behind) (areas_ascend behind) (places_follow (places + length_of area) behind)
    (eqb (places + length_of area + lengths_sum behind) total) (not (kept && some (in_area clear) behind))
    (λ e. higher lowest (area.last + 1)
    (omega (
      arith,
      leb-true area.first area.last (first_of (first_last_rule area) (leb lowest area.first) e),
      leb-true lowest area.first (second_of_lem (first_last_rule area) (leb lowest area.first) e),
    )) behind)
    ∙ simp (add_assoc, clear_parts, add-one)

all_from_zero : (l : List Area) → from 0 l ≡ true
unfolding from each
all_from_zero [] = refl
all_from_zero (area ∷ behind) = ap₂ ◌&&◌ (leb-zero area.first) (all_from_zero behind)

-- where word 10 is as it must be without 05, the walk over all the areas is the rules of the area rows; otherwise they are broken
module _ (sheet : List ℕ) where
  abbrev pub word_rule : Bool
  word_rule = allowed sheet bit_of05 || eqb (clear_address sheet) 0

  abbrev pub walk_all : Bool
  walk_all = walk (version sheet) (allowed sheet bit_of05) (clear_address sheet) (bank_words sheet) 0 0 (areas sheet)

  clear_rule : word_rule ≡ true → clear_address_rule sheet ≡ not (allowed sheet bit_of05 && some (in_area (clear_address sheet)) (areas sheet))
  clear_rule = go (allowed sheet bit_of05) (eqb (clear_address sheet) 0) (some (in_area (clear_address sheet)) (areas sheet))
    where
      go : (kept none there : Bool) → (kept || none) ≡ true → cond kept (not there) none ≡ not (kept && there)
      go true none there e = refl
      go false none there e = e

  pub walk_sound : word_rule ≡ true → walk_all ≡ areas_sound sheet
  unfolding areas_sound
  walk_sound e =
      walk_rules (version sheet) (allowed sheet bit_of05) (clear_address sheet) (bank_words sheet) 0 0 (areas sheet)
      ∙ simp (all_from_zero, zero-add, clear_rule e)

  -- the code's own words for the two
  pub allowed_word : {sum : ℕ} {kept : Bool} → sum ≡ functions sheet → kept ≡ eqb (sum / bit_of05 % 2) 1 → kept ≡ allowed sheet bit_of05
  allowed_word says kept-says = kept-says ∙ ap (λ (n : ℕ). eqb (n / bit_of05 % 2) 1) says

  pub kept_word : {sum clear : ℕ} {kept : Bool} → sum ≡ functions sheet → kept ≡ eqb (sum / bit_of05 % 2) 1
      → clear ≡ clear_address sheet → word_rule ≡ (kept || eqb clear 0)
  kept_word says kept-says clear-says =
      sym (ap₂ (λ (kept : Bool) (clear : ℕ). kept || eqb clear 0) (allowed_word says kept-says) clear-says)

  pub word_broken : word_rule ≡ false → areas_sound sheet ≡ false
  unfolding areas_sound
  word_broken e =
      simp (go (allowed sheet bit_of05) (eqb (clear_address sheet) 0) (not (some (in_area (clear_address sheet)) (areas sheet))) e, and-false)
    where
      go : (kept none outside : Bool) → (kept || none) ≡ false → cond kept outside none ≡ false
      go true none outside e = absurd (true≢false e)
      go false none outside e = e

-- the walk at a row and behind it, and behind the last row
module _ (sheet : List ℕ) (version : ℕ) (kept : Bool) (clear total lowest places k : ℕ) where
  pub walk_on : (area : Area) → area ≡ area_at sheet k → k < area_count sheet
      → walk version kept clear total lowest places (areas_from sheet k)
      ≡ (in_turn version lowest places area && not (kept && in_area clear area)
      && walk version kept clear total (area.last + 1) (places + length_of area) (areas_from sheet (k + 1)))
  unfolding walk
  walk_on area here inside =
      ap (walk version kept clear total lowest places)
      (rows_on (area_at sheet) k (area_count sheet) inside ∙ ap (λ (a : Area). a ∷ areas_from sheet (k + 1)) (sym here))

  pub walk_next : (area : Area) {size : ℕ} → area ≡ area_at sheet k → k < area_count sheet → in_turn version lowest places area ≡ true
      → not (kept && in_area clear area) ≡ true → size ≡ length_of area
      → walk version kept clear total lowest places (areas_from sheet k)
      ≡ walk version kept clear total (area.last + 1) (places + size) (areas_from sheet (k + 1))
  walk_next area here inside turn outside size =
      walk_on area here inside
      ∙ ap₂ (λ (x y : Bool). x && y && walk version kept clear total (area.last + 1) (places + length_of area) (areas_from sheet (k + 1))) turn outside
      ∙ ap (λ (n : ℕ). walk version kept clear total (area.last + 1) (places + n) (areas_from sheet (k + 1))) (sym size)

  pub walk_end : area_count sheet ≤ k → walk version kept clear total lowest places (areas_from sheet k) ≡ eqb places total
  unfolding walk
  walk_end past = ap (walk version kept clear total lowest places) (rows_end_lem (area_at sheet) k (area_count sheet) past)
