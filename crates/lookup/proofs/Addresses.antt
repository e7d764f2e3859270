-- The address of a place, area row by area row. Assumes nothing.
use Prim.Native.Nat.{ℕ, ◌+◌, ◌-◌, ◌≤◌, ◌<◌}
use mathlib.Core.Path.{◌≡◌, refl, sym, ap, ◌∙◌}
use mathlib.Core.Bool.{Bool, true, false, cond}
use mathlib.Core.List.{List, ◌∷◌}
use native.Mathlib.Omega.{arith}
use lib.Dec.{leb, ltb}
use borrow.Author.Tests.{lt-ltb, le-ltb, lt-leb, le-leb, leb-true, leb-false}
use Rattle.sheet_rules.specs.declared.Area.{Area}
use Rattle.sheet_rules.specs.Rows.{area_count, area_at}
use Rattle.sheet_rules.proofs.Rows.{areas_from}
use Rattle.sheet_rules.specs.Rules.{place_in_area, length_of}
use Rattle.sheet_rules.specs.Lookup.{address_of}
use Rattle.lists.proofs.Walks.{rows_on, rows_end_lem}
use Rattle.lists.proofs.Tests.{first_of}

-- a place in front of an area is none of its places; behind its first place, the address tells
pub place_before : (place : ℕ) (area : Area) → place < area.place → place_in_area place area ≡ false
place_before place area before = simp (lt-leb area.place place before)

pub place_by_address : (place : ℕ) (area : Area) → area.place ≤ place
    → leb (area.first + (place - area.place)) area.last ≡ place_in_area place area
place_by_address place area from = go (leb (area.first + (place - area.place)) area.last) refl ∙ simp (le-leb area.place place from)
  where
    go : (inside : Bool) → leb (area.first + (place - area.place)) area.last ≡ inside
        → leb (area.first + (place - area.place)) area.last ≡ ltb place (area.place + length_of area)
    go true e =
        let low = leb-true (area.first + (place - area.place)) area.last e in
        e ∙ sym (lt-ltb place (area.place + length_of area) (omega arith))
    go false e =
        let high = leb-false (area.first + (place - area.place)) area.last e in
        e ∙ sym (le-ltb place (area.place + length_of area) (omega arith))

pub place_from : (place : ℕ) (area : Area) → place_in_area place area ≡ true → area.place ≤ place
place_from place area inside =
    leb-true area.place place (first_of (leb area.place place) (ltb place (area.place + length_of area)) inside)

module _ (sheet : List ℕ) (place k : ℕ) where
  pub address_on : (area : Area) → area ≡ area_at sheet k → k < area_count sheet
      → address_of (areas_from sheet k) place
      ≡ cond (place_in_area place area) (area.first + (place - area.place)) (address_of (areas_from sheet (k + 1)) place)
  unfolding address_of
  address_on area here inside =
      ap (λ (l : List Area). address_of l place)
      (rows_on (area_at sheet) k (area_count sheet) inside ∙ ap (λ (a : Area). a ∷ areas_from sheet (k + 1)) (sym here))

  pub address_end : area_count sheet ≤ k → address_of (areas_from sheet k) place ≡ 0x10000
  unfolding address_of
  address_end past = ap (λ (l : List Area). address_of l place) (rows_end_lem (area_at sheet) k (area_count sheet) past)
