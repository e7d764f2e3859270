-- The rows of a sheet from an index on: the next row and those behind it. Assumes nothing.
use mathlib.Core.Bool.{Bool, true, false, cond}
use mathlib.Core.Path.{◌≡◌, ap, ◌∙◌}
use mathlib.Core.List.{List, ◌∷◌}
use Prim.Native.Nat.{ℕ, ◌+◌, ◌-◌, ◌≤◌, ◌<◌}
use mathlib.Core.Path.{refl, sym}
use Rattle.std.specs.Prelude.{None}
use Rattle.sheet_rules.specs.declared.Area.{Area}
use Rattle.sheet_rules.specs.declared.Purpose.{Purpose}
use Rattle.sheet_rules.specs.Runs.{carried, reach}
use Rattle.lists.specs.Lists.{rows}
use Rattle.sheet_rules.specs.Rows.{area_count, area_at, areas, item_count, item_at, items}
use Rattle.sheet_rules.specs.Rules.{in_area}
use Rattle.sheet_rules.specs.Lookup.{lies_in, place_in, found_at}
use Rattle.lists.proofs.Walks.{rows_end_lem, rows_on}

-- the area rows from an index on
abbrev pub areas_from : List ℕ → ℕ → List Area
areas_from sheet k = rows (area_at sheet) k (area_count sheet - k)

pub areas_rows : (sheet : List ℕ) → rows (area_at sheet) 0 (area_count sheet) ≡ areas sheet
unfolding areas
areas_rows sheet = refl

pub items_rows : (sheet : List ℕ) → rows (item_at sheet) 0 (item_count sheet) ≡ items sheet
unfolding items
items_rows sheet = refl

-- what lies at an address: in the area at hand, or in one behind it
module _ (sheet : List ℕ) (address k : ℕ) where
  pub lies_on : (area : Area) → area ≡ area_at sheet k → k < area_count sheet
      → lies_in (areas_from sheet k) address
      ≡ cond (in_area address area) (found_at (area.place + (address - area.first)) area.access)
      (lies_in (areas_from sheet (k + 1)) address)
  unfolding lies_in
  lies_on area here inside =
      ap (λ (l : List Area). lies_in l address)
      (rows_on (area_at sheet) k (area_count sheet) inside ∙ ap (λ (a : Area). a ∷ areas_from sheet (k + 1)) (sym here))

  pub lies_end : area_count sheet ≤ k → lies_in (areas_from sheet k) address ≡ None
  unfolding lies_in
  lies_end past = ap (λ (l : List Area). lies_in l address) (rows_end_lem (area_at sheet) k (area_count sheet) past)

-- the place of an address, likewise; and how far the address is carried
module _ (sheet : List ℕ) (k : ℕ) (area : Area) (here : area ≡ area_at sheet k) (inside : k < area_count sheet) where
  pub place_on : (address : ℕ)
      → place_in (lies_in (areas_from sheet k) address)
      ≡ cond (in_area address area) (area.place + (address - area.first)) (place_in (lies_in (areas_from sheet (k + 1)) address))
  place_on address = ap place_in (lies_on sheet address k area here inside) ∙ go (in_area address area)
    where
      go : (b : Bool)
          → place_in (cond b (found_at (area.place + (address - area.first)) area.access) (lies_in (areas_from sheet (k + 1)) address))
          ≡ cond b (area.place + (address - area.first)) (place_in (lies_in (areas_from sheet (k + 1)) address))
      go true = refl
      go false = refl

  pub reach_on : (purpose : Purpose) (address next : ℕ) → next ≡ carried purpose area address
      → reach purpose (areas_from sheet (k + 1)) next ≡ reach purpose (areas_from sheet k) address
  unfolding reach
  reach_on purpose address next says =
      ap (reach purpose (areas_from sheet (k + 1))) says
      ∙ sym (ap (λ (l : List Area). reach purpose l address)
      (rows_on (area_at sheet) k (area_count sheet) inside ∙ ap (λ (a : Area). a ∷ areas_from sheet (k + 1)) (sym here)))

pub reach_end : (sheet : List ℕ) (k : ℕ) → area_count sheet ≤ k → (purpose : Purpose) (address : ℕ)
    → reach purpose (areas_from sheet k) address ≡ address
unfolding reach
reach_end sheet k past purpose address =
    ap (λ (l : List Area). reach purpose l address) (rows_end_lem (area_at sheet) k (area_count sheet) past)
