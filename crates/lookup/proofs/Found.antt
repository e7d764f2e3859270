-- What lies at an address, area row by area row: by a row, or else by those behind it. Assumes nothing.
use Prim.Native.Nat.{ℕ, ◌+◌, ◌-◌, ◌<◌}
use mathlib.Core.Path.{◌≡◌, refl, sym, ap, ◌∙◌}
use mathlib.Core.Bool.{Bool, true, false, cond}
use mathlib.Core.List.{List, [], ◌∷◌}
use Rattle.std.specs.Prelude.{Option, None, Some}
use Rattle.sheet_rules.specs.declared.Area.{Area}
use Rattle.sheet_rules.specs.declared.Lies.{Lies}
use Rattle.sheet_rules.specs.Rows.{areas, area_count, area_at}
use Rattle.sheet_rules.specs.Rules.{in_area}
use Rattle.sheet_rules.specs.Lookup.{lies_in, found_at}
use Rattle.lists.proofs.Walks.{rows_all}
use Rattle.sheet_rules.proofs.Rows.{areas_from, areas_rows, lies_on}

abbrev pub or_later : Option Lies → Option Lies → Option Lies
or_later (Some lies) later = Some lies
or_later None later = later

pub or_none : (lies : Option Lies) → or_later lies None ≡ lies
or_none (Some lies) = refl
or_none None = refl

-- all area rows are those from the first on
pub all_from : (sheet : List ℕ) → areas_from sheet 0 ≡ areas sheet
all_from sheet = rows_all (area_at sheet) (area_count sheet) ∙ areas_rows sheet

-- nothing lies at an address by an area that does not hold it
pub none_by : (address : ℕ) (area : Area) → in_area address area ≡ false → None ≡ lies_in (area ∷ []) address
unfolding lies_in
none_by address area outside = simp outside

-- behind an area row, what lies at an address is what lies there by the row or else by those behind it
module _ (sheet : List ℕ) (address k : ℕ) (area : Area) (here : area ≡ area_at sheet k) (inside : k < area_count sheet) where
  by_row : lies_in (areas_from sheet k) address ≡ or_later (lies_in (area ∷ []) address) (lies_in (areas_from sheet (k + 1)) address)
  unfolding lies_in
  by_row = lies_on sheet address k area here inside ∙ go (in_area address area)
    where
      go : (b : Bool)
          → cond b (found_at (area.place + (address - area.first)) area.access) (lies_in (areas_from sheet (k + 1)) address)
          ≡ or_later (cond b (found_at (area.place + (address - area.first)) area.access) None) (lies_in (areas_from sheet (k + 1)) address)
      go true = refl
      go false = refl

  pub lies_next : (lies : Option Lies) → lies ≡ lies_in (area ∷ []) address
      → or_later lies (lies_in (areas_from sheet (k + 1)) address) ≡ lies_in (areas_from sheet k) address
  lies_next lies says = ap (λ (l : Option Lies). or_later l (lies_in (areas_from sheet (k + 1)) address)) says ∙ sym by_row
