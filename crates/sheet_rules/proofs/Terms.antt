-- Terms of the rules by themselves: the places that an item holds (rules S45 and S48), what an access is good for (rules S21, S30, S47, J60 and J61), and how far a run of
-- addresses is open (rules J60 to J62), each as one table under one statement. Assumes nothing.
use mathlib.Core.Path.{◌≡◌, refl}
use mathlib.Core.Bool.{Bool, true, not, ◌&&◌}
use mathlib.Core.List.{List, [], ◌∷◌}
use Prim.Native.Nat.{ℕ}
use lib.Dec.{eqb}
use Rattle.sheet_rules.specs.declared.Area.{Area}
use Rattle.sheet_rules.specs.declared.Item.{Item}
use Rattle.sheet_rules.specs.declared.Purpose.{Purpose}
use Rattle.sheet_rules.specs.declared.Purpose.TheVariants.{Read, Write}
use Rattle.sheet_rules.specs.Rows.{item_end}
use Rattle.sheet_rules.specs.Rules.{access_rule, write_only_rule, readable, writable, covered_by_items}
use Rattle.sheet_rules.specs.Lookup.{holds}
use Rattle.sheet_rules.specs.Runs.{reach}
use Rattle.lists.specs.Lists.{each}

-- an item by its kind, at place 5
abbrev item : ℕ → Item
item kind = record { kind = kind; place = 5; low = 0; high = 1 }

-- a kind and a place that its item holds, or does not
pub data Row : Type 0 where
  held : ℕ → ℕ → Row
  not_held : ℕ → ℕ → Row

abbrev pub right : Row → Bool
right (held kind place) = holds (item kind) place
right (not_held kind place) = not (holds (item kind) place)

pub table : List Row
table =
    -- a word
    not_held 0 4 ∷ held 0 5 ∷ not_held 0 6
    -- a signed word
    ∷ not_held 1 4 ∷ held 1 5 ∷ not_held 1 6
    -- a pair
    ∷ not_held 2 4 ∷ held 2 5 ∷ held 2 6 ∷ not_held 2 7
    ∷ []

-- every row is right
pub places_held : each right table ≡ true
unfolding table each
places_held = refl

abbrev area : ℕ → ℕ → ℕ → ℕ → Area
area first last place access = record { first = first; last = last; place = place; access = access }

-- an access: whether it may be read, whether it may be written, and whether items cover its places; and whether sheets of version 1 and of version 2 have it
pub data Access : Type 0 where
  closed : ℕ → Access
  read_only : ℕ → Access
  write_only_lem : ℕ → Access
  read_and_write_lem : ℕ → Access

abbrev known : ℕ → ℕ → Bool
known version access = access_rule (area 0 0 0 access) && write_only_rule version (area 0 0 0 access)

abbrev pub fitting : Access → Bool
fitting (closed access) = not (readable access) && not (writable access) && not (covered_by_items access) && not (known 1 access) && not (known 2 access)
fitting (read_only access) = readable access && not (writable access) && not (covered_by_items access) && known 1 access && known 2 access
fitting (write_only_lem access) = not (readable access) && writable access && covered_by_items access && not (known 1 access) && known 2 access
fitting (read_and_write_lem access) = readable access && writable access && covered_by_items access && known 1 access && known 2 access

pub accesses : List Access
accesses = closed 0 ∷ read_only 1 ∷ write_only_lem 2 ∷ read_and_write_lem 3 ∷ closed 4 ∷ []

-- every row is right
pub accesses_fit : each fitting accesses ≡ true
unfolding accesses each
accesses_fit = refl

-- 0010 to 0013 with access 3 and 0014 and 0015 with access 1 are neighbours; 0016 is a gap; 0017 and 0018 with access 3, 0019 with access 2, 001A with access 3 and
-- 001B with access 1 are neighbours; 0020 with access 1, 0021 with access 2 and 0022 with access 1 are too
abbrev some_areas : List Area
some_areas =
    area 0x0010 0x0013 0 3 ∷ area 0x0014 0x0015 4 1 ∷ area 0x0017 0x0018 6 3 ∷ area 0x0019 0x0019 8 2 ∷ area 0x001A 0x001A 9 3
    ∷ area 0x001B 0x001B 10 1 ∷ area 0x0020 0x0020 11 1 ∷ area 0x0021 0x0021 12 2 ∷ area 0x0022 0x0022 13 1 ∷ area 0xFFFE 0xFFFF 14 1 ∷ []

-- a purpose, an address, and the first one from it on that is not open
pub record Reach : Type 0 where
  pub purpose : Purpose
  pub start : ℕ
  pub end : ℕ

abbrev from : Purpose → ℕ → ℕ → Reach
from purpose start end = record { purpose = purpose; start = start; end = end }

abbrev pub reaches : Reach → Bool
reaches this = eqb (reach this.purpose some_areas this.start) this.end

pub runs : List Reach
runs =
    from Read 0x000F 0x000F ∷ from Read 0x0010 0x0016 ∷ from Read 0x0013 0x0016 ∷ from Read 0x0014 0x0016 ∷ from Read 0x0015 0x0016
    ∷ from Read 0x0016 0x0016 ∷ from Read 0x0017 0x0019 ∷ from Read 0x0018 0x0019 ∷ from Read 0x0019 0x0019 ∷ from Read 0x001A 0x001C ∷ from Read 0x001B 0x001C
    ∷ from Read 0x0020 0x0021 ∷ from Read 0x0021 0x0021 ∷ from Read 0x0022 0x0023
    ∷ from Read 0xFFFE 0x10000 ∷ from Read 0xFFFF 0x10000 ∷ from Read 0x10000 0x10000
    ∷ from Write 0x000F 0x000F ∷ from Write 0x0010 0x0014 ∷ from Write 0x0013 0x0014 ∷ from Write 0x0014 0x0014 ∷ from Write 0x0015 0x0015
    ∷ from Write 0x0016 0x0016 ∷ from Write 0x0017 0x001B ∷ from Write 0x0018 0x001B ∷ from Write 0x0019 0x001B ∷ from Write 0x001A 0x001B ∷ from Write 0x001B 0x001B
    ∷ from Write 0x0020 0x0020 ∷ from Write 0x0021 0x0022 ∷ from Write 0x0022 0x0022 ∷ from Write 0xFFFF 0xFFFF ∷ []

-- every row is right
pub runs_reach : each reaches runs ≡ true
unfolding runs each reach
runs_reach = refl

-- where an item row ends, in bytes, behind so many areas and items: rule L8's sheet has 68 bytes, and the longest 856, and six more with a record area
pub row_ends : (item_end 1 0 ∷ item_end 1 2 ∷ item_end 8 63 ∷ []) ≡ 44 ∷ 68 ∷ 856 ∷ []
row_ends = refl
