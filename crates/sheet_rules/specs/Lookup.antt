-- What lies at an address, the address of a place, the number of a record, and the item that holds a place, over the areas, items and records of a sheet. Assumes nothing.
use Rattle.std.specs.Prelude.{ℕ, ◌+◌, ◌-◌, Bool, ◌&&◌, ◌||◌, cond, List, [], ◌∷◌, eqb, Option, None, Some}
use Rattle.sheet_rules.specs.declared.Area.{Area}
use Rattle.sheet_rules.specs.declared.Item.{Item}
use Rattle.sheet_rules.specs.declared.RecordArea.{RecordArea}
use Rattle.sheet_rules.specs.Rules.{in_area, place_in_area, is_pair}
use Rattle.sheet_rules.specs.declared.Lies.{Lies}

-- a place of the bank with its access
abbrev pub found_at : ℕ → ℕ → Option Lies
found_at place access = Some (record { place = place; access = access })

-- rule S29, what lies at an address: a place of the bank with the access of its area, or none
unfoldable pub lies_in : List Area → ℕ → Option Lies
lies_in [] address = None
lies_in (area ∷ behind) address =
    cond (in_area address area) (found_at (area.place + (address - area.first)) area.access) (lies_in behind address)

-- its place; 0 where there is none
abbrev pub place_in : Option Lies → ℕ
place_in (Some lies) = lies.place
place_in None = 0

-- the address of a place; 0x10000, which is no address, where no area has the place
unfoldable pub address_of : List Area → ℕ → ℕ
address_of [] place = 0x10000
address_of (area ∷ behind) place =
    cond (place_in_area place area) (area.first + (place - area.place)) (address_of behind place)

-- rule S86: the number of the record at an address of a record area; the first has 1
abbrev pub record_number : RecordArea → ℕ → ℕ
record_number records address = address + 1 - records.first

-- rule S45: a place is one of an item's
abbrev pub holds : Item → ℕ → Bool
holds item place = eqb item.place place || (is_pair item && eqb (item.place + 1) place)
