-- What a run of addresses is for, whether each address of it is open to that, and how far the open addresses go: rules J60, J61 and J63.
-- Assumes nothing.
use Rattle.std.specs.Prelude.{ℕ, ◌+◌, Bool, false, cond, ◌&&◌, List, [], ◌∷◌, Option, None, Some}
use Rattle.lists.specs.Lists.{each}
use Rattle.sheet_rules.specs.declared.Area.{Area}
use Rattle.sheet_rules.specs.declared.Purpose.{Purpose}
use Rattle.sheet_rules.specs.declared.Purpose.TheVariants.{Read, Write}
use Rattle.sheet_rules.specs.declared.Run.{Run}
use Rattle.sheet_rules.specs.Rows.{areas}
use Rattle.sheet_rules.specs.Rules.{readable, writable, in_area}
use Rattle.sheet_rules.specs.Lookup.{lies_in, place_in}
use Rattle.sheet_rules.specs.declared.Lies.{Lies}

-- what an access permits: to read, or to write
abbrev pub permits : Purpose → ℕ → Bool
permits Read access = readable access
permits Write access = writable access

-- what lies at an address is open to the purpose; where no place of the bank lies, as at a record's address, nothing is open
abbrev pub opens : Purpose → Option Lies → Bool
opens purpose (Some lies) = permits purpose lies.access
opens purpose None = false

unfoldable pub all_open : Purpose → List ℕ → List ℕ → Bool
all_open purpose sheet addresses = each (λ address. opens purpose (lies_in (areas sheet) address)) addresses

-- an area that holds an address and permits the purpose carries it to one past its last address
abbrev pub carried : Purpose → Area → ℕ → ℕ
carried purpose area address = cond (in_area address area && permits purpose area.access) (area.last + 1) address

-- the first address from a start that is not open to the purpose, in areas that ascend
unfoldable pub reach : Purpose → List Area → ℕ → ℕ
reach purpose [] address = address
reach purpose (area ∷ behind) address = reach purpose behind (carried purpose area address)

-- the run of addresses that are open from a start on: where its places begin, and where it ends
abbrev pub run_from : Purpose → List ℕ → ℕ → Run
run_from purpose sheet start =
    record { place = place_in (lies_in (areas sheet) start); end = reach purpose (areas sheet) start }
