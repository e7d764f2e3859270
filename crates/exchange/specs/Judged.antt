-- What a meter makes of an order, said of the order itself: which orders suit its records, where it stops them, and what it does (rules Q50 and Q51).
-- Only a bad item is said of the query's words, which are the order's (rule Q24). An order of no known kind has no frame: nothing depends on what is
-- said of one. Assumes nothing.
use Rattle.std.specs.Prelude.{ℕ, Bool, true, false, not, ◌&&◌, List, [], ◌∷◌, ltb, eqb}
use Rattle.lists.specs.Cases.{Case, when, first_case}
use Rattle.lists.specs.Lists.{up_from}
use Rattle.sheet_rules.specs.declared.Purpose.TheVariants as purpose
use Rattle.sheet_rules.specs.Rows.{areas, clear_address, record_area}
use Rattle.sheet_rules.specs.Rules.{in_records}
use Rattle.sheet_rules.specs.Lookup.{lies_in, place_in, record_number}
use Rattle.sheet_rules.specs.Runs.{all_open}
use Rattle.bank_rules.specs.Calls.{Lent}
use Rattle.ring_rules.specs.Ring.{stored_count, place_of, record_start}
use Rattle.meter_rules.specs.declared.Judged.{Judged}
use Rattle.meter_rules.specs.declared.Judged.TheVariants.{FunctionNotAllowed, WrongAddress, WrongValue, BadItem, GoodRead, GoodRecord, GoodClear, GoodWrite}
use Rattle.meter_rules.specs.Write.{first_place, some_bad, stop_place, stop_side}
use Rattle.meter_rules.specs.Steps.{code_allowed}
use Rattle.controller_rules.specs.declared.Order.{Order}
use Rattle.controller_rules.specs.declared.Order.TheVariants.{Read, Record, Write, Writes, Clear, Unknown}
use Rattle.controller_rules.specs.Order.{Asked, function_of, value_count}
use Rattle.controller_rules.specs.Query.{query}

-- rule Q50: a record order starts in the record area and gives its words, and no other read starts there
abbrev pub suits : List ℕ → Order → Bool
suits sheet (Read start count) = not (in_records start (record_area sheet))
suits sheet (Record address words) = in_records address (record_area sheet) && eqb words (record_area sheet).words
suits sheet (Write address value) = true
suits sheet (Writes start) = true
suits sheet (Clear address) = true
suits sheet Unknown = true

-- an order's addresses are not all open to it: to a read, to a write; a record that is not stored; a clear elsewhere
abbrev pub shut_to : Lent → Order → List ℕ → Bool
shut_to given (Read start count) values = not (all_open purpose.Read given.sheet (up_from start count))
shut_to given (Record address words) values = ltb (stored_count given.ring) (record_number (record_area given.sheet) address)
shut_to given (Write address value) values = not (all_open purpose.Write given.sheet (up_from address 1))
shut_to given (Writes start) values = not (all_open purpose.Write given.sheet (up_from start (value_count values)))
shut_to given (Clear address) values = not (eqb address (clear_address given.sheet))
shut_to given Unknown values = true

-- an order writes registers
abbrev pub writes_to : Order → Bool
writes_to (Read start count) = false
writes_to (Record address words) = false
writes_to (Write address value) = true
writes_to (Writes start) = true
writes_to (Clear address) = false
writes_to Unknown = false

-- the place of an address
abbrev pub place_at : List ℕ → ℕ → ℕ
place_at sheet address = place_in (lies_in (areas sheet) address)

-- what is done of an order that nothing stops
abbrev pub carried_out : Lent → Order → List ℕ → Judged
carried_out given (Read start count) values = GoodRead (place_at given.sheet start) count
carried_out given (Record address words) values =
    GoodRecord
    (record_start (record_area given.sheet)
    (place_of (record_area given.sheet) given.ring (record_number (record_area given.sheet) address)))
    words
carried_out given (Write address value) values = GoodWrite (place_at given.sheet address) 1
carried_out given (Writes start) values = GoodWrite (place_at given.sheet start) (value_count values)
carried_out given (Clear address) values = GoodClear
carried_out given Unknown values = WrongValue

-- rule Q51, where an order stops: a function that is not allowed, addresses that are not open, an item that would be out of its range. That the length,
-- the count or the value of a clear stopped it is not among these.
abbrev pub order_steps : Lent → Asked → List (Case Judged)
order_steps given asked =
    when (not (code_allowed given.sheet (function_of asked.order))) FunctionNotAllowed
    ∷ when (shut_to given asked.order asked.values) WrongAddress
    ∷ when (writes_to asked.order && some_bad given (query asked))
    (BadItem (first_place given.sheet (query asked)) (stop_place given (query asked)) (stop_side given (query asked)))
    ∷ []

unfoldable pub judged_as : Lent → Asked → Judged
judged_as given asked = first_case (order_steps given asked) (carried_out given asked.order asked.values)
