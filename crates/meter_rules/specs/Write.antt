-- A write, item by item: the places of a run, the item that a write stops at and its side, and what it stores (rules K1 to K7, K11, K12 and J71).
-- Assumes nothing.
use Rattle.std.specs.Prelude.{ℕ, ◌+◌, ◌-◌, Bool, not, cond, ◌&&◌, ◌||◌, List, [], ◌∷◌, map, leb, ltb, Option, None, Some}
use Rattle.range.specs.declared.Side.{Side}
use Rattle.range.specs.declared.Side.TheVariants.{InRange}
use Rattle.sheet_rules.specs.declared.Item.{Item}
use Rattle.sheet_rules.specs.Rows.{areas, items}
use Rattle.lists.specs.Lists.{some, up_from}
use Rattle.sheet_rules.specs.Rules.{is_pair}
use Rattle.sheet_rules.specs.Lookup.{lies_in, place_in}
use Rattle.bank_rules.specs.Stores.{Store, word_of}
use Rattle.bank_rules.specs.Bank.{side_by, good_by}
use Rattle.bank_rules.specs.Calls.{Lent}
use Rattle.frame.specs.Frame.{start, count, sent}
use Rattle.meter_rules.specs.declared.Stop.{Stop}

-- the place of the run's first address; the places of a run of addresses that all lie in areas follow each other from there
abbrev pub first_place : List ℕ → List ℕ → ℕ
first_place sheet frame = place_in (lies_in (areas sheet) (start frame))

-- rule K1, a place is in the run: one of so many from a first one on
abbrev pub in_run : ℕ → ℕ → ℕ → Bool
in_run first many place = leb first place && ltb place (first + many)

-- rules K2 and K3, the word that would be at a place: the word sent if the place is in the run, else the bank's
abbrev pub would_be : ℕ → ℕ → List ℕ → List ℕ → ℕ → ℕ
would_be first many bank frame place = cond (in_run first many place) (sent frame (place - first)) (word_of bank place)

-- rule K1: an item is touched if one of its places is in the run
abbrev pub touched : ℕ → ℕ → Item → Bool
touched first many item = in_run first many item.place || (is_pair item && in_run first many (item.place + 1))

-- rules K2 to K4: touched, and its value would be out of range; a pair is one value (rule K11)
unfoldable pub bad_item : ℕ → ℕ → List ℕ → List ℕ → Item → Bool
bad_item first many bank frame item = touched first many item && not (good_by (would_be first many bank frame) item)

-- rules K4 and J71: some item is bad
unfoldable pub some_bad : Lent → List ℕ → Bool
some_bad given frame = some (bad_item (first_place given.sheet frame) (count frame) given.bank frame) (items given.sheet)

-- a write stops at a place, with a side
abbrev pub stops_with : ℕ → Side → Option Stop
stops_with place side = Some (record { place = place; side = side })

-- rules K5 and K12, where a write stops: at the first place of the first bad item, with the side at which the value that it would have misses its
-- range; or that no item is bad
unfoldable pub stop_in : ℕ → ℕ → List ℕ → List ℕ → List Item → Option Stop
stop_in first many bank frame [] = None
stop_in first many bank frame (item ∷ behind) =
    cond (bad_item first many bank frame item) (stops_with item.place (side_by (would_be first many bank frame) item))
    (stop_in first many bank frame behind)

unfoldable pub stop_of : Lent → List ℕ → Option Stop
stop_of given frame = stop_in (first_place given.sheet frame) (count frame) given.bank frame (items given.sheet)

-- the place and the side of a stop. Where no item is bad nothing asks for them: they are 0 and in range
abbrev pub place_of_stop : Option Stop → ℕ
place_of_stop (Some stop) = stop.place
place_of_stop None = 0

abbrev pub side_of_stop : Option Stop → Side
side_of_stop (Some stop) = stop.side
side_of_stop None = InRange

unfoldable pub stop_place : Lent → List ℕ → ℕ
unfolding stop_of
stop_place given frame = place_of_stop (stop_of given frame)

unfoldable pub stop_side : Lent → List ℕ → Side
unfolding stop_of
stop_side given frame = side_of_stop (stop_of given frame)

-- the k-th word sent, at its place
abbrev pub run_store : List ℕ → ℕ → ℕ → Store
run_store frame first k = record { place = first + k; word = sent frame k }

-- rules K5 to K7, the words of a run, from its first place on, that stand in front of a place: its stop, or its end. None where the stop is in front of
-- the run, as where its first word is the lower half of a bad pair
unfoldable pub run_stores : List ℕ → ℕ → ℕ → List Store
run_stores frame first stop = map (run_store frame first) (up_from 0 (stop - first))
