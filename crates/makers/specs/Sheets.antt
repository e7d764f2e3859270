-- What the sheet of a map reads as, its areas and items, and the bytes of that sheet, all computed from the map. Assumes nothing.
use Rattle.std.specs.Prelude.{ℕ, ◌+◌, ◌-◌, ◌*◌, ◌/◌, ◌%◌, cond, ◌&&◌, List, [], ◌∷◌, ◌++◌, eqb, length}
use Rattle.words.specs.Words.{bytes_of}
use Rattle.range.specs.Range.{unsigned_pair}
use Rattle.sheet_rules.specs.declared.Area.{Area}
use Rattle.sheet_rules.specs.declared.Item.{Item}
use Rattle.sheet_rules.specs.Rows.{area_rows}
use Rattle.sheet_rules.specs.Rules.{read_only, lengths_sum}
use Rattle.sheet_rules.specs.Lookup.{lies_in, place_in}
use Rattle.makers.specs.Maps.{Row, Map}

-- ---- areas: one for each unbroken run of addresses of one access, rule M1

-- an unbroken run of addresses of one access
pub record Run : Type 0 where
  pub first : ℕ
  pub last : ℕ
  pub access : ℕ

-- the last address of a row: a pair has two
abbrev pub last_of : Row → ℕ
last_of row = row.first + cond (eqb row.kind unsigned_pair) 1 0

-- a run in front of others: one run with the next one where no address lies between them and they have one access
abbrev pub in_front : Run → List Run → List Run
in_front run [] = run ∷ []
in_front run (next ∷ behind) =
    cond (eqb (run.last + 1) next.first && eqb run.access next.access)
    (record { first = run.first; last = next.last; access = run.access } ∷ behind) (run ∷ next ∷ behind)

unfoldable pub runs_of : List Row → List Run
runs_of [] = []
runs_of (row ∷ behind) =
    in_front (record { first = row.first; last = last_of row; access = row.access }) (runs_of behind)

-- the items' runs, and behind them the read-only one
unfoldable pub runs : Map → List Run
unfolding runs_of
runs map =
    runs_of map.rows
    ++ (record { first = map.read_only_first; last = map.read_only_last; access = read_only } ∷ [])

-- the runs as areas, each at the place that rule S24 gives it
unfoldable pub placed : ℕ → List Run → List Area
placed before [] = []
placed before (run ∷ behind) =
    record { first = run.first; last = run.last; place = before; access = run.access }
    ∷ placed (before + (run.last + 1 - run.first)) behind

unfoldable pub areas_of : Map → List Area
unfolding runs placed
areas_of map = placed 0 (runs map)

-- ---- items: each row at the place of its first address

unfoldable pub items_at : List Area → List Row → List Item
unfolding lies_in
items_at all [] = []
items_at all (row ∷ behind) =
    record { kind = row.kind; place = place_in (lies_in all row.first); low = row.low; high = row.high }
    ∷ items_at all behind

unfoldable pub items_of : Map → List Item
unfolding areas_of items_at
items_of map = items_at (areas_of map) map.rows

-- ---- the sheet, word by word (its numbers: rules M14, M25 and M27)

unfoldable pub header_words : Map → List ℕ
unfolding areas_of lies_in lengths_sum
header_words map =
    map.version
    ∷ length (areas_of map)
    ∷ area_rows
    ∷ length map.rows
    ∷ (area_rows + 4 * length (areas_of map))
    ∷ lengths_sum (areas_of map)
    ∷ map.functions
    ∷ (area_rows + 4 * length (areas_of map) + 6 * length map.rows)
    ∷ place_in (lies_in (areas_of map) map.address)
    ∷ place_in (lies_in (areas_of map) map.rate)
    ∷ map.clear_address
    ∷ 0
    ∷ []

unfoldable pub area_words : List Area → List ℕ
area_words [] = []
area_words (area ∷ behind) = area.first ∷ area.last ∷ area.place ∷ area.access ∷ area_words behind

unfoldable pub item_words : List Item → List ℕ
item_words [] = []
item_words (item ∷ behind) =
    item.kind
    ∷ item.place
    ∷ (item.low / 65536)
    ∷ (item.low % 65536)
    ∷ (item.high / 65536)
    ∷ (item.high % 65536)
    ∷ item_words behind

-- the bytes of the sheet of a map
unfoldable pub sheet_of : Map → List ℕ
unfolding header_words areas_of area_words items_of item_words bytes_of
sheet_of map = bytes_of (header_words map ++ (area_words (areas_of map) ++ item_words (items_of map)))
