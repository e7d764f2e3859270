-- Rule M3: each maker's sheet breaks no rule and says exactly its map: its areas and items, the rows of the map by their addresses, and
-- the header's numbers. Assumes nothing.
use Prim.Native.Nat.{ℕ}
use mathlib.Core.Path.{◌≡◌, refl, ap}
use mathlib.Core.Bool.{Bool, true}
use mathlib.Core.List.{List, [], ◌∷◌}
use lib.ListN.{length}
use Rattle.std.specs.Prelude.{Option, None, Some}
use Rattle.range.specs.Range.{in_range}
use Rattle.words.specs.Words.{word_at}
use Rattle.sheet_rules.specs.declared.Area.{Area}
use Rattle.sheet_rules.specs.declared.Item.{Item}
use Rattle.sheet_rules.specs.Rows.{version, area_count, item_count, bank_words, functions, clear_address, address_place, rate_place, areas, items}
use Rattle.sheet_rules.specs.Rules.{sound, header_sound, areas_sound, items_sound, settings_sound, records_sound, item_places, covered_places, places_follow, areas_ascend, lengths_sum}
use Rattle.lists.specs.Lists.{each, some, up_from, same_places}
use Rattle.sheet_rules.specs.Lookup.{address_of, lies_in}
use Rattle.sheet_rules.specs.declared.Lies.{Lies}
use Rattle.makers.specs.Maps.{Row, Map, plain, pair, preset, ux, aswe, aswe40, bore50, bore80}
use Rattle.makers.specs.Sheets.{Run, runs_of, areas_of, items_of, item_words, sheet_of}

-- the meters that have a map
pub data Meter : Type 0 where
  ux15_25 aswe_40 aswe_50 aswe_80 : Meter

abbrev pub map_of : Meter → Map
map_of ux15_25 = ux
map_of aswe_40 = aswe40
map_of aswe_50 = aswe bore50
map_of aswe_80 = aswe bore80

-- a meter's numbers of areas, of items and of bank words: rules M14, M25 and M27
pub record Counts : Type 0 where
  pub areas : ℕ
  pub items : ℕ
  pub bank : ℕ

abbrev pub counts_of : Meter → Counts
counts_of ux15_25 = record { areas = 2; items = 18; bank = 34 }
counts_of aswe_40 = record { areas = 6; items = 27; bank = 45 }
counts_of aswe_50 = record { areas = 5; items = 22; bank = 38 }
counts_of aswe_80 = record { areas = 5; items = 22; bank = 38 }

-- the access of what lies somewhere; 0, which is none, where nothing does
abbrev pub access_in : Option Lies → ℕ
access_in (Some lies) = lies.access
access_in None = 0

-- an item as a row of a map: by the address of its place, with the access there
abbrev pub row_of : List Area → Item → Row
row_of all item =
    record {
      first = address_of all item.place;
      kind = item.kind;
      low = item.low;
      high = item.high;
      access = access_in (lies_in all (address_of all item.place));
    }

unfoldable pub rows_of : List Area → List Item → List Row
rows_of all [] = []
rows_of all (item ∷ behind) = row_of all item ∷ rows_of all behind

-- what a sheet says
pub record Said : Type 0 where
  pub sound : Bool
  pub version : ℕ
  pub counts : Counts
  pub areas : List Area
  pub items : List Item
  pub rows : List Row
  pub functions : ℕ
  pub clear_address : ℕ
  pub address : ℕ
  pub rate : ℕ

unfoldable pub said_by : List ℕ → Said
said_by sheet =
    record {
      sound = sound sheet;
      version = version sheet;
      counts = record { areas = area_count sheet; items = item_count sheet; bank = bank_words sheet };
      areas = areas sheet;
      items = items sheet;
      rows = rows_of (areas sheet) (items sheet);
      functions = functions sheet;
      clear_address = clear_address sheet;
      address = address_of (areas sheet) (address_place sheet);
      rate = address_of (areas sheet) (rate_place sheet);
    }

-- what the sheet of a map is to say
unfoldable pub meant : Map → Counts → Said
meant map counts =
    record {
      sound = true;
      version = map.version;
      counts = counts;
      areas = areas_of map;
      items = items_of map;
      rows = map.rows;
      functions = map.functions;
      clear_address = map.clear_address;
      address = map.address;
      rate = map.rate;
    }

pub says : (meter : Meter) → said_by (sheet_of (map_of meter)) ≡ meant (map_of meter) (counts_of meter)
unfolding said_by meant rows_of areas_of items_of sheet_of sound header_sound areas_sound items_sound settings_sound records_sound each some up_from same_places item_places covered_places places_follow areas_ascend lengths_sum areas items word_at in_range address_of lies_in
says ux15_25 = refl
says aswe_40 = refl
says aswe_50 = refl
says aswe_80 = refl

pub sheet_sound_lem : (meter : Meter) → sound (sheet_of (map_of meter)) ≡ true
unfolding said_by meant
sheet_sound_lem meter = ap (λ (said : Said). said.sound) (says meter)

-- the areas of each sheet, typed as the makers have their registers: rules M10 to M27
abbrev area : ℕ → ℕ → ℕ → ℕ → Area
area first last place access = record { first = first; last = last; place = place; access = access }

abbrev pub aswe_areas : List Area
aswe_areas = area 0x00FF 0x0109 0 3 ∷ area 0x010D 0x0113 11 3 ∷ area 0x0115 0x0116 18 3 ∷ area 0x0123 0x0124 20 3 ∷ area 0x01FF 0x020E 22 1 ∷ []

abbrev pub areas_printed : Meter → List Area
areas_printed ux15_25 = area 0x0100 0x0116 0 3 ∷ area 0x0200 0x020A 23 1 ∷ []
areas_printed aswe_40 =
    area 0x00FF 0x0109 0 3 ∷ area 0x010D 0x0113 11 3 ∷ area 0x0115 0x0116 18 3 ∷ area 0x0118 0x011E 20 2 ∷ area 0x0123 0x0124 27 3
    ∷ area 0x01FF 0x020E 29 1 ∷ []
areas_printed aswe_50 = aswe_areas
areas_printed aswe_80 = aswe_areas

pub areas_printed_lem : (meter : Meter) → areas (sheet_of (map_of meter)) ≡ areas_printed meter
unfolding areas_of items_of sheet_of areas word_at up_from
areas_printed_lem ux15_25 = refl
areas_printed_lem aswe_40 = refl
areas_printed_lem aswe_50 = refl
areas_printed_lem aswe_80 = refl

-- .. and the sum of the functions that each allows: all four, and all but 05; the clear address, and 0 where there is none
pub functions_printed : (functions (sheet_of ux) ∷ functions (sheet_of aswe40) ∷ functions (sheet_of (aswe bore50)) ∷ functions (sheet_of (aswe bore80)) ∷ [])
    ≡ 15 ∷ 13 ∷ 13 ∷ 13 ∷ []
unfolding sheet_of word_at
functions_printed = refl

pub clears_printed : (clear_address (sheet_of ux) ∷ clear_address (sheet_of aswe40) ∷ clear_address (sheet_of (aswe bore50)) ∷ clear_address (sheet_of (aswe bore80)) ∷ [])
    ≡ 0x0300 ∷ 0x0000 ∷ 0x0000 ∷ 0x0000 ∷ []
unfolding sheet_of word_at
clears_printed = refl

-- .. and the version of each, and how many bytes it has
pub versions_printed : (version (sheet_of ux) ∷ version (sheet_of aswe40) ∷ version (sheet_of (aswe bore50)) ∷ version (sheet_of (aswe bore80)) ∷ [])
    ≡ 1 ∷ 2 ∷ 1 ∷ 1 ∷ []
unfolding sheet_of word_at
versions_printed = refl

pub lengths_printed : (length (sheet_of ux) ∷ length (sheet_of aswe40) ∷ length (sheet_of (aswe bore50)) ∷ length (sheet_of (aswe bore80)) ∷ [])
    ≡ 256 ∷ 396 ∷ 328 ∷ 328 ∷ []
unfolding sheet_of
lengths_printed = refl

-- runs of addresses: cut where an address is left out, and where the access is another
abbrev run_from : ℕ → ℕ → ℕ → Run
run_from first last access = record { first = first; last = last; access = access }

pub runs_cut : runs_of (plain 0x10 0 1 ∷ pair 0x11 0 1 ∷ preset (plain 0x13 0 1) ∷ preset (plain 0x14 0 1) ∷ plain 0x15 0 1 ∷ plain 0x17 0 1 ∷ [])
    ≡ run_from 0x10 0x12 3 ∷ run_from 0x13 0x14 2 ∷ run_from 0x15 0x15 3 ∷ run_from 0x17 0x17 3 ∷ []
unfolding runs_of
runs_cut = refl

-- the words of an item's row, each bound upper word first: the makers' bounds are low, or the same in both words; these are not
abbrev bounded : ℕ → ℕ → Item
bounded low high = record { kind = 2; place = 7; low = low; high = high }

pub item_words_lem : item_words (bounded 0x00020001 0x0001FFFF ∷ bounded 0x0001FFFF 0x00020001 ∷ [])
    ≡ 2 ∷ 7 ∷ 0x0002 ∷ 0x0001 ∷ 0x0001 ∷ 0xFFFF
    ∷ 2 ∷ 7 ∷ 0x0001 ∷ 0xFFFF ∷ 0x0002 ∷ 0x0001 ∷ []
unfolding item_words
item_words_lem = refl
