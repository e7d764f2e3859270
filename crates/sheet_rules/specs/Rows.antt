-- The words of a sheet's header, its area and item rows, and its record area, read from the bytes. Total on any bytes: a word past the end is 0. Assumes
-- nothing.
use Rattle.std.specs.Prelude.{ℕ, ◌+◌, ◌*◌, Bool, cond, List, eqb}
use Rattle.words.specs.Words.{word_at}
use Rattle.sheet_rules.specs.declared.Area.{Area}
use Rattle.sheet_rules.specs.declared.Header.{Header}
use Rattle.sheet_rules.specs.declared.Item.{Item}
use Rattle.sheet_rules.specs.declared.RecordArea.{RecordArea}
use Rattle.lists.specs.Lists.{rows}

-- a word of the sheet, counted from 0: rule G7
abbrev pub word : List ℕ → ℕ → ℕ
word sheet n = word_at sheet (2 * n)

-- a number in two words, the upper one first: rule S40
abbrev pub two_words : List ℕ → ℕ → ℕ
two_words sheet n = word sheet n * 65536 + word sheet (n + 1)

-- rule S0: the version
abbrev pub version : List ℕ → ℕ
version sheet = word sheet 0

-- rule S1: A, how many areas there are
abbrev pub area_count : List ℕ → ℕ
area_count sheet = word sheet 1

-- rule S2: where the area rows begin
abbrev pub area_offset : List ℕ → ℕ
area_offset sheet = word sheet 2

-- rule S3: I, how many items there are
abbrev pub item_count : List ℕ → ℕ
item_count sheet = word sheet 3

-- rule S4: where the item rows begin
abbrev pub item_offset : List ℕ → ℕ
item_offset sheet = word sheet 4

-- rule S5: B, how many words a bank has without its mark
abbrev pub bank_words : List ℕ → ℕ
bank_words sheet = word sheet 5

-- rule S6: which functions are allowed
abbrev pub functions : List ℕ → ℕ
functions sheet = word sheet 6

-- rule S7: how many words the sheet has
abbrev pub sheet_words : List ℕ → ℕ
sheet_words sheet = word sheet 7

-- rule S8: the place of the meter's address
abbrev pub address_place : List ℕ → ℕ
address_place sheet = word sheet 8

-- rule S9: the place of the rate
abbrev pub rate_place : List ℕ → ℕ
rate_place sheet = word sheet 9

-- rule S10: the clear address
abbrev pub clear_address : List ℕ → ℕ
clear_address sheet = word sheet 10

-- rule S11: how many record areas there are
abbrev pub record_areas : List ℕ → ℕ
record_areas sheet = word sheet 11

-- the header as one value
abbrev pub header_of : List ℕ → Header
header_of sheet =
    record {
      version = version sheet;
      areas = area_count sheet;
      area_offset = area_offset sheet;
      items = item_count sheet;
      item_offset = item_offset sheet;
      bank = bank_words sheet;
      functions = functions sheet;
      words = sheet_words sheet;
      address = address_place sheet;
      rate = rate_place sheet;
      clear = clear_address sheet;
      record_areas = record_areas sheet;
    }

-- where rows are read, and where they end: rules S2, S4, S7 and S14
abbrev pub area_rows : ℕ
area_rows = 12

abbrev pub item_rows : List ℕ → ℕ
item_rows sheet = 12 + 4 * area_count sheet

abbrev pub rows_end : List ℕ → ℕ
rows_end sheet = 12 + 4 * area_count sheet + 6 * item_count sheet

-- rules S7 and S80: where the sheet ends, behind the item rows and the three words of a record area
abbrev pub sheet_end : List ℕ → ℕ
sheet_end sheet = rows_end sheet + 3 * record_areas sheet

-- rule S20: an area row
unfoldable pub area_at : List ℕ → ℕ → Area
area_at sheet k =
    record {
      first = word sheet (area_rows + 4 * k);
      last = word sheet (area_rows + 4 * k + 1);
      place = word sheet (area_rows + 4 * k + 2);
      access = word sheet (area_rows + 4 * k + 3);
    }

-- rule S40: an item row, from a word on
unfoldable pub item_from : List ℕ → ℕ → Item
item_from sheet n =
    record {
      kind = word sheet n;
      place = word sheet (n + 1);
      low = two_words sheet (n + 2);
      high = two_words sheet (n + 4);
    }

-- the word at which the item row at an index begins, behind so many area rows; and how many bytes there are up to its end
abbrev pub item_start : ℕ → ℕ → ℕ
item_start before k = area_rows + 4 * before + 6 * k

abbrev pub item_end : ℕ → ℕ → ℕ
item_end before k = 2 * item_start before k + 12

-- the item row at an index, behind so many area rows
abbrev pub item_row : List ℕ → ℕ → ℕ → Item
item_row sheet before k = item_from sheet (item_start before k)

-- rule S4: the item row at an index, behind all area rows
abbrev pub item_at : List ℕ → ℕ → Item
item_at sheet k = item_row sheet (area_count sheet) k

unfoldable pub areas : List ℕ → List Area
unfolding rows area_at
areas sheet = rows (area_at sheet) 0 (area_count sheet)

unfoldable pub items : List ℕ → List Item
unfolding rows item_from
items sheet = rows (item_at sheet) 0 (item_count sheet)

-- ---- the record area

-- rule S11: there is one
abbrev pub has_records : List ℕ → Bool
has_records sheet = eqb (record_areas sheet) 1

-- rule S80: a record row, three words from a word on; the sheet's stands behind the item rows
abbrev pub record_from : List ℕ → ℕ → RecordArea
record_from sheet n = record { first = word sheet n; records = word sheet (n + 1); words = word sheet (n + 2) }

abbrev pub record_row : List ℕ → RecordArea
record_row sheet = record_from sheet (rows_end sheet)

-- an area without records
abbrev pub no_records : RecordArea
no_records = record { first = 0; records = 0; words = 0 }

-- rules S11 and S80: the record area of a sheet; one without records where the sheet has none
unfoldable pub record_area : List ℕ → RecordArea
record_area sheet = cond (has_records sheet) (record_row sheet) no_records
