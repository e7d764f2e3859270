-- The rules of a sheet, each a definition: of the header, the areas, the items, address and rate, and the record area. Each has its answer on any bytes,
-- whatever the others say. Assumes nothing.
use Rattle.std.specs.Prelude.{ℕ, ◌+◌, ◌-◌, ◌*◌, ◌/◌, ◌%◌, Bool, true, not, ◌&&◌, ◌||◌, cond, List, [], ◌∷◌, ◌++◌, leb, ltb, eqb, length}
use Rattle.range.specs.Range.{unsigned_word, unsigned_pair, not_above, in_range}
use Rattle.sheet_rules.specs.declared.Area.{Area}
use Rattle.sheet_rules.specs.declared.Item.{Item}
use Rattle.sheet_rules.specs.declared.RecordArea.{RecordArea}
use Rattle.lists.specs.Cases.{Case, when}
use Rattle.refusals.specs.declared.Refusal.{Refusal}
use Rattle.refusals.specs.declared.Refusal.TheVariants.{BrokenSheet}
use Rattle.refusals.specs.Answers.{answer_by, Answer}
use Rattle.sheet_rules.specs.Rows.{version, area_count, area_offset, item_count, item_offset, bank_words, functions, sheet_words, address_place, rate_place, clear_address, record_areas, area_rows, item_rows, sheet_end, areas, items, has_records, record_area}
use Rattle.lists.specs.Lists.{between, each, same_places, some, up_from}

-- ---- the header

-- rule S0: the version that knows read only, and read and write; and the one that knows write only besides
abbrev pub first_version : ℕ
first_version = 1

abbrev pub second_version : ℕ
second_version = 2

abbrev pub version_rule : List ℕ → Bool
version_rule sheet = between first_version second_version (version sheet)

-- rule S1
abbrev pub area_count_rule : List ℕ → Bool
area_count_rule sheet = between 1 8 (area_count sheet)

-- rule S2
abbrev pub area_offset_rule : List ℕ → Bool
area_offset_rule sheet = eqb (area_offset sheet) area_rows

-- rule S3
abbrev pub item_count_rule : List ℕ → Bool
item_count_rule sheet = between 2 64 (item_count sheet)

-- rule S4
abbrev pub item_offset_rule : List ℕ → Bool
item_offset_rule sheet = eqb (item_offset sheet) (item_rows sheet)

-- rule S5
abbrev pub bank_words_rule : List ℕ → Bool
bank_words_rule sheet = between 2 256 (bank_words sheet)

-- rule S6
abbrev pub functions_rule : List ℕ → Bool
functions_rule sheet = between 0 15 (functions sheet)

-- rule S7
abbrev pub sheet_words_rule : List ℕ → Bool
sheet_words_rule sheet = eqb (sheet_words sheet) (sheet_end sheet)

-- rule S11
abbrev pub record_areas_rule : List ℕ → Bool
record_areas_rule sheet = between 0 1 (record_areas sheet)

-- rule S12
abbrev pub byte_length_rule : List ℕ → Bool
byte_length_rule sheet = eqb (length sheet) (2 * sheet_words sheet)

unfoldable pub header_sound : List ℕ → Bool
header_sound sheet =
    version_rule sheet && area_count_rule sheet && area_offset_rule sheet && item_count_rule sheet && item_offset_rule sheet
    && bank_words_rule sheet && functions_rule sheet && sheet_words_rule sheet && record_areas_rule sheet && byte_length_rule sheet

-- ---- the functions allowed: rule S13
abbrev pub bit_of03 : ℕ
bit_of03 = 1

abbrev pub bit_of05 : ℕ
bit_of05 = 2

abbrev pub bit_of06 : ℕ
bit_of06 = 4

abbrev pub bit_of10 : ℕ
bit_of10 = 8

-- the function of a bit is among those allowed
abbrev pub allowed : List ℕ → ℕ → Bool
allowed sheet bit = eqb (functions sheet / bit % 2) 1

-- ---- the area rows

-- rule S21: the three sorts of access
abbrev pub read_only : ℕ
read_only = 1

abbrev pub write_only : ℕ
write_only = 2

abbrev pub read_and_write : ℕ
read_and_write = 3

abbrev pub access_rule : Area → Bool
access_rule area = eqb area.access read_only || eqb area.access write_only || eqb area.access read_and_write

-- rule S30: access 2 is in sheets of version 2 alone
abbrev pub write_only_rule : ℕ → Area → Bool
write_only_rule version area = not (eqb area.access write_only) || eqb version second_version

-- rule S21: the access of an area that may be read
abbrev pub readable : ℕ → Bool
readable access = eqb access read_only || eqb access read_and_write

-- rule S21: the access of an area that may be written
abbrev pub writable : ℕ → Bool
writable access = eqb access write_only || eqb access read_and_write

-- rule S47: the access of an area whose places are covered by items
abbrev pub covered_by_items : ℕ → Bool
covered_by_items access = eqb access write_only || eqb access read_and_write

-- rule S22
abbrev pub first_last_rule : Area → Bool
first_last_rule area = leb area.first area.last

-- rule S28: how many addresses, and so places, an area has; none where first is above last
abbrev pub length_of : Area → ℕ
length_of area = area.last + 1 - area.first

-- rule S23: each area ends in front of every one behind it
unfoldable pub areas_ascend : List Area → Bool
unfolding each
areas_ascend [] = true
areas_ascend (area ∷ behind) = each (λ later. ltb area.last later.first) behind && areas_ascend behind

-- rule S24, for areas with so many addresses in front of them
unfoldable pub places_follow : ℕ → List Area → Bool
places_follow before [] = true
places_follow before (area ∷ behind) = eqb area.place before && places_follow (before + length_of area) behind

unfoldable pub lengths_sum : List Area → ℕ
lengths_sum [] = 0
lengths_sum (area ∷ behind) = length_of area + lengths_sum behind

-- rule S25
abbrev pub lengths_sum_rule : List ℕ → Bool
lengths_sum_rule sheet = eqb (lengths_sum (areas sheet)) (bank_words sheet)

-- an address lies in an area
abbrev pub in_area : ℕ → Area → Bool
in_area address area = leb area.first address && leb address area.last

-- rules S26 and S27
abbrev pub clear_address_rule : List ℕ → Bool
clear_address_rule sheet =
    cond (allowed sheet bit_of05) (not (some (in_area (clear_address sheet)) (areas sheet))) (eqb (clear_address sheet) 0)

unfoldable pub areas_sound : List ℕ → Bool
areas_sound sheet =
    each access_rule (areas sheet) && each (write_only_rule (version sheet)) (areas sheet) && each first_last_rule (areas sheet)
    && areas_ascend (areas sheet) && places_follow 0 (areas sheet) && lengths_sum_rule sheet && clear_address_rule sheet

-- ---- the item rows

-- rule S41
abbrev pub kind_rule : Item → Bool
kind_rule item = between 0 2 item.kind

abbrev pub is_pair : Item → Bool
is_pair item = eqb item.kind unsigned_pair

-- rule S42
abbrev pub bounds_rule : Item → Bool
bounds_rule item = is_pair item || (eqb (item.low / 65536) 0 && eqb (item.high / 65536) 0)

-- rule S44
abbrev pub low_high_rule : Item → Bool
low_high_rule item = not_above item.kind item.low item.high

-- rule S45, the places of an item: its first place, and the next one for a pair
abbrev pub places_of : Item → List ℕ
places_of item = item.place ∷ cond (is_pair item) ((item.place + 1) ∷ []) []

unfoldable pub item_places : List Item → List ℕ
item_places [] = []
item_places (item ∷ behind) = places_of item ++ item_places behind

unfoldable pub covered_places : List Area → List ℕ
unfolding up_from
covered_places [] = []
covered_places (area ∷ behind) =
    cond (covered_by_items area.access) (up_from area.place (length_of area)) [] ++ covered_places behind

-- rules S46 and S47: the places of the items, row after row, are the places of the access 2 and access 3 areas, row after row
abbrev pub cover_rule : List ℕ → Bool
cover_rule sheet = same_places (item_places (items sheet)) (covered_places (areas sheet))

-- a place is one of an area's
abbrev pub place_in_area : ℕ → Area → Bool
place_in_area place area = leb area.place place && ltb place (area.place + length_of area)

-- a place and the next one lie within one area
abbrev pub pair_within : List Area → ℕ → Bool
pair_within all place = some (λ area. place_in_area place area && place_in_area (place + 1) area) all

-- rule S48
abbrev pub pair_rule : List Area → Item → Bool
pair_rule all item = not (is_pair item) || pair_within all item.place

unfoldable pub items_sound : List ℕ → Bool
items_sound sheet =
    each kind_rule (items sheet) && each bounds_rule (items sheet) && each low_high_rule (items sheet) && cover_rule sheet
    && each (pair_rule (areas sheet)) (items sheet)

-- ---- the address and the rate

-- rule S63: the stations that a meter may have
abbrev pub lowest_station : ℕ
lowest_station = 1

abbrev pub highest_station : ℕ
highest_station = 0xF7

-- rules S61 and S62: an item of kind 0 whose first place is a given one, and whose range has 1 in it
abbrev pub setting_at : ℕ → Item → Bool
setting_at place item =
    eqb item.kind unsigned_word && eqb item.place place && in_range item.kind item.low item.high 1

-- rule S63; with 1 in the range, the low bound is 1
abbrev pub address_item : ℕ → Item → Bool
address_item place item = setting_at place item && leb lowest_station item.low && leb item.high highest_station

-- rule S64
abbrev pub rate_item : ℕ → Item → Bool
rate_item place item = setting_at place item && eqb item.low 0 && eqb item.high 1

-- rules S60 to S64
unfoldable pub settings_sound : List ℕ → Bool
settings_sound sheet =
    not (eqb (address_place sheet) (rate_place sheet)) && some (address_item (address_place sheet)) (items sheet)
    && some (rate_item (rate_place sheet)) (items sheet)

-- ---- the record area

-- rule S81
abbrev pub record_count_rule : RecordArea → Bool
record_count_rule records = between 1 6600 records.records

-- rule S82
abbrev pub record_words_rule : RecordArea → Bool
record_words_rule records = between 1 47 records.words

-- rule S83: one past the last record's address
abbrev pub records_end : RecordArea → ℕ
records_end records = records.first + records.records

abbrev pub records_end_rule : RecordArea → Bool
records_end_rule records = leb (records_end records) 0x10000

-- rule S86: an address is a record's
abbrev pub in_records : ℕ → RecordArea → Bool
in_records address records = leb records.first address && ltb address (records_end records)

-- rule S84: an area ends in front of the first record's address, or begins behind the last one's
abbrev pub apart_rule : RecordArea → Area → Bool
apart_rule records area = ltb area.last records.first || leb (records_end records) area.first

-- rule S85
abbrev pub record_clear_rule : List ℕ → Bool
record_clear_rule sheet = not (allowed sheet bit_of05 && in_records (clear_address sheet) (record_area sheet))

-- rules S81 to S85, where there is a record area
unfoldable pub records_sound : List ℕ → Bool
records_sound sheet =
    not (has_records sheet)
    || (record_count_rule (record_area sheet) && record_words_rule (record_area sheet) && records_end_rule (record_area sheet)
    && each (apart_rule (record_area sheet)) (areas sheet) && record_clear_rule sheet)

-- ---- rule S70: a sheet that breaks no rule
unfoldable pub sound : List ℕ → Bool
sound sheet = header_sound sheet && areas_sound sheet && items_sound sheet && settings_sound sheet && records_sound sheet

-- rule N2
abbrev pub broken_sheet : List ℕ → Bool
broken_sheet sheet = not (sound sheet)

-- rules S71 and N51: what the check of a sheet refuses, and what it answers
abbrev pub sheet_refusals : List ℕ → List (Case Refusal)
sheet_refusals sheet = when (broken_sheet sheet) BrokenSheet ∷ []

abbrev pub sheet_answer : List ℕ → Answer
sheet_answer sheet = answer_by (sheet_refusals sheet)
