-- Both sides of every limit in the rules of the sheet, as one table under one statement: a sheet with some of its words changed, and whether
-- it is sound, typed from 01 and from 02's record area and write-only areas. A broken sheet has one fault alone where that can be; the comment behind a row says which side it is on.
-- Assumes nothing.
use mathlib.Core.Path.{◌≡◌, refl}
use mathlib.Core.Bool.{Bool, true, not}
use mathlib.Core.List.{List, [], ◌∷◌, ◌++◌}
use Prim.Native.Nat.{ℕ, zero, suc, ◌+◌, ◌-◌, ◌*◌}
use lib.ListN.{take}
use Rattle.words.specs.Words.{word_at, bytes_of}
use Rattle.words.specs.Changes.{Change, at, changed}
use Rattle.range.specs.Range.{in_range}
use Rattle.sheet_rules.specs.Rows.{areas, items, record_area}
use Rattle.sheet_rules.specs.Rules.{sound, header_sound, areas_sound, items_sound, settings_sound, records_sound, item_places, covered_places, places_follow, areas_ascend, lengths_sum}
use Rattle.lists.specs.Lists.{each, some, up_from, same_places}

-- ---- the sheet that is changed: three areas, six items, nine words of the bank, all functions, clear address 0040
abbrev base : List ℕ
base =
    0x0001 ∷ 3 ∷ 12 ∷ 6 ∷ 24 ∷ 9 ∷ 15 ∷ 60 ∷ 0 ∷ 1 ∷ 0x0040 ∷ 0x0000
    -- area 0 has places 0 to 4, area 1 places 5 and 6, area 2 places 7 and 8
    ∷ 0x0010 ∷ 0x0014 ∷ 0 ∷ 3
    ∷ 0x0020 ∷ 0x0021 ∷ 5 ∷ 3
    ∷ 0x0030 ∷ 0x0031 ∷ 7 ∷ 1
    -- item 0 is the address, item 1 the rate; item 2 a word, item 3 a pair, item 4 a signed word, item 5 a word
    ∷ 0 ∷ 0 ∷ 0x0000 ∷ 0x0001 ∷ 0x0000 ∷ 0x00F7
    ∷ 0 ∷ 1 ∷ 0x0000 ∷ 0x0000 ∷ 0x0000 ∷ 0x0001
    ∷ 0 ∷ 2 ∷ 0x0000 ∷ 0x0010 ∷ 0x0000 ∷ 0x0020
    ∷ 2 ∷ 3 ∷ 0x0001 ∷ 0x0002 ∷ 0x0003 ∷ 0x0004
    ∷ 1 ∷ 5 ∷ 0x0000 ∷ 0xFFF6 ∷ 0x0000 ∷ 0x003C
    ∷ 0 ∷ 6 ∷ 0x0000 ∷ 0x0000 ∷ 0x0000 ∷ 0x0000
    ∷ []

-- the words of its area rows, by the row
abbrev first : ℕ → ℕ
first row = 12 + 4 * row

abbrev last : ℕ → ℕ
last row = 12 + 4 * row + 1

abbrev area_place : ℕ → ℕ
area_place row = 12 + 4 * row + 2

abbrev access : ℕ → ℕ
access row = 12 + 4 * row + 3

-- the words of its item rows, by the row
abbrev kind : ℕ → ℕ
kind row = 24 + 6 * row

abbrev place : ℕ → ℕ
place row = 24 + 6 * row + 1

abbrev low_upper : ℕ → ℕ
low_upper row = 24 + 6 * row + 2

abbrev low : ℕ → ℕ
low row = 24 + 6 * row + 3

abbrev high_upper : ℕ → ℕ
high_upper row = 24 + 6 * row + 4

abbrev high : ℕ → ℕ
high row = 24 + 6 * row + 5

-- with one more item, a word at a place
abbrev another : ℕ → List ℕ
another place = changed 0 base (at 3 7 ∷ at 7 66 ∷ []) ++ (0 ∷ place ∷ 0x0000 ∷ 0x0000 ∷ 0x0000 ∷ 0x0001 ∷ [])

-- with a record area: its first address, how many records and how many words of each
abbrev recorded : ℕ → ℕ → ℕ → List ℕ
recorded from records words = changed 0 base (at 7 63 ∷ at 11 1 ∷ []) ++ (from ∷ records ∷ words ∷ [])

-- ---- sheets of many rows, where an address is its place: so many items, the first a word 1..1 and each other a word 0..1, in the first area;
-- behind it the other areas, read only and of one word each, but the last one goes on to the end of the bank's words
unfoldable pub built_items : ℕ → ℕ → List ℕ
built_items from zero = []
built_items from (suc more) = 0 ∷ from ∷ 0 ∷ 0 ∷ 0 ∷ 1 ∷ built_items (suc from) more

unfoldable pub built_behind : ℕ → ℕ → ℕ → List ℕ
built_behind from zero words = []
built_behind from (suc zero) words = from ∷ (words - 1) ∷ from ∷ 1 ∷ []
built_behind from (suc (suc more)) words = from ∷ from ∷ from ∷ 1 ∷ built_behind (suc from) (suc more) words

unfoldable pub built_areas : ℕ → ℕ → ℕ → List ℕ
unfolding built_behind
built_areas zero count words = []
built_areas (suc more) count words = 0 ∷ (count - 1) ∷ 0 ∷ 3 ∷ built_behind count more words

-- a sheet of so many areas, items and words of the bank
unfoldable pub built : ℕ → ℕ → ℕ → List ℕ
unfolding built_areas built_items
built many count words =
    1 ∷ many ∷ 12 ∷ count ∷ (12 + 4 * many) ∷ words ∷ 0 ∷ (12 + 4 * many + 6 * count) ∷ 0 ∷ 1 ∷ 0 ∷ 0
    ∷ built_areas many count words ++ (0 ∷ 0 ∷ 0 ∷ 1 ∷ 0 ∷ 1 ∷ built_items 1 (count - 1))

-- ---- the rows

-- a sheet, and whether it is sound: words, of which some are changed; or bytes
pub data Row : Type 0 where
  sound_with : List ℕ → List Change → Row
  broken_with : List ℕ → List Change → Row
  sound_bytes : List ℕ → Row
  broken_bytes : List ℕ → Row

unfoldable pub right : Row → Bool
right (sound_with words changes) = sound (bytes_of (changed 0 words changes))
right (broken_with words changes) = not (sound (bytes_of (changed 0 words changes)))
right (sound_bytes bytes) = sound bytes
right (broken_bytes bytes) = not (sound bytes)

pub table : List Row
table =
    -- word 0, the version
    broken_with base (at 0 0 ∷ [])  -- 0
    ∷ sound_with base []  -- 1
    ∷ sound_with base (at 0 2 ∷ [])  -- 2, without access 2
    ∷ broken_with base (at 0 3 ∷ [])  -- 3
    ∷ broken_with base (at 0 0x0101 ∷ [])  -- 0101
    ∷ broken_with base (at 0 0x0102 ∷ [])  -- 0102
    -- word 1, the number of areas
    ∷ broken_with (built 0 2 2) []  -- 0
    ∷ sound_with (built 1 2 2) []  -- 1
    ∷ sound_with (built 8 2 9) []  -- 8
    ∷ broken_with (built 9 2 10) []  -- 9
    -- word 2, the offset of the area rows
    ∷ broken_with base (at 2 11 ∷ [])  -- one less
    ∷ broken_with base (at 2 13 ∷ [])  -- one more
    -- word 3, the number of items; 2 stands above
    ∷ broken_with (built 1 1 1) []  -- 1, of one word
    ∷ broken_with (built 2 1 2) []  -- 1, of two words
    ∷ sound_with (built 8 64 256) []  -- 64, in the longest sheet without a record area, of 856 bytes
    ∷ broken_with (built 8 65 256) []  -- 65 in its place
    ∷ broken_with (built 9 64 256) []  -- it with 9 areas
    ∷ broken_with (built 8 64 257) []  -- it with 257 words
    ∷ broken_with (built 1 65 65) []  -- 65, in one area
    -- word 4, the offset of the item rows
    ∷ broken_with base (at 4 23 ∷ [])  -- one less
    ∷ broken_with base (at 4 25 ∷ [])  -- one more
    -- word 5, the number of bank words; 1 and 2 stand above
    ∷ sound_with (built 2 2 3) []  -- 3
    ∷ sound_with (built 2 2 256) []  -- 256
    ∷ broken_with (built 2 2 257) []  -- 257
    -- word 6, the sum of the functions; the base has 15
    ∷ sound_with base (at 6 0 ∷ at 10 0 ∷ [])  -- 0
    ∷ broken_with base (at 6 16 ∷ at 10 0 ∷ [])  -- 16
    ∷ broken_with base (at 6 18 ∷ [])  -- 16 and 2
    -- word 7, the length in words
    ∷ broken_with base (at 7 59 ∷ [])  -- one less
    ∷ broken_with base (at 7 61 ∷ [])  -- one more
    ∷ broken_bytes (take 118 (bytes_of (changed 0 base (at 7 59 ∷ []))))  -- one less, and a word less
    ∷ broken_bytes (bytes_of (changed 0 base (at 7 61 ∷ [])) ++ (0 ∷ 0 ∷ []))  -- one more, and a word more
    -- the length in bytes, twice word 7; what is cut off here was 0
    ∷ broken_bytes []  -- none
    ∷ broken_bytes (take 24 (bytes_of base))  -- the header alone
    ∷ broken_bytes (take 118 (bytes_of base))  -- two less
    ∷ broken_bytes (take 119 (bytes_of base))  -- one less
    ∷ sound_bytes (take 120 (bytes_of base ++ (0 ∷ [])))  -- as many
    ∷ broken_bytes (bytes_of base ++ (0 ∷ []))  -- one more
    ∷ broken_bytes (bytes_of base ++ (0 ∷ 0 ∷ []))  -- two more
    -- word 11, how many record areas; the base has none, and its three words are counted in word 7
    ∷ broken_with base (at 11 0x0001 ∷ [])  -- 1, without its words
    ∷ broken_with base (at 11 0x0001 ∷ at 7 63 ∷ [])  -- 1, its words counted and missing
    ∷ sound_with (recorded 0x0400 6600 22) []  -- 1, with them, of 004's shape
    ∷ broken_with (recorded 0x0400 6600 22) (at 7 62 ∷ [])  -- with word 7 one less
    ∷ broken_with (recorded 0x0400 6600 22) (at 7 64 ∷ [])  -- with word 7 one more
    ∷ broken_with (recorded 0x0400 6600 22) (at 7 60 ∷ [])  -- with its words not counted
    ∷ broken_bytes (take 124 (bytes_of (recorded 0x0400 6600 22)))  -- with its last word missing
    ∷ broken_bytes (bytes_of (recorded 0x0400 6600 22) ++ (0 ∷ 0 ∷ []))  -- with a word more
    ∷ broken_with (recorded 0x0400 6600 22) (at 11 0x0000 ∷ [])  -- 0, with its words
    ∷ broken_with base (at 11 0x0002 ∷ [])  -- 2
    ∷ broken_with (recorded 0x0400 6600 22) (at 11 0x0002 ∷ [])  -- 2, with the words of one
    ∷ broken_with (recorded 0x0400 1 1 ++ (0x0500 ∷ 1 ∷ 1 ∷ [])) (at 11 0x0002 ∷ at 7 66 ∷ [])  -- 2, with the words of two
    ∷ broken_with base (at 11 0x0100 ∷ [])  -- 0100
    ∷ broken_with (recorded 0x0400 6600 22) (at 11 0x0101 ∷ [])  -- 0101
    -- the longest sheet with a record area, of 862 bytes
    ∷ sound_with (built 8 64 256 ++ (0x0100 ∷ 6600 ∷ 47 ∷ [])) (at 7 431 ∷ at 11 1 ∷ [])
    -- how many records
    ∷ broken_with (recorded 0x0400 0 22) []  -- 0
    ∷ sound_with (recorded 0x0400 1 22) []  -- 1
    ∷ broken_with (recorded 0x0400 6601 22) []  -- 6601
    ∷ broken_with (recorded 0x0400 0xFFFF 22) []  -- FFFF
    -- how many words of each
    ∷ broken_with (recorded 0x0400 6600 0) []  -- 0
    ∷ sound_with (recorded 0x0400 6600 1) []  -- 1
    ∷ sound_with (recorded 0x0400 6600 47) []  -- 47
    ∷ broken_with (recorded 0x0400 6600 48) []  -- 48
    -- the record area ends by FFFF
    ∷ sound_with (recorded 0xFFFF 1 1) []  -- one, at FFFF
    ∷ broken_with (recorded 0xFFFF 2 1) []  -- two, from FFFF on
    ∷ sound_with (recorded 0xE638 6600 1) []  -- 6600, up to FFFF
    ∷ broken_with (recorded 0xE639 6600 1) []  -- one address further
    -- no address is its own and an area's: area 0 has 0010 to 0014, area 1 0020 and 0021, area 2, of access 1, 0030 and 0031
    ∷ sound_with (recorded 0x0000 16 1) []  -- in front of area 0, up to it
    ∷ broken_with (recorded 0x0000 17 1) []  -- one record more
    ∷ broken_with (recorded 0x0012 1 1) []  -- within it
    ∷ broken_with (recorded 0x0014 1 1) []  -- at its last address
    ∷ sound_with (recorded 0x0015 11 1) []  -- between areas 0 and 1, from the one to the other
    ∷ broken_with (recorded 0x0015 12 1) []  -- one record more
    ∷ broken_with (recorded 0x0014 12 1) []  -- one address in front
    ∷ sound_with (recorded 0x0022 14 1) []  -- between areas 1 and 2, from the one to the other
    ∷ broken_with (recorded 0x0022 15 1) []  -- one record more, into access 1
    ∷ broken_with (recorded 0x0031 1 1) []  -- at the last address of area 2
    ∷ sound_with (recorded 0x0032 1 1) []  -- behind it
    ∷ broken_with (recorded 0x000F 19 1) []  -- around areas 0 and 1
    ∷ sound_with (recorded 0x0400 6600 22) (at (first 2) 0xFFFE ∷ at (last 2) 0xFFFF ∷ [])  -- an area up to FFFF behind it
    ∷ sound_with (recorded 0xE636 6600 22) (at (first 2) 0xFFFE ∷ at (last 2) 0xFFFF ∷ [])  -- which it reaches
    ∷ broken_with (recorded 0xE637 6600 22) (at (first 2) 0xFFFE ∷ at (last 2) 0xFFFF ∷ [])  -- which it shares an address with
    -- nor with the clear address 0040, 05 allowed
    ∷ sound_with (recorded 0x0032 14 1) []  -- up to it
    ∷ broken_with (recorded 0x0032 15 1) []  -- with it
    ∷ broken_with (recorded 0x0040 1 1) []  -- at it
    ∷ sound_with (recorded 0x0041 1 1) []  -- behind it
    ∷ sound_with (recorded 0x0032 15 1) (at 6 13 ∷ at 10 0 ∷ [])  -- 0040 without 05
    ∷ sound_with (recorded 0x0000 1 1) (at 6 13 ∷ at 10 0 ∷ [])  -- 0000 without 05, where word 10 is 0
    ∷ broken_with (recorded 0x0000 1 1) (at 10 0 ∷ [])  -- 0000 with 05, where word 10 is 0
    -- access: area 2 has 1, the others have 3
    ∷ broken_with base (at (access 2) 0 ∷ [])  -- 0
    ∷ broken_with base (at (access 2) 4 ∷ [])  -- 4
    ∷ broken_with base (at (access 2) 0x0101 ∷ [])  -- 0101
    ∷ broken_with base (at 0 2 ∷ at (access 2) 0 ∷ [])  -- 0, in version 2
    ∷ broken_with base (at 0 2 ∷ at (access 2) 4 ∷ [])  -- 4, in version 2
    ∷ broken_with base (at 0 2 ∷ at (access 1) 0x0102 ∷ [])  -- 0102, in version 2
    -- access 2, in sheets of version 2 alone: areas 0 and 1 have items, and area 0 has the address and the rate
    ∷ broken_with base (at (access 1) 2 ∷ [])  -- area 1, in version 1
    ∷ sound_with base (at 0 2 ∷ at (access 1) 2 ∷ [])  -- in version 2
    ∷ broken_with base (at 0 3 ∷ at (access 1) 2 ∷ [])  -- in version 3
    ∷ broken_with base (at 0 0 ∷ at (access 1) 2 ∷ [])  -- in version 0
    ∷ broken_with base (at (access 0) 2 ∷ [])  -- area 0, in version 1
    ∷ sound_with base (at 0 2 ∷ at (access 0) 2 ∷ [])  -- in version 2
    ∷ sound_with base (at 0 2 ∷ at (access 0) 2 ∷ at (access 1) 2 ∷ [])  -- both
    ∷ broken_with base (at (access 0) 2 ∷ at (access 1) 2 ∷ [])  -- both, in version 1
    ∷ sound_with (recorded 0x0400 6600 22) (at 0 2 ∷ at (access 1) 2 ∷ [])  -- with a record area
    ∷ sound_with (recorded 0x0015 11 1) (at 0 2 ∷ at (access 1) 2 ∷ [])  -- which ends in front of area 1
    ∷ broken_with (recorded 0x0015 12 1) (at 0 2 ∷ at (access 1) 2 ∷ [])  -- which shares its first address
    ∷ sound_with (recorded 0x0022 1 1) (at 0 2 ∷ at (access 1) 2 ∷ [])  -- which begins behind it
    ∷ broken_with (recorded 0x0021 1 1) (at 0 2 ∷ at (access 1) 2 ∷ [])  -- which shares its last address
    ∷ broken_with (recorded 0x0400 6600 22) (at (access 1) 2 ∷ [])  -- with a record area, in version 1
    -- first address and last address
    ∷ sound_with base (at (first 2) 0x0031 ∷ at 5 8 ∷ [])  -- equal
    ∷ broken_with base (at (first 2) 0x0032 ∷ at 5 7 ∷ [])  -- first one above last: an area of no word
    -- areas ascend and share no address
    ∷ sound_with base (at (first 1) 0x0015 ∷ at (last 1) 0x0016 ∷ [])  -- areas 0 and 1 touch
    ∷ broken_with base (at (first 1) 0x0014 ∷ at (last 1) 0x0015 ∷ [])  -- they share 0014
    ∷ broken_with base (at (first 1) 0x000E ∷ at (last 1) 0x000F ∷ [])  -- they descend
    ∷ sound_with base (at (first 2) 0x0022 ∷ at (last 2) 0x0023 ∷ [])  -- areas 1 and 2 touch
    ∷ broken_with base (at (first 2) 0x0021 ∷ at (last 2) 0x0022 ∷ [])  -- they share 0021
    ∷ broken_with base (at (first 2) 0x0016 ∷ at (last 2) 0x0017 ∷ [])  -- they descend, area 2 lies between the others
    ∷ broken_with base (at (first 2) 0x0001 ∷ at (last 2) 0x0002 ∷ [])  -- they descend, area 2 lies in front of both
    ∷ sound_with base (at (first 0) 0x0000 ∷ at (last 0) 0x0004 ∷ at (first 2) 0xFFFE ∷ at (last 2) 0xFFFF ∷ [])  -- from 0000, to FFFF
    -- an area's first place
    ∷ broken_with base (at (area_place 2) 6 ∷ [])  -- of the last area, one less
    ∷ broken_with base (at (area_place 2) 8 ∷ [])  -- of the last area, one more
    ∷ broken_with (built 1 2 2) (at 8 1 ∷ at 9 2 ∷ at (area_place 0) 1 ∷ at 17 1 ∷ at 23 2 ∷ [])  -- of the first area 1, items and all
    -- the sum of the lengths
    ∷ broken_with base (at 5 8 ∷ [])  -- B one less
    ∷ broken_with base (at 5 10 ∷ [])  -- B one more
    ∷ broken_with base (at (first 2) 0x0022 ∷ at (last 2) 0xFFFF ∷ at 10 0 ∷ [])  -- an area of FFDE words
    ∷ broken_with base (at (first 2) 0x0022 ∷ at (last 2) 0xFFFF ∷ at 10 0 ∷ at 5 0xFFE5 ∷ [])  -- with their sum for B
    ∷ broken_with (built 1 2 2) (at (last 0) 0xFFFF ∷ [])  -- an area of all addresses
    ∷ broken_with (built 1 2 2) (at (last 0) 0xFFFF ∷ at 5 0 ∷ [])  -- with 0 for B
    -- the clear address, 05 allowed
    ∷ sound_with base (at 10 0x000F ∷ [])  -- in front of area 0
    ∷ broken_with base (at 10 0x0010 ∷ [])  -- its first address
    ∷ broken_with base (at 10 0x0014 ∷ [])  -- its last address
    ∷ sound_with base (at 10 0x0015 ∷ [])  -- behind it
    ∷ sound_with base (at 10 0x002F ∷ [])  -- in front of area 2, of access 1
    ∷ broken_with base (at 10 0x0030 ∷ [])  -- its first address
    ∷ broken_with base (at 10 0x0031 ∷ [])  -- its last address
    ∷ sound_with base (at 10 0x0032 ∷ [])  -- behind it
    ∷ sound_with base (at 0 2 ∷ at (access 1) 2 ∷ at 10 0x001F ∷ [])  -- in front of area 1, of access 2
    ∷ broken_with base (at 0 2 ∷ at (access 1) 2 ∷ at 10 0x0020 ∷ [])  -- its first address
    ∷ broken_with base (at 0 2 ∷ at (access 1) 2 ∷ at 10 0x0021 ∷ [])  -- its last address
    ∷ sound_with base (at 0 2 ∷ at (access 1) 2 ∷ at 10 0x0022 ∷ [])  -- behind it
    ∷ sound_with base (at 10 0x0000 ∷ [])  -- 0000, in no area
    ∷ sound_with base (at 10 0xFFFF ∷ [])  -- FFFF, in no area
    ∷ broken_with base (at (first 0) 0x0000 ∷ at (last 0) 0x0004 ∷ at 10 0 ∷ [])  -- 0000, in an area
    ∷ sound_with base (at 6 2 ∷ [])  -- 05 alone, in no area
    ∷ broken_with base (at 6 2 ∷ at 10 0x0010 ∷ [])  -- 05 alone, in an area
    -- word 10, 05 not allowed
    ∷ sound_with base (at 6 13 ∷ at 10 0 ∷ [])  -- 0
    ∷ broken_with base (at 6 13 ∷ at 10 1 ∷ [])  -- 1
    ∷ sound_with base (at (first 0) 0x0000 ∷ at (last 0) 0x0004 ∷ at 6 13 ∷ at 10 0 ∷ [])  -- 0, and 0000 lies in an area
    ∷ broken_with base (at 6 1 ∷ [])  -- 0040, 03 alone
    ∷ broken_with base (at 6 4 ∷ [])  -- 0040, 06 alone
    ∷ broken_with base (at 6 8 ∷ [])  -- 0040, 10 alone
    ∷ broken_with base (at 6 0 ∷ [])  -- 0040, none
    -- kind: item 2 has 0, item 3 has 2
    ∷ sound_with base (at (kind 2) 1 ∷ [])  -- 1
    ∷ broken_with base (at (kind 2) 3 ∷ [])  -- 3
    -- the first word of a bound, kind 0
    ∷ broken_with base (at (low_upper 2) 1 ∷ [])  -- of low
    ∷ sound_with base (at (low 2) 0 ∷ at (high 2) 0 ∷ [])  -- none
    ∷ broken_with base (at (low 2) 0 ∷ at (high 2) 0 ∷ at (high_upper 2) 1 ∷ [])  -- of high
    ∷ broken_with base (at (low_upper 2) 1 ∷ at (high_upper 2) 1 ∷ [])  -- of both
    -- the first word of a bound, kind 1
    ∷ sound_with base (at (low 4) 0 ∷ [])  -- none
    ∷ broken_with base (at (low 4) 0 ∷ at (low_upper 4) 1 ∷ [])  -- of low
    ∷ broken_with base (at (high_upper 4) 1 ∷ [])  -- of high
    ∷ broken_with base (at (low_upper 4) 0xFFFF ∷ [])  -- of low, its sign carried on
    -- low and high, kind 0
    ∷ sound_with base (at (low 2) 0x0020 ∷ [])  -- equal
    ∷ broken_with base (at (low 2) 0x0021 ∷ [])  -- low one above
    ∷ broken_with base (at (high 2) 0x000F ∷ [])  -- high one below
    ∷ sound_with base (at (low 2) 0x7FFF ∷ at (high 2) 0x8000 ∷ [])  -- without a sign
    ∷ broken_with base (at (low 2) 0x8000 ∷ at (high 2) 0x7FFF ∷ [])  -- without a sign
    ∷ sound_with base (at (low 2) 0x0000 ∷ at (high 2) 0xFFFF ∷ [])  -- all words
    -- low and high, kind 1
    ∷ sound_with base (at (low 4) 0x003C ∷ [])  -- equal
    ∷ broken_with base (at (low 4) 0x003D ∷ [])  -- low one above
    ∷ sound_with base (at (high 4) 0xFFF6 ∷ [])  -- equal
    ∷ broken_with base (at (high 4) 0xFFF5 ∷ [])  -- high one below
    ∷ sound_with base (at (low 4) 0x8000 ∷ at (high 4) 0x7FFF ∷ [])  -- all words, by the sign
    ∷ broken_with base (at (low 4) 0x7FFF ∷ at (high 4) 0x8000 ∷ [])  -- by the sign
    ∷ sound_with base (at (low 4) 0xFFFF ∷ at (high 4) 0x0000 ∷ [])  -- by the sign
    ∷ broken_with base (at (low 4) 0x0000 ∷ at (high 4) 0xFFFF ∷ [])  -- by the sign
    -- low and high, kind 2
    ∷ sound_with base (at (low_upper 3) 0x0003 ∷ at (low 3) 0x0004 ∷ [])  -- equal
    ∷ broken_with base (at (low_upper 3) 0x0003 ∷ at (low 3) 0x0005 ∷ [])  -- low one above
    ∷ broken_with base (at (high_upper 3) 0x0001 ∷ at (high 3) 0x0001 ∷ [])  -- high one below
    ∷ sound_with base (at (low_upper 3) 0x0002 ∷ at (low 3) 0xFFFF ∷ [])  -- by the upper word
    ∷ broken_with base (at (low_upper 3) 0x0004 ∷ at (low 3) 0x0000 ∷ [])  -- by the upper word
    ∷ sound_with base (at (low_upper 3) 0x7FFF ∷ at (low 3) 0xFFFF ∷ at (high_upper 3) 0x8000 ∷ at (high 3) 0x0000 ∷ [])  -- without a sign
    ∷ broken_with base (at (low_upper 3) 0x8000 ∷ at (low 3) 0x0000 ∷ at (high_upper 3) 0x7FFF ∷ at (high 3) 0xFFFF ∷ [])  -- without a sign
    ∷ sound_with base (at (low_upper 3) 0x0000 ∷ at (low 3) 0x0000 ∷ at (high_upper 3) 0xFFFF ∷ at (high 3) 0xFFFF ∷ [])  -- all 32 bits
    -- items ascend
    ∷ broken_with base (at (place 4) 6 ∷ at (place 5) 5 ∷ [])  -- the last two changed about
    ∷ broken_with base (at 0 2 ∷ at (access 1) 2 ∷ at (place 4) 6 ∷ at (place 5) 5 ∷ [])  -- within an area of access 2
    -- items cover each place of an access 3 area once
    ∷ broken_with (another 6) []  -- place 6 twice
    ∷ broken_with base (at (kind 2) 2 ∷ [])  -- place 3 twice, by two pairs
    ∷ broken_with base (at (place 2) 3 ∷ [])  -- place 2 left out, place 3 twice
    ∷ broken_with base (at (place 5) 5 ∷ [])  -- place 6 left out, place 5 twice
    ∷ broken_with base (at (kind 3) 0 ∷ at (low_upper 3) 0 ∷ at (high_upper 3) 0 ∷ [])  -- place 4 left out, by a word for the pair
    ∷ sound_with (another 7) (at (last 1) 0x0022 ∷ at (area_place 2) 8 ∷ at 5 10 ∷ [])  -- area 1 has a word more, and its item
    ∷ broken_with base (at (last 1) 0x0022 ∷ at (area_place 2) 8 ∷ at 5 10 ∷ [])  -- without its item
    ∷ broken_with base (at (access 2) 3 ∷ [])  -- area 2 with access 3, without items
    -- .. and each place of an access 2 area
    ∷ broken_with (another 6) (at 0 2 ∷ at (access 1) 2 ∷ [])  -- place 6 twice
    ∷ sound_with (another 7) (at 0 2 ∷ at (access 1) 2 ∷ at (last 1) 0x0022 ∷ at (area_place 2) 8 ∷ at 5 10 ∷ [])  -- area 1 has a word more, and its item
    ∷ broken_with base (at 0 2 ∷ at (access 1) 2 ∷ at (last 1) 0x0022 ∷ at (area_place 2) 8 ∷ at 5 10 ∷ [])  -- without its item
    ∷ broken_with base (at 0 2 ∷ at (access 2) 2 ∷ [])  -- area 2 with access 2, without items
    -- items cover no other place
    ∷ broken_with (another 7) []  -- a place of access 1
    ∷ broken_with (another 9) []  -- the mark's place
    ∷ broken_with base (at (access 1) 1 ∷ [])  -- area 1 with access 1, with items
    ∷ broken_with base (at 0 2 ∷ at (access 0) 2 ∷ at (access 1) 1 ∷ [])  -- the same beside an access 2 area
    -- a pair lies within one area; in the base places 3 and 4 are the last ones of area 0
    ∷ sound_with base (at (last 0) 0x0012 ∷ at (first 1) 0x001E ∷ at (area_place 1) 3 ∷ [])  -- the first ones of area 1
    ∷ broken_with base (at (last 0) 0x0013 ∷ at (first 1) 0x0014 ∷ at (last 1) 0x0016 ∷ at (area_place 1) 4 ∷ [])  -- one in each, which touch
    ∷ broken_with base (at (last 0) 0x0013 ∷ at (first 1) 0x001F ∷ at (area_place 1) 4 ∷ [])  -- one in each, with a gap
    ∷ sound_with base (at 0 2 ∷ at (access 1) 2 ∷ at (last 0) 0x0012 ∷ at (first 1) 0x001E ∷ at (area_place 1) 3 ∷ [])  -- within area 1 of access 2
    ∷ broken_with base (at 0 2 ∷ at (access 1) 2 ∷ at (last 0) 0x0013 ∷ at (first 1) 0x0014 ∷ at (last 1) 0x0016 ∷ at (area_place 1) 4 ∷ [])  -- one in each, of access 3 and 2, which touch
    ∷ broken_with base (at 0 2 ∷ at (access 0) 2 ∷ at (access 1) 2 ∷ at (last 0) 0x0013 ∷ at (first 1) 0x0014 ∷ at (last 1) 0x0016 ∷ at (area_place 1) 4 ∷ [])  -- both of access 2
    ∷ broken_with base (at 0 2 ∷ at (access 0) 2 ∷ at (last 0) 0x0013 ∷ at (first 1) 0x0014 ∷ at (last 1) 0x0016 ∷ at (area_place 1) 4 ∷ [])  -- of access 2 and 3, which touch
    ∷ broken_with base (at 0 2 ∷ at (access 1) 2 ∷ at (last 0) 0x0013 ∷ at (first 1) 0x001F ∷ at (area_place 1) 4 ∷ [])  -- of access 3 and 2, with a gap
    ∷ broken_with base (at 0 2 ∷ at (access 0) 2 ∷ at (access 1) 2 ∷ at (last 0) 0x0013 ∷ at (first 1) 0x001F ∷ at (area_place 1) 4 ∷ [])  -- both of access 2, with a gap
    -- address and rate at different places
    ∷ broken_with base (at 8 1 ∷ [])  -- both at the rate's
    ∷ broken_with base (at 9 0 ∷ at (low 0) 0 ∷ at (high 0) 1 ∷ [])  -- both at the address's
    ∷ sound_with base (at 8 1 ∷ at (low 1) 1 ∷ at 9 0 ∷ at (low 0) 0 ∷ at (high 0) 1 ∷ [])  -- each at the other's
    -- the address is an item of kind 0
    ∷ sound_with base (at 8 2 ∷ at (low 2) 1 ∷ [])  -- another one
    ∷ broken_with base (at 8 5 ∷ at (low 4) 1 ∷ [])  -- one of kind 1
    ∷ sound_with base (at 8 5 ∷ at (low 4) 1 ∷ at (kind 4) 0 ∷ [])  -- the same with kind 0
    ∷ broken_with base (at (kind 0) 1 ∷ [])  -- its own with kind 1
    ∷ broken_with base (at 8 3 ∷ at (low_upper 3) 0 ∷ at (low 3) 1 ∷ at (high_upper 3) 0 ∷ [])  -- the upper half of a pair
    ∷ broken_with base (at 8 4 ∷ at (low_upper 3) 0 ∷ at (low 3) 1 ∷ at (high_upper 3) 0 ∷ [])  -- the lower half of a pair
    ∷ broken_with base (at 8 7 ∷ [])  -- a place of access 1
    ∷ broken_with base (at 8 9 ∷ [])  -- the mark's place
    ∷ broken_with base (at 8 0xFFFF ∷ [])  -- no place
    -- the rate is an item of kind 0
    ∷ sound_with base (at 9 6 ∷ at (high 5) 1 ∷ [])  -- another one
    ∷ broken_with base (at 9 5 ∷ at (low 4) 0 ∷ at (high 4) 1 ∷ [])  -- one of kind 1
    ∷ broken_with base (at (kind 1) 1 ∷ [])  -- its own with kind 1
    ∷ broken_with base (at 9 3 ∷ at (low_upper 3) 0 ∷ at (low 3) 0 ∷ at (high_upper 3) 0 ∷ at (high 3) 1 ∷ [])  -- the upper half of a pair
    ∷ broken_with base (at 9 4 ∷ at (low_upper 3) 0 ∷ at (low 3) 0 ∷ at (high_upper 3) 0 ∷ at (high 3) 1 ∷ [])  -- the lower half of a pair
    ∷ broken_with base (at 9 7 ∷ [])  -- a place of access 1
    ∷ broken_with base (at 9 9 ∷ [])  -- the mark's place
    -- the address range is within 1 to F7 and holds 1; the base has 1..F7
    ∷ broken_with base (at (low 0) 0 ∷ [])  -- low 0
    ∷ sound_with base (at (low 0) 1 ∷ [])  -- low 1
    ∷ broken_with base (at (low 0) 2 ∷ [])  -- low 2, which does not hold 1
    ∷ broken_with base (at (high 0) 0 ∷ [])  -- high 0, below the low bound
    ∷ broken_with base (at (low 0) 0 ∷ at (high 0) 0 ∷ [])  -- high 0, with low 0
    ∷ sound_with base (at (high 0) 1 ∷ [])  -- high 1
    ∷ sound_with base (at (high 0) 0x00F6 ∷ [])  -- high F6
    ∷ sound_with base (at (high 0) 0x00F7 ∷ [])  -- high F7
    ∷ broken_with base (at (high 0) 0x00F8 ∷ [])  -- high F8
    ∷ broken_with base (at (high 0) 0x00FF ∷ [])  -- high FF
    ∷ broken_with base (at (high 0) 0x0100 ∷ [])  -- high 100
    ∷ broken_with base (at (low 0) 0 ∷ at (high 0) 0x00FF ∷ [])  -- 0..FF
    ∷ broken_with base (at (low 0) 0 ∷ at (high 0) 1 ∷ [])  -- 0..1
    -- the rate's range is 0 to 1
    ∷ broken_with base (at (high 1) 0 ∷ [])  -- 0..0
    ∷ broken_with base (at (high 1) 2 ∷ [])  -- 0..2
    ∷ broken_with base (at (low 1) 1 ∷ [])  -- 1..1
    ∷ []

-- every row is right
pub sheet_limits : each right table ≡ true
unfolding table right changed bytes_of built built_areas built_behind built_items sound header_sound areas_sound items_sound settings_sound records_sound record_area each some up_from same_places item_places covered_places places_follow areas_ascend lengths_sum areas items word_at in_range
sheet_limits = refl
