-- Both sides of every limit in the calls on a ring, as one table under one statement: a sheet, a ring, a call, and what is handed back and left; and
-- which words a record has by its number. What is expected is typed from W3's own words and rules T1 to T33; the comment behind a row says which limit
-- it is about. Assumes nothing.
use mathlib.Core.Path.{◌≡◌, refl}
use mathlib.Core.Bool.{Bool, true, ◌&&◌}
use mathlib.Core.List.{List, [], ◌∷◌, ◌++◌}
use Prim.Native.Nat.{ℕ}
use lib.Dec.{eqb}
use lib.ListN.{take}
use Rattle.words.specs.Words.{word_at, with_word, bytes_of}
use Rattle.words.specs.Changes.{Change, at, changed}
use Rattle.range.specs.Range.{in_range}
use Rattle.sheet_rules.specs.Rows.{areas, items, record_area}
use Rattle.sheet_rules.specs.Rules.{sound, header_sound, areas_sound, items_sound, settings_sound, records_sound, item_places, covered_places, places_follow, areas_ascend, lengths_sum}
use Rattle.lists.specs.Lists.{each, some, up_from, same_places}
use Rattle.lists.specs.Cases.{first_case}
use Rattle.refusals.specs.Answers.{answer_number}
use Rattle.bank_rules.specs.Stores.{stored}
use Rattle.ring_rules.specs.Ring.{ring_sound, record_of, add_stores}
use Rattle.ring_rules.specs.Calls.{RingOutcome, ring_fits, ring_answer, add_answer, add_outcome}

-- ---- the sheets

-- addresses 0000 to 0002, and an item for each; no record area
abbrev sheet_words : List ℕ
sheet_words =
    0x0001 ∷ 1 ∷ 12 ∷ 3 ∷ 16 ∷ 3 ∷ 13 ∷ 34 ∷ 0 ∷ 1 ∷ 0x0000 ∷ 0
    ∷ 0x0000 ∷ 0x0002 ∷ 0 ∷ 3
    ∷ 0 ∷ 0 ∷ 0x0000 ∷ 0x0001 ∷ 0x0000 ∷ 0x00F7
    ∷ 0 ∷ 1 ∷ 0x0000 ∷ 0x0000 ∷ 0x0000 ∷ 0x0001
    ∷ 1 ∷ 2 ∷ 0x0000 ∷ 0xFFF6 ∷ 0x0000 ∷ 0x003C
    ∷ []

abbrev without : List ℕ
without = bytes_of sheet_words

-- with records from 0400 on: so many, of so many words; some words changed by their numbers
abbrev changed_sheet : ℕ → ℕ → List Change → List ℕ
changed_sheet records words changes = bytes_of (changed 0 sheet_words (at 7 37 ∷ at 11 1 ∷ changes) ++ (0x0400 ∷ records ∷ words ∷ []))

abbrev sheet_of : ℕ → ℕ → List ℕ
sheet_of records words = changed_sheet records words []

-- three records of one word
abbrev three : List ℕ
three = sheet_of 3 1

-- it with version 3, and with two record areas
abbrev broken : List ℕ
broken = changed_sheet 3 1 (at 0 3 ∷ [])

-- it with all registers of access 2, in version 2 and in version 1
abbrev hidden : List ℕ
hidden = changed_sheet 3 1 (at 0 2 ∷ at 15 2 ∷ [])

abbrev hidden_early : List ℕ
hidden_early = changed_sheet 3 1 (at 15 2 ∷ [])

abbrev two_areas : List ℕ
two_areas = changed_sheet 3 1 (at 11 2 ∷ [])

-- ---- the rings

-- the place of the newest record, the number stored, and the records' words
abbrev ring : ℕ → ℕ → List ℕ → List ℕ
ring place count words = bytes_of (place ∷ count ∷ words)

-- a ring of three records of one word
abbrev held : List ℕ
held = 0xAAAA ∷ 0xBBBB ∷ 0xCCCC ∷ []

abbrev empty : List ℕ
empty = ring 0 0 held

abbrev full : List ℕ
full = ring 2 3 held

-- ---- the rows

-- a call: its sheet, its ring, the record's bytes, the number, and the ring afterwards; or the words of a record by its number
pub data Row : Type 0 where
  check : List ℕ → List ℕ → ℕ → Row
  add : List ℕ → List ℕ → List ℕ → ℕ → List ℕ → Row
  shows : List ℕ → List ℕ → ℕ → List ℕ → Row

abbrev leaves : RingOutcome → ℕ → List ℕ → Bool
leaves outcome number left = eqb (answer_number outcome.answer) number && same_places outcome.ring left

unfoldable pub right : Row → Bool
right (check sheet ring number) = eqb (answer_number (ring_answer sheet ring)) number
right (add sheet ring bytes number left) = leaves (add_outcome sheet ring bytes) number left
right (shows sheet ring number words) = same_places (record_of (record_area sheet) ring number) words

-- adding a record of two bytes to a ring of three: done, or refused with the ring as it was
abbrev adds : List ℕ → List ℕ → Row
adds before after = add three before (0x12 ∷ 0x34 ∷ []) 0 after

abbrev refuses : List ℕ → List ℕ → ℕ → Row
refuses before bytes number = add three before bytes number before

pub table : List Row
table =
    -- the size: two words, and three records of one word, 10 bytes
    check three empty 0
    ∷ check three (take 8 empty) 8  -- a word less
    ∷ check three (take 9 empty) 8  -- a byte less
    ∷ check three (empty ++ (0 ∷ [])) 8  -- a byte more
    ∷ check three (empty ++ (0 ∷ 0 ∷ [])) 8  -- a word more
    ∷ check three (take 4 empty) 8  -- no records
    ∷ check three [] 8  -- 0 bytes, and there is a record area
    ∷ check (sheet_of 2 2) (ring 0 0 (0 ∷ 0 ∷ 0 ∷ 0 ∷ [])) 0  -- two records of two words, 12 bytes
    ∷ check (sheet_of 2 2) (ring 0 0 (0 ∷ 0 ∷ 0 ∷ [])) 8
    ∷ check (sheet_of 2 2) (ring 0 0 (0 ∷ 0 ∷ 0 ∷ 0 ∷ 0 ∷ [])) 8
    ∷ check (sheet_of 6600 47) empty 8  -- the largest area
    ∷ check hidden empty 0  -- beside areas of access 2, in version 2
    ∷ check hidden_early empty 2  -- in version 1
    -- no record area: 0 bytes
    ∷ check without [] 0
    ∷ check without (0 ∷ []) 8
    ∷ check without (ring 0 0 []) 8
    ∷ check without empty 8
    -- the place of the newest record
    ∷ check three (ring 2 3 held) 0  -- the last one
    ∷ check three (ring 3 3 held) 8  -- none
    ∷ check three (ring 0x0100 3 held) 8
    ∷ check three (ring 0xFFFF 3 held) 8
    ∷ check (sheet_of 1 1) (ring 0 1 (7 ∷ [])) 0  -- the only one
    ∷ check (sheet_of 1 1) (ring 1 1 (7 ∷ [])) 8
    -- the number stored
    ∷ check three (ring 0 3 held) 0  -- as many as there are records
    ∷ check three (ring 0 4 held) 8  -- one above
    ∷ check three (ring 0 0x0100 held) 8
    ∷ check (sheet_of 1 1) (ring 0 2 (7 ∷ [])) 8
    -- an empty ring is at place 0, whatever the records' words are
    ∷ check three (ring 1 0 held) 8
    ∷ check three (ring 2 0 held) 8
    ∷ check (sheet_of 1 1) (ring 0 0 (7 ∷ [])) 0
    -- rings that adding never makes are taken
    ∷ check three (ring 2 1 held) 0
    ∷ check three (ring 0 2 held) 0
    ∷ check three (ring 1 3 held) 0
    -- a broken sheet is told before a bad ring
    ∷ check broken empty 2
    ∷ check broken [] 2
    ∷ check broken (ring 3 4 held) 2
    ∷ check two_areas empty 2
    ∷ check (sheet_of 0 1) (ring 0 0 []) 2  -- no records
    ∷ check (sheet_of 6601 1) [] 2  -- one more than there may be
    ∷ check (sheet_of 3 0) (ring 0 0 []) 2  -- no words
    ∷ check (sheet_of 3 48) [] 2  -- one more than there may be
    -- adding: to place 0 of an empty ring, else right behind the newest, and past the last place to 0 again, over the oldest
    ∷ adds empty (ring 0 1 (0x1234 ∷ 0xBBBB ∷ 0xCCCC ∷ []))
    ∷ add hidden empty (0x12 ∷ 0x34 ∷ []) 0 (ring 0 1 (0x1234 ∷ 0xBBBB ∷ 0xCCCC ∷ []))  -- beside areas of access 2, in version 2
    ∷ add hidden_early empty (0x12 ∷ 0x34 ∷ []) 2 empty  -- in version 1
    ∷ adds (ring 0 1 held) (ring 1 2 (0xAAAA ∷ 0x1234 ∷ 0xCCCC ∷ []))
    ∷ adds (ring 1 2 held) (ring 2 3 (0xAAAA ∷ 0xBBBB ∷ 0x1234 ∷ []))
    ∷ adds full (ring 0 3 (0x1234 ∷ 0xBBBB ∷ 0xCCCC ∷ []))
    ∷ adds (ring 0 3 held) (ring 1 3 (0xAAAA ∷ 0x1234 ∷ 0xCCCC ∷ []))
    ∷ adds (ring 1 3 held) (ring 2 3 (0xAAAA ∷ 0xBBBB ∷ 0x1234 ∷ []))
    -- a ring of one record, twice
    ∷ add (sheet_of 1 1) (ring 0 0 (7 ∷ [])) (0x12 ∷ 0x34 ∷ []) 0 (ring 0 1 (0x1234 ∷ []))
    ∷ add (sheet_of 1 1) (ring 0 1 (0x1234 ∷ [])) (0x56 ∷ 0x78 ∷ []) 0 (ring 0 1 (0x5678 ∷ []))
    -- rings that adding never makes
    ∷ adds (ring 2 1 held) (ring 0 2 (0x1234 ∷ 0xBBBB ∷ 0xCCCC ∷ []))
    ∷ adds (ring 1 1 held) (ring 2 2 (0xAAAA ∷ 0xBBBB ∷ 0x1234 ∷ []))
    ∷ adds (ring 0 2 held) (ring 1 3 (0xAAAA ∷ 0x1234 ∷ 0xCCCC ∷ []))
    -- two records of two words
    ∷ add (sheet_of 2 2) (ring 0 0 (1 ∷ 2 ∷ 3 ∷ 4 ∷ [])) (0x12 ∷ 0x34 ∷ 0x56 ∷ 0x78 ∷ []) 0 (ring 0 1 (0x1234 ∷ 0x5678 ∷ 3 ∷ 4 ∷ []))
    ∷ add (sheet_of 2 2) (ring 0 1 (1 ∷ 2 ∷ 3 ∷ 4 ∷ [])) (0x12 ∷ 0x34 ∷ 0x56 ∷ 0x78 ∷ []) 0 (ring 1 2 (1 ∷ 2 ∷ 0x1234 ∷ 0x5678 ∷ []))
    ∷ add (sheet_of 2 2) (ring 1 2 (1 ∷ 2 ∷ 3 ∷ 4 ∷ [])) (0x12 ∷ 0x34 ∷ 0x56 ∷ 0x78 ∷ []) 0 (ring 0 2 (0x1234 ∷ 0x5678 ∷ 3 ∷ 4 ∷ []))
    -- the record's length: 2 bytes for a word
    ∷ refuses empty [] 7
    ∷ refuses empty (0x12 ∷ []) 7
    ∷ refuses empty (0x12 ∷ 0x34 ∷ 0x56 ∷ []) 7
    ∷ refuses empty (0x12 ∷ 0x34 ∷ 0x56 ∷ 0x78 ∷ []) 7
    ∷ refuses full [] 7
    ∷ add (sheet_of 2 2) (ring 0 0 (1 ∷ 2 ∷ 3 ∷ 4 ∷ [])) (0x12 ∷ 0x34 ∷ []) 7 (ring 0 0 (1 ∷ 2 ∷ 3 ∷ 4 ∷ []))
    ∷ add (sheet_of 2 2) (ring 0 0 (1 ∷ 2 ∷ 3 ∷ 4 ∷ [])) (0x12 ∷ 0x34 ∷ 0x56 ∷ []) 7 (ring 0 0 (1 ∷ 2 ∷ 3 ∷ 4 ∷ []))
    -- told behind a bad ring
    ∷ refuses (take 8 empty) (0x12 ∷ 0x34 ∷ []) 8
    ∷ refuses [] (0x12 ∷ 0x34 ∷ []) 8
    ∷ refuses (ring 3 3 held) (0x12 ∷ 0x34 ∷ []) 8
    ∷ refuses (ring 0 4 held) (0x12 ∷ 0x34 ∷ []) 8
    ∷ refuses (ring 1 0 held) (0x12 ∷ 0x34 ∷ []) 8
    ∷ refuses (ring 1 0 held) [] 8
    -- which is told behind a sheet that is broken, or has no record area
    ∷ add without [] (0x12 ∷ 0x34 ∷ []) 2 []
    ∷ add without [] [] 2 []
    ∷ add without empty (0x12 ∷ 0x34 ∷ []) 2 empty
    ∷ add broken empty (0x12 ∷ 0x34 ∷ []) 2 empty
    ∷ add broken [] [] 2 []
    -- record 1 is the newest, and each next number is the one before it
    ∷ shows three full 1 (0xCCCC ∷ [])
    ∷ shows three full 2 (0xBBBB ∷ [])
    ∷ shows three full 3 (0xAAAA ∷ [])
    ∷ shows three (ring 0 3 held) 1 (0xAAAA ∷ [])
    ∷ shows three (ring 0 3 held) 2 (0xCCCC ∷ [])
    ∷ shows three (ring 0 3 held) 3 (0xBBBB ∷ [])
    ∷ shows three (ring 0 2 held) 2 (0xCCCC ∷ [])  -- also where adding never makes the ring
    ∷ shows (sheet_of 1 1) (ring 0 1 (7 ∷ [])) 1 (7 ∷ [])
    ∷ shows (sheet_of 2 2) (ring 0 2 (1 ∷ 2 ∷ 3 ∷ 4 ∷ [])) 1 (1 ∷ 2 ∷ [])
    ∷ shows (sheet_of 2 2) (ring 0 2 (1 ∷ 2 ∷ 3 ∷ 4 ∷ [])) 2 (3 ∷ 4 ∷ [])
    ∷ []

-- every row is right
pub ring_limits : each right table ≡ true
unfolding table right changed bytes_of ring_answer add_outcome add_answer add_stores ring_fits ring_sound record_area stored first_case sound header_sound areas_sound items_sound settings_sound records_sound each some up_from same_places item_places covered_places places_follow areas_ascend lengths_sum areas items word_at with_word in_range
ring_limits = refl
