-- Both sides of every limit in the calls on a bank, as one table under one statement: a sheet, a bank, a call, and what is handed back and left. What
-- is expected is typed from rules B1 to B42 and N2 to N7; the comment behind a row says which limit it is about. Assumes nothing.
use mathlib.Core.Path.{◌≡◌, refl}
use mathlib.Core.Bool.{Bool, true, ◌&&◌}
use mathlib.Core.List.{List, [], ◌∷◌, ◌++◌}
use Prim.Native.Nat.{ℕ}
use lib.Dec.{eqb}
use lib.ListN.{take, replicate}
use Rattle.words.specs.Words.{word_at, with_word, bytes_of}
use Rattle.words.specs.Changes.{Change, at, changed}
use Rattle.range.specs.Range.{in_range}
use Rattle.sheet_rules.specs.Rows.{areas, items, record_area}
use Rattle.sheet_rules.specs.Rules.{sound, header_sound, areas_sound, items_sound, settings_sound, records_sound, item_places, covered_places, places_follow, areas_ascend, lengths_sum}
use Rattle.sheet_rules.specs.Lookup.{lies_in}
use Rattle.lists.specs.Lists.{each, some, up_from, same_places}
use Rattle.lists.specs.Cases.{first_case}
use Rattle.refusals.specs.Answers.{answer_number}
use Rattle.bank_rules.specs.Stores.{stored}
use Rattle.bank_rules.specs.Bank.{bank_sound, good_by, low_stores, fresh_stores, post_stores, all_read_only}
use Rattle.bank_rules.specs.Calls.{BankOutcome, lent, check_answer, fresh_answer, post_answer, mark_answer, fresh_outcome, post_outcome, mark_outcome}

-- ---- the sheet and the bank that are changed

-- 0010 to 0013, 0014 and 0015, 0025: access 3; 0020 and 0021, 0022, 0024, FFFE and FFFF: access 1. 0010 to 0015 and 0020 to 0022 are neighbours,
-- 0023 is a gap, and 0024 and 0025 are neighbours of other access
abbrev sheet_words : List ℕ
sheet_words =
    0x0001 ∷ 7 ∷ 12 ∷ 6 ∷ 40 ∷ 13 ∷ 15 ∷ 76 ∷ 0 ∷ 1 ∷ 0x0300 ∷ 0x0000
    ∷ 0x0010 ∷ 0x0013 ∷ 0 ∷ 3
    ∷ 0x0014 ∷ 0x0015 ∷ 4 ∷ 3
    ∷ 0x0020 ∷ 0x0021 ∷ 6 ∷ 1
    ∷ 0x0022 ∷ 0x0022 ∷ 8 ∷ 1
    ∷ 0x0024 ∷ 0x0024 ∷ 9 ∷ 1
    ∷ 0x0025 ∷ 0x0025 ∷ 10 ∷ 3
    ∷ 0xFFFE ∷ 0xFFFF ∷ 11 ∷ 1
    -- the address, the rate, a signed word, a word, a pair, and a word behind the read only ones
    ∷ 0 ∷ 0 ∷ 0x0000 ∷ 0x0001 ∷ 0x0000 ∷ 0x00F7
    ∷ 0 ∷ 1 ∷ 0x0000 ∷ 0x0000 ∷ 0x0000 ∷ 0x0001
    ∷ 1 ∷ 2 ∷ 0x0000 ∷ 0xFFF6 ∷ 0x0000 ∷ 0x003C
    ∷ 0 ∷ 3 ∷ 0x0000 ∷ 0x0010 ∷ 0x0000 ∷ 0x0020
    ∷ 2 ∷ 4 ∷ 0x0001 ∷ 0x0002 ∷ 0x0003 ∷ 0x0004
    ∷ 0 ∷ 10 ∷ 0x0000 ∷ 0x0007 ∷ 0x0000 ∷ 0x0009
    ∷ []

abbrev words : List ℕ
words = 0x0005 ∷ 0x0000 ∷ 0x0000 ∷ 0x0018 ∷ 0x0002 ∷ 0x0000 ∷ 0x1111 ∷ 0x2222 ∷ 0x3333 ∷ 0x4444 ∷ 0x0008 ∷ 0x5555 ∷ 0x6666 ∷ 0x0001 ∷ []

abbrev sheet : List ℕ
sheet = bytes_of sheet_words

-- the bank, with some words changed by their places
abbrev bank : List Change → List ℕ
bank changes = bytes_of (changed 0 words changes)

-- of version 3; one whose address may be 0, and one whose address may be F8: neither is sound
abbrev broken : List ℕ
broken = bytes_of (changed 0 sheet_words (at 0 3 ∷ []))

abbrev from_zero : List ℕ
from_zero = bytes_of (changed 0 sheet_words (at 43 0 ∷ []))

abbrev to_f8 : List ℕ
to_f8 = bytes_of (changed 0 sheet_words (at 45 0x00F8 ∷ []))

-- with access 2 in place of 3: 0014 and 0015, and 0025; and the address's area too
abbrev presets : List Change
presets = at 19 2 ∷ at 35 2 ∷ []

abbrev with_presets : List ℕ
with_presets = bytes_of (changed 0 sheet_words (at 0 2 ∷ presets))

abbrev all_presets : List ℕ
all_presets = bytes_of (changed 0 sheet_words (at 0 2 ∷ at 15 2 ∷ presets))

-- and with the last area right behind 0025
abbrev beside_presets : List ℕ
beside_presets = bytes_of (changed 0 sheet_words (at 0 2 ∷ presets ++ (at 36 0x0026 ∷ at 37 0x0027 ∷ [])))

abbrev presets_in_version_one : List ℕ
presets_in_version_one = bytes_of (changed 0 sheet_words presets)

-- with one record of one word in the gap, at 0023
abbrev with_record : List ℕ
with_record = bytes_of (changed 0 sheet_words (at 7 79 ∷ at 11 1 ∷ []) ++ (0x0023 ∷ 1 ∷ 1 ∷ []))

-- a sheet whose first place is read only, and whose pair and word are at the highest values
abbrev highest : List ℕ
highest =
    bytes_of
    (0x0001 ∷ 2 ∷ 12 ∷ 4 ∷ 20 ∷ 6 ∷ 15 ∷ 44 ∷ 1 ∷ 2 ∷ 0x0300 ∷ 0x0000
    ∷ 0x0005 ∷ 0x0005 ∷ 0 ∷ 1
    ∷ 0x0010 ∷ 0x0014 ∷ 1 ∷ 3
    ∷ 0 ∷ 1 ∷ 0x0000 ∷ 0x0001 ∷ 0x0000 ∷ 0x00F7
    ∷ 0 ∷ 2 ∷ 0x0000 ∷ 0x0000 ∷ 0x0000 ∷ 0x0001
    ∷ 2 ∷ 3 ∷ 0xFFFF ∷ 0xFFFE ∷ 0xFFFF ∷ 0xFFFF
    ∷ 0 ∷ 5 ∷ 0x0000 ∷ 0xFFFF ∷ 0x0000 ∷ 0xFFFF
    ∷ [])

-- a bank whose mark is 2
abbrev unsound : List ℕ
unsound = bank (at 13 2 ∷ [])

-- what a fresh bank holds
abbrev fresh_words : List ℕ
fresh_words = 0x0001 ∷ 0x0001 ∷ 0xFFF6 ∷ 0x0010 ∷ 0x0001 ∷ 0x0002 ∷ 0 ∷ 0 ∷ 0 ∷ 0 ∷ 0x0007 ∷ 0 ∷ 0 ∷ 0 ∷ []

-- ---- the rows

-- a call: its sheet, its bank, what else it is given, the number, and the bank afterwards
pub data Row : Type 0 where
  check : List ℕ → List ℕ → ℕ → Row
  fresh : List ℕ → List ℕ → ℕ → List ℕ → Row
  post : List ℕ → List ℕ → ℕ → List ℕ → ℕ → List ℕ → Row
  set_mark : List ℕ → List ℕ → ℕ → ℕ → List ℕ → Row

abbrev leaves : BankOutcome → ℕ → List ℕ → Bool
leaves outcome number left = eqb (answer_number outcome.answer) number && same_places outcome.bank left

unfoldable pub right : Row → Bool
right (check sheet bank number) = eqb (answer_number (check_answer (lent sheet bank))) number
right (fresh sheet bank number left) = leaves (fresh_outcome (lent sheet bank)) number left
right (post sheet bank address bytes number left) = leaves (post_outcome (lent sheet bank) address bytes) number left
right (set_mark sheet bank mark number left) = leaves (mark_outcome (lent sheet bank) mark) number left

-- a bank that is sound, or is not, with some words changed
abbrev whole : List Change → Row
whole changes = check sheet (bank changes) 0

abbrev bad : List Change → Row
bad changes = check sheet (bank changes) 4

-- posting to the bank as it is: refused, or done with some words changed
abbrev refuses : ℕ → List ℕ → ℕ → Row
refuses address bytes number = post sheet (bank []) address bytes number (bank [])

abbrev posts : ℕ → List ℕ → List Change → Row
posts address bytes changes = post sheet (bank []) address bytes 0 (bank changes)

pub table : List Row
table =
    -- the size: 2B + 2 bytes
    whole []
    ∷ check broken (bank []) 2  -- a sheet of version 3
    ∷ check broken [] 2  -- and a bank of no bytes: the sheet comes first
    ∷ check sheet (take 27 (bank [])) 3  -- a byte less
    ∷ check sheet (bank [] ++ (0 ∷ [])) 3  -- a byte more
    ∷ check sheet (take 26 (bank [])) 3  -- no mark
    ∷ check sheet (bank [] ++ (0 ∷ 0 ∷ [])) 3  -- a word more
    ∷ check sheet [] 3
    ∷ check sheet (take 27 unsound) 3  -- the size comes before the items
    -- each item within its range
    ∷ whole (at 0 0x0001 ∷ [])  -- the address, 1..F7
    ∷ bad (at 0 0x0000 ∷ [])
    ∷ whole (at 0 0x00F7 ∷ [])
    ∷ bad (at 0 0x00F8 ∷ [])
    ∷ bad (at 0 0x00FF ∷ [])
    ∷ check from_zero (bank []) 2
    ∷ check from_zero (bank (at 0 0x0000 ∷ [])) 2
    ∷ check to_f8 (bank []) 2
    ∷ check to_f8 (bank (at 0 0x00F8 ∷ [])) 2
    ∷ whole (at 1 0x0001 ∷ [])  -- the rate, 0..1
    ∷ bad (at 1 0x0002 ∷ [])
    ∷ whole (at 2 0xFFF6 ∷ [])  -- the signed word, -10..60
    ∷ bad (at 2 0xFFF5 ∷ [])
    ∷ whole (at 2 0x003C ∷ [])
    ∷ bad (at 2 0x003D ∷ [])
    ∷ bad (at 2 0x8000 ∷ [])
    ∷ whole (at 3 0x0010 ∷ [])  -- the word, 10..20
    ∷ bad (at 3 0x000F ∷ [])
    ∷ whole (at 3 0x0020 ∷ [])
    ∷ bad (at 3 0x0021 ∷ [])
    ∷ whole (at 4 0x0001 ∷ at 5 0x0002 ∷ [])  -- the pair, 00010002..00030004
    ∷ bad (at 4 0x0001 ∷ at 5 0x0001 ∷ [])
    ∷ whole (at 4 0x0003 ∷ at 5 0x0004 ∷ [])
    ∷ bad (at 4 0x0003 ∷ at 5 0x0005 ∷ [])
    ∷ whole (at 4 0x0002 ∷ at 5 0xFFFF ∷ [])
    ∷ bad (at 4 0x0000 ∷ at 5 0xFFFF ∷ [])
    ∷ whole (at 10 0x0007 ∷ [])  -- the last item, 7..9
    ∷ bad (at 10 0x0006 ∷ [])
    ∷ bad (at 10 0x000A ∷ [])
    ∷ whole (at 6 0xFFFF ∷ at 7 0xFFFF ∷ at 8 0xFFFF ∷ at 9 0xFFFF ∷ at 11 0xFFFF ∷ at 12 0xFFFF ∷ [])  -- read only words are free
    -- access 2: each item within its range
    ∷ check with_presets (bank []) 0
    ∷ check presets_in_version_one (bank []) 2
    ∷ check with_presets (bank (at 4 0x0001 ∷ at 5 0x0002 ∷ [])) 0  -- the pair
    ∷ check with_presets (bank (at 4 0x0001 ∷ at 5 0x0001 ∷ [])) 4
    ∷ check with_presets (bank (at 4 0x0003 ∷ at 5 0x0004 ∷ [])) 0
    ∷ check with_presets (bank (at 4 0x0003 ∷ at 5 0x0005 ∷ [])) 4
    ∷ check with_presets (bank (at 10 0x0007 ∷ [])) 0  -- the last item
    ∷ check with_presets (bank (at 10 0x0006 ∷ [])) 4
    ∷ check with_presets (bank (at 10 0x000A ∷ [])) 4
    ∷ check all_presets (bank (at 0 0x00F7 ∷ [])) 0  -- the address
    ∷ check all_presets (bank (at 0 0x00F8 ∷ [])) 4
    -- the mark is 0 or 1
    ∷ whole (at 13 0 ∷ [])
    ∷ bad (at 13 2 ∷ [])
    ∷ bad (at 13 0x0100 ∷ [])
    -- a fresh bank, whatever the bank was
    ∷ fresh sheet (replicate 28 0xFF) 0 (bytes_of fresh_words)
    ∷ fresh sheet unsound 0 (bytes_of fresh_words)
    ∷ fresh from_zero (bank []) 2 (bank [])  -- an address from 0 on
    ∷ fresh to_f8 (bank []) 2 (bank [])  -- an address up to F8
    ∷ fresh highest (replicate 14 0xFF) 0 (bytes_of (0x0000 ∷ 0x0001 ∷ 0x0001 ∷ 0xFFFF ∷ 0xFFFE ∷ 0xFFFF ∷ 0x0000 ∷ []))
    ∷ fresh with_presets (replicate 28 0xFF) 0 (bytes_of fresh_words)  -- with access 2
    ∷ fresh all_presets (replicate 28 0xFF) 0 (bytes_of fresh_words)
    ∷ fresh presets_in_version_one (bank []) 2 (bank [])
    ∷ fresh broken (bank []) 2 (bank [])
    ∷ fresh broken [] 2 []
    ∷ fresh sheet (take 27 (bank [])) 3 (take 27 (bank []))
    ∷ fresh sheet (bank [] ++ (0 ∷ [])) 3 (bank [] ++ (0 ∷ []))
    -- posting: each word at its address, its upper byte first
    ∷ posts 0x0020 (0x12 ∷ 0x34 ∷ []) (at 6 0x1234 ∷ [])
    ∷ posts 0x0021 (0x12 ∷ 0x34 ∷ []) (at 7 0x1234 ∷ [])
    ∷ posts 0x0020 (0x12 ∷ 0x34 ∷ 0x56 ∷ 0x78 ∷ 0x9A ∷ 0xBC ∷ []) (at 6 0x1234 ∷ at 7 0x5678 ∷ at 8 0x9ABC ∷ [])  -- over two areas
    ∷ refuses 0x0020 (1 ∷ 2 ∷ 3 ∷ 4 ∷ 5 ∷ 6 ∷ 7 ∷ 8 ∷ []) 6  -- into the gap
    ∷ posts 0x0022 (0x12 ∷ 0x34 ∷ []) (at 8 0x1234 ∷ [])
    ∷ refuses 0x0023 (1 ∷ 2 ∷ []) 6  -- the gap
    ∷ refuses 0x0023 (1 ∷ 2 ∷ 3 ∷ 4 ∷ []) 6  -- from the gap on
    ∷ posts 0x0024 (0x12 ∷ 0x34 ∷ []) (at 9 0x1234 ∷ [])
    ∷ refuses 0x0024 (1 ∷ 2 ∷ 3 ∷ 4 ∷ []) 6  -- into access 3
    ∷ refuses 0x0025 (1 ∷ 2 ∷ []) 6  -- access 3
    ∷ refuses 0x0010 (0 ∷ 5 ∷ []) 6  -- the address's own, with its own value
    ∷ refuses 0x001F (1 ∷ 2 ∷ []) 6  -- in front of an area
    ∷ posts 0xFFFE (0x12 ∷ 0x34 ∷ 0x56 ∷ 0x78 ∷ []) (at 11 0x1234 ∷ at 12 0x5678 ∷ [])  -- up to FFFF
    ∷ refuses 0xFFFF (1 ∷ 2 ∷ 3 ∷ 4 ∷ []) 6  -- past FFFF
    ∷ refuses 0x10000 (1 ∷ 2 ∷ []) 6
    ∷ refuses 0x10020 (1 ∷ 2 ∷ []) 6  -- an address is not cut to sixteen bits
    ∷ post with_presets (bank []) 0x0014 (0 ∷ 2 ∷ []) 6 (bank [])  -- access 2, with its own value
    ∷ post with_presets (bank []) 0x0025 (0 ∷ 8 ∷ []) 6 (bank [])
    ∷ post with_presets (bank []) 0x0024 (1 ∷ 2 ∷ 3 ∷ 4 ∷ []) 6 (bank [])  -- into access 2
    ∷ post with_presets (bank []) 0x0024 (0x12 ∷ 0x34 ∷ []) 0 (bank (at 9 0x1234 ∷ []))  -- up to it
    ∷ post with_presets (bank []) 0x0010 (0 ∷ 5 ∷ []) 6 (bank [])  -- access 3 beside it
    ∷ post presets_in_version_one (bank []) 0x0024 (0x12 ∷ 0x34 ∷ []) 2 (bank [])
    ∷ post with_presets (bank (at 10 0x000A ∷ [])) 0x0020 (1 ∷ 2 ∷ []) 4 (bank (at 10 0x000A ∷ []))  -- with a preset out of its range
    ∷ post beside_presets (bank []) 0x0025 (1 ∷ 2 ∷ 3 ∷ 4 ∷ []) 6 (bank [])  -- from access 2 on into access 1
    ∷ post beside_presets (bank []) 0x0026 (0x12 ∷ 0x34 ∷ []) 0 (bank (at 11 0x1234 ∷ []))  -- behind it
    ∷ check with_record (bank []) 0  -- with a record in the gap
    ∷ post with_record (bank []) 0x0023 (1 ∷ 2 ∷ []) 6 (bank [])  -- at the record
    ∷ post with_record (bank []) 0x0022 (1 ∷ 2 ∷ 3 ∷ 4 ∷ []) 6 (bank [])  -- into it
    ∷ post with_record (bank []) 0x0022 (0x12 ∷ 0x34 ∷ []) 0 (bank (at 8 0x1234 ∷ []))  -- up to it
    ∷ post with_record (bank []) 0x0024 (0x12 ∷ 0x34 ∷ []) 0 (bank (at 9 0x1234 ∷ []))  -- behind it
    -- an even number of bytes, and not none; told before a bad address
    ∷ refuses 0x0020 [] 7
    ∷ refuses 0x0020 (1 ∷ []) 7
    ∷ refuses 0x0020 (1 ∷ 2 ∷ 3 ∷ []) 7
    ∷ refuses 0x0023 [] 7
    ∷ refuses 0x0023 (1 ∷ 2 ∷ 3 ∷ []) 7
    -- and behind the sheet, the size and the items
    ∷ post broken (bank []) 0x0020 (1 ∷ []) 2 (bank [])
    ∷ post sheet (take 27 (bank [])) 0x0020 (1 ∷ []) 3 (take 27 (bank []))
    ∷ post sheet unsound 0x0020 (1 ∷ []) 4 unsound
    ∷ post sheet unsound 0x0023 (1 ∷ 2 ∷ []) 4 unsound
    ∷ post sheet unsound 0x0020 (1 ∷ 2 ∷ []) 4 unsound
    -- the mark: 0 or 1
    ∷ set_mark sheet (bank []) 0 0 (bank (at 13 0 ∷ []))
    ∷ set_mark sheet (bank (at 13 0 ∷ [])) 1 0 (bank [])
    ∷ set_mark sheet (bank []) 1 0 (bank [])
    ∷ set_mark sheet (bank []) 2 7 (bank [])
    ∷ set_mark with_presets (bank []) 0 0 (bank (at 13 0 ∷ []))
    ∷ set_mark with_presets (bank (at 10 0x000A ∷ [])) 0 4 (bank (at 10 0x000A ∷ []))  -- with a preset out of its range
    ∷ set_mark sheet (bank []) 0x10000 7 (bank [])  -- a mark is not cut to sixteen bits
    ∷ set_mark broken (bank []) 2 2 (bank [])
    ∷ set_mark sheet (take 27 (bank [])) 2 3 (take 27 (bank []))
    ∷ set_mark sheet unsound 2 4 unsound
    ∷ set_mark sheet unsound 0 4 unsound  -- a mark of 2 is not mended by setting it
    ∷ []

-- every row is right
pub bank_limits : each right table ≡ true
unfolding table right changed bytes_of check_answer fresh_outcome fresh_answer fresh_stores low_stores post_outcome post_answer post_stores all_read_only mark_outcome mark_answer stored lies_in first_case bank_sound good_by sound header_sound areas_sound items_sound settings_sound records_sound record_area each some up_from same_places item_places covered_places places_follow areas_ascend lengths_sum areas items word_at with_word in_range
bank_limits = refl
