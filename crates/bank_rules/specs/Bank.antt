-- The bank: its size, the value of an item and its side, a sound bank, and the stores of a fresh bank, of posting and of setting the mark. Assumes
-- nothing.
use Rattle.std.specs.Prelude.{ℕ, ◌+◌, ◌*◌, ◌/◌, ◌%◌, Bool, false, cond, ◌&&◌, ◌||◌, List, [], ◌∷◌, ◌++◌, map, leb, eqb, length, Option, None, Some}
use Rattle.words.specs.Words.{word_at}
use Rattle.range.specs.declared.Side.{Side}
use Rattle.range.specs.Range.{side_of, inside}
use Rattle.sheet_rules.specs.declared.Item.{Item}
use Rattle.sheet_rules.specs.Rows.{bank_words, address_place, rate_place, areas, items}
use Rattle.lists.specs.Lists.{each, up_from}
use Rattle.sheet_rules.specs.Rules.{is_pair, read_only}
use Rattle.sheet_rules.specs.Lookup.{lies_in, place_in}
use Rattle.sheet_rules.specs.declared.Lies.{Lies}
use Rattle.bank_rules.specs.Stores.{Store, word_of}

-- rule B1: how many bytes a bank has
abbrev pub bank_bytes : List ℕ → ℕ
bank_bytes sheet = 2 * bank_words sheet + 2

abbrev pub fits : List ℕ → List ℕ → Bool
fits sheet bank = eqb (length bank) (bank_bytes sheet)

-- rule B1: the place of the mark
abbrev pub mark_place : List ℕ → ℕ
mark_place sheet = bank_words sheet

-- rule B3, the value of an item, where `at` gives the word at each place: its word, or for a pair both, the upper one first
abbrev pub value_by : (ℕ → ℕ) → Item → ℕ
value_by at item = cond (is_pair item) (at item.place * 65536 + at (item.place + 1)) (at item.place)

-- rule B13, at which side of its range an item's value lies, where `at` gives the word at each place
unfoldable pub side_by : (ℕ → ℕ) → Item → Side
side_by at item = side_of item.kind item.low item.high (value_by at item)

-- rule B10, of one item, where `at` gives the word at each place
unfoldable pub good_by : (ℕ → ℕ) → Item → Bool
unfolding side_by
good_by at item = inside (side_by at item)

-- rules B10 to B12
unfoldable pub bank_sound : List ℕ → List ℕ → Bool
bank_sound sheet bank = each (good_by (word_of bank)) (items sheet) && leb (word_of bank (mark_place sheet)) 1

-- the station and the rate of a bank: rules S8, S9, B21 and B22; the rate is what its register holds, 0 or 1: rules N54 and M31
abbrev pub station_of : List ℕ → List ℕ → ℕ
station_of sheet bank = word_of bank (address_place sheet)

abbrev pub rate_of : List ℕ → List ℕ → ℕ
rate_of sheet bank = word_of bank (rate_place sheet)

-- ---- a fresh bank

abbrev pub zero_at : ℕ → Store
zero_at place = record { place = place; word = 0 }

-- an item at a value: its word, or for a pair both words, upper word first
abbrev pub item_stores : Item → ℕ → List Store
item_stores item value =
    cond (is_pair item)
    (record { place = item.place; word = value / 65536 } ∷ record { place = item.place + 1; word = value % 65536 } ∷ [])
    (record { place = item.place; word = value % 65536 } ∷ [])

unfoldable pub low_stores : List Item → List Store
low_stores [] = []
low_stores (item ∷ behind) = item_stores item item.low ++ low_stores behind

-- rules B20 to B24: every word 0, then the low bound of each item, then the address and the rate, which win
unfoldable pub fresh_stores : List ℕ → List Store
fresh_stores sheet =
    map zero_at (up_from 0 (bank_words sheet + 1)) ++ low_stores (items sheet)
    ++ (record { place = address_place sheet; word = 1 } ∷ record { place = rate_place sheet; word = 1 } ∷ [])

-- ---- posting

-- what lies at an address has access 1
abbrev pub is_read_only : Option Lies → Bool
is_read_only (Some lies) = eqb lies.access read_only
is_read_only None = false

-- rules B30 and B32: the addresses that posted bytes are for, as numbers without a width
abbrev pub posted_run : ℕ → List ℕ → List ℕ
posted_run address bytes = up_from address (length bytes / 2)

-- rule B31
unfoldable pub all_read_only : List ℕ → List ℕ → Bool
all_read_only sheet run = each (λ address. is_read_only (lies_in (areas sheet) address)) run

-- rule B30: the k-th posted word, at the place of its address
abbrev pub post_store : List ℕ → ℕ → List ℕ → ℕ → Store
post_store sheet address bytes k = record { place = place_in (lies_in (areas sheet) (address + k)); word = word_at bytes (2 * k) }

unfoldable pub post_stores : List ℕ → ℕ → List ℕ → List Store
post_stores sheet address bytes = map (post_store sheet address bytes) (up_from 0 (length bytes / 2))

-- rule N7, of posted bytes
abbrev pub empty_or_odd : List ℕ → Bool
empty_or_odd bytes = eqb (length bytes) 0 || eqb (length bytes % 2) 1

-- ---- the mark

-- rule B40
abbrev pub mark_stores : List ℕ → ℕ → List Store
mark_stores sheet mark = record { place = mark_place sheet; word = mark } ∷ []
