-- The listing of a sheet, each line as its bytes: rules L2 to L7. Assumes nothing.
use Rattle.std.specs.Prelude.{cond, ℕ, zero, suc, ◌+◌, ◌-◌, ◌/◌, ◌%◌, List, [], ◌∷◌, ◌++◌, ltb, ℤ, pos, negsuc}
use Prim.Native.Char.{code}
use Prim.Native.String.{String}
use Rattle.range.specs.Range.{number_of}
use Rattle.sheet_rules.specs.declared.Area.{Area}
use Rattle.sheet_rules.specs.declared.Item.{Item}
use Rattle.sheet_rules.specs.Rows.{area_count, item_count, bank_words, areas, items}
use Rattle.sheet_rules.specs.Rules.{sound}
use Rattle.sheet_rules.specs.Lookup.{address_of}
use Rattle.listing.specs.Ascii.{ascii}

-- the character of a digit below sixteen: 0 to 9, then A to F
abbrev pub digit_of : ℕ → ℕ
digit_of n = cond (ltb n 10) (0x30 + n) (0x41 + n - 10)

-- a number in decimal: the fewest digits that say it, for numbers of at most so many digits
unfoldable pub decimal_within : ℕ → ℕ → List ℕ
decimal_within zero n = []
decimal_within (suc places) n =
    cond (ltb n 10) (digit_of n ∷ []) (decimal_within places (n / 10) ++ (digit_of (n % 10) ∷ []))

-- a number of 32 bits has at most ten digits
unfoldable pub decimal : ℕ → List ℕ
decimal n = decimal_within 10 n

-- rule L5: a number with its sign
unfoldable pub signed_decimal : ℤ → List ℕ
signed_decimal (pos n) = decimal n
signed_decimal (negsuc n) = code "-" ∷ decimal (suc n)

-- rule L3: four digits
abbrev pub hexadecimal : ℕ → List ℕ
hexadecimal n =
    digit_of (n / 4096 % 16) ∷ digit_of (n / 256 % 16) ∷ digit_of (n / 16 % 16) ∷ digit_of (n % 16) ∷ []

-- rule L4
abbrev pub letter_of : ℕ → ℕ
letter_of zero = code "u"
letter_of (suc zero) = code "s"
letter_of (suc (suc kind)) = code "p"

-- rule L7: what stands between words, and at the end of a line
abbrev pub blank : ℕ
blank = code " "

abbrev pub line_feed : ℕ
line_feed = code "\n"

-- a number behind the word for it
abbrev pub counted : String → ℕ → List ℕ
counted word n = ascii word ++ decimal n

-- rule L2
unfoldable pub summary_text : List ℕ → List ℕ
summary_text sheet =
    counted "areas " (area_count sheet) ++ counted " items " (item_count sheet) ++ counted " bank " (bank_words sheet)
    ++ (line_feed ∷ [])

-- rule L3, by the areas of the sheet
unfoldable pub item_text : List Area → Item → List ℕ
item_text all item =
    hexadecimal (address_of all item.place) ++ (blank ∷ letter_of item.kind ∷ blank ∷ [])
    ++ signed_decimal (number_of item.kind item.low) ++ (blank ∷ [])
    ++ signed_decimal (number_of item.kind item.high) ++ (line_feed ∷ [])

unfoldable pub item_texts : List Area → List Item → List ℕ
item_texts all [] = []
item_texts all (item ∷ behind) = item_text all item ++ item_texts all behind

-- rules L3 and L6: what the listing program writes for the bytes that it is given
unfoldable pub listing : List ℕ → List ℕ
listing sheet = cond (sound sheet) (summary_text sheet ++ item_texts (areas sheet) (items sheet)) (ascii "sheet refused\n")
