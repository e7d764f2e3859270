-- The makers' registers once more, in decimal and as a listing: what the listing of each maker's sheet is, typed from their documents (rules M10 to
-- M25), as one table under one statement. So a number of a map is typed twice, in two bases, and each holds the other. Assumes nothing.
use Prim.Native.Nat.{ℕ}
use mathlib.Core.Path.{◌≡◌, refl}
use mathlib.Core.Bool.{Bool, true}
use mathlib.Core.List.{List, [], ◌∷◌, ◌++◌}
use Prim.Native.String.{String}
use Rattle.words.specs.Words.{word_at, bytes_of}
use Rattle.range.specs.Range.{number_of, not_above, in_range}
use Rattle.sheet_rules.specs.Rows.{areas, items}
use Rattle.sheet_rules.specs.Lookup.{address_of}
use Rattle.sheet_rules.specs.Rules.{sound, header_sound, areas_sound, items_sound, settings_sound, records_sound, item_places, covered_places, places_follow, areas_ascend, lengths_sum}
use Rattle.lists.specs.Lists.{each, some, up_from, same_places}
use Rattle.makers.specs.Maps.{ux, aswe, aswe40, bore50, bore80}
use Rattle.makers.specs.Sheets.{sheet_of}
use Rattle.listing.specs.Ascii.{ascii}
use Rattle.listing.specs.Text.{listing, decimal, decimal_within, signed_decimal, summary_text, item_text, item_texts}

ux_text : List ℕ
ux_text =
    ascii "areas 2 items 18 bank 34\n"
    ++ ascii "0100 s -10 60\n"
    ++ ascii "0101 u 0 4\n"
    ++ ascii "0102 u 0 1\n"
    ++ ascii "0103 p 0 99999\n"
    ++ ascii "0105 p 0 99999\n"
    ++ ascii "0107 p 0 99999\n"
    ++ ascii "0109 u 1 16\n"
    ++ ascii "010A p 0 99999\n"
    ++ ascii "010C u 0 1\n"
    ++ ascii "010D u 0 1\n"
    ++ ascii "010E u 1 247\n"
    ++ ascii "010F u 0 1\n"
    ++ ascii "0110 u 0 10000\n"
    ++ ascii "0111 u 0 2\n"
    ++ ascii "0112 u 0 1000\n"
    ++ ascii "0113 p 0 999999\n"
    ++ ascii "0115 u 0 1\n"
    ++ ascii "0116 u 0 4\n"

-- by the counts, the high bound of 0109, which goes by the bore, and the lines of the presets
aswe_text : List ℕ → String → List ℕ → List ℕ
aswe_text counts bore presets =
    counts
    ++ ascii "00FF u 0 1\n"
    ++ ascii "0100 u 0 1\n"
    ++ ascii "0101 u 0 10000\n"
    ++ ascii "0102 u 0 6\n"
    ++ ascii "0103 u 0 1\n"
    ++ ascii "0104 u 0 1\n"
    ++ ascii "0105 u 1 16\n"
    ++ ascii "0106 u 800 1200\n"
    ++ ascii "0107 u 0 1\n"
    ++ ascii "0108 u 1 247\n"
    ++ (ascii "0109 u 0 " ++ ascii bore ++ ascii "\n")
    ++ ascii "010D u 500 1999\n"
    ++ ascii "010E u 0 65535\n"
    ++ ascii "010F u 1 12\n"
    ++ ascii "0110 u 1 31\n"
    ++ ascii "0111 u 0 23\n"
    ++ ascii "0112 u 0 59\n"
    ++ ascii "0113 u 1 288\n"
    ++ ascii "0115 u 0 5\n"
    ++ ascii "0116 u 1 4\n"
    ++ presets
    ++ ascii "0123 s -100 600\n"
    ++ ascii "0124 u 0 1000\n"

aswe_counts : List ℕ
aswe_counts = ascii "areas 5 items 22 bank 38\n"

aswe40_text : List ℕ
aswe40_text =
    aswe_text (ascii "areas 6 items 27 bank 45\n") "16"
    (ascii "0118 u 0 9\n"
    ++ ascii "0119 u 0 9999\n"
    ++ ascii "011A u 0 9999\n"
    ++ ascii "011B p 0 4294967295\n"
    ++ ascii "011D p 0 4294967295\n")

-- a sheet and its listing
pub record Row : Type 0 where
  pub sheet : List ℕ
  pub text : List ℕ

abbrev pub row : List ℕ → List ℕ → Row
row sheet text = record { sheet = sheet; text = text }

abbrev pub right : Row → Bool
right this = same_places (listing this.sheet) this.text

pub table : List Row
table =
    row (sheet_of ux) ux_text
    ∷ row (sheet_of aswe40) aswe40_text
    ∷ row (sheet_of (aswe bore50)) (aswe_text aswe_counts "30" [])
    ∷ row (sheet_of (aswe bore80)) (aswe_text aswe_counts "60" [])
    ∷ []

-- every row is right
pub makers_listed : each right table ≡ true
unfolding table ux_text aswe_text aswe_counts aswe40_text sheet_of listing ascii decimal decimal_within signed_decimal summary_text item_text item_texts address_of sound areas items word_at bytes_of number_of not_above in_range header_sound areas_sound items_sound settings_sound records_sound each some up_from same_places item_places covered_places places_follow areas_ascend lengths_sum
makers_listed = refl
