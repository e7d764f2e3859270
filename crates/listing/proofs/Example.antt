-- The example of the listing, rule L8. Assumes nothing.
use Prim.Native.Nat.{ℕ}
use mathlib.Core.Path.{◌≡◌, refl}
use mathlib.Core.List.{List, [], ◌∷◌}
use lib.ListN.{take}
use Rattle.words.specs.Words.{word_at}
use Rattle.range.specs.Range.{number_of, not_above, in_range}
use Rattle.sheet_rules.specs.Rows.{areas, items}
use Rattle.sheet_rules.specs.Lookup.{address_of}
use Rattle.sheet_rules.specs.Rules.{sound, header_sound, areas_sound, items_sound, settings_sound, records_sound, item_places, covered_places, places_follow, areas_ascend, lengths_sum}
use Rattle.lists.specs.Lists.{each, some, same_places}
use Rattle.listing.specs.Ascii.{ascii}
use Rattle.listing.specs.Text.{listing, decimal, decimal_within, signed_decimal, summary_text, item_text, item_texts}

-- the words of rule L8, two bytes each
abbrev pub input : List ℕ
input =
    0x00 ∷ 0x01 ∷ 0x00 ∷ 0x01 ∷ 0x00 ∷ 0x0C ∷ 0x00 ∷ 0x03
    ∷ 0x00 ∷ 0x10 ∷ 0x00 ∷ 0x03 ∷ 0x00 ∷ 0x0D ∷ 0x00 ∷ 0x22 ∷ 0x00 ∷ 0x00 ∷ 0x00 ∷ 0x01 ∷ 0x00 ∷ 0x00 ∷ 0x00 ∷ 0x00
    ∷ 0x00 ∷ 0x00 ∷ 0x00 ∷ 0x02 ∷ 0x00 ∷ 0x00 ∷ 0x00 ∷ 0x03
    ∷ 0x00 ∷ 0x00 ∷ 0x00 ∷ 0x00 ∷ 0x00 ∷ 0x00 ∷ 0x00 ∷ 0x01 ∷ 0x00 ∷ 0x00 ∷ 0x00 ∷ 0xF7
    ∷ 0x00 ∷ 0x00 ∷ 0x00 ∷ 0x01 ∷ 0x00 ∷ 0x00 ∷ 0x00 ∷ 0x00 ∷ 0x00 ∷ 0x00 ∷ 0x00 ∷ 0x01
    ∷ 0x00 ∷ 0x01 ∷ 0x00 ∷ 0x02 ∷ 0x00 ∷ 0x00 ∷ 0xFF ∷ 0xF6 ∷ 0x00 ∷ 0x00 ∷ 0x00 ∷ 0x3C
    ∷ []

pub example : listing input ≡ ascii "areas 1 items 3 bank 3\n0000 u 1 247\n0001 u 0 1\n0002 s -10 60\n"
unfolding listing ascii decimal decimal_within signed_decimal summary_text item_text item_texts address_of sound areas items word_at number_of not_above in_range header_sound areas_sound items_sound settings_sound records_sound each some same_places item_places covered_places places_follow areas_ascend lengths_sum
example = refl

-- rule L6: for want of its last byte it is refused
pub refused : listing (take 67 input) ≡ ascii "sheet refused\n"
unfolding listing ascii decimal decimal_within signed_decimal summary_text item_text item_texts address_of sound areas items word_at number_of not_above in_range header_sound areas_sound items_sound settings_sound records_sound each some same_places item_places covered_places places_follow areas_ascend lengths_sum
refused = refl
