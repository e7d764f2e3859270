-- Sides of the sheet's rules: the sheet of rule L8 with some of its words changed, one rule at a time, as one table under one statement.
-- Assumes nothing.
use mathlib.Core.Path.{◌≡◌, refl}
use mathlib.Core.Bool.{Bool, true, not}
use mathlib.Core.List.{List, [], ◌∷◌}
use Prim.Native.Nat.{ℕ}
use Rattle.words.specs.Words.{word_at, bytes_of}
use Rattle.words.specs.Changes.{Change, at, changed}
use Rattle.range.specs.Range.{in_range}
use Rattle.sheet_rules.specs.Rows.{areas, items}
use Rattle.sheet_rules.specs.Rules.{sound, header_sound, areas_sound, items_sound, settings_sound, records_sound, item_places, covered_places, places_follow, areas_ascend, lengths_sum}
use Rattle.lists.specs.Lists.{each, some, up_from, same_places}

-- the words of rule L8
abbrev example : List ℕ
example =
    0x0001 ∷ 0x0001 ∷ 0x000C ∷ 0x0003 ∷ 0x0010 ∷ 0x0003 ∷ 0x000D ∷ 0x0022 ∷ 0x0000 ∷ 0x0001 ∷ 0x0000 ∷ 0x0000
    ∷ 0x0000 ∷ 0x0002 ∷ 0x0000 ∷ 0x0003
    ∷ 0x0000 ∷ 0x0000 ∷ 0x0000 ∷ 0x0001 ∷ 0x0000 ∷ 0x00F7
    ∷ 0x0000 ∷ 0x0001 ∷ 0x0000 ∷ 0x0000 ∷ 0x0000 ∷ 0x0001
    ∷ 0x0001 ∷ 0x0002 ∷ 0x0000 ∷ 0xFFF6 ∷ 0x0000 ∷ 0x003C
    ∷ []

-- the words that are changed, and whether the sheet is sound then
pub data Row : Type 0 where
  sound_with : List Change → Row
  broken_with : List Change → Row

unfoldable pub right : Row → Bool
right (sound_with changes) = sound (bytes_of (changed 0 example changes))
right (broken_with changes) = not (sound (bytes_of (changed 0 example changes)))

pub table : List Row
table =
    sound_with []
    -- rule S0
    ∷ broken_with (at 0 0 ∷ [])
    ∷ sound_with (at 0 2 ∷ [])
    ∷ broken_with (at 0 3 ∷ [])
    -- rule S2
    ∷ broken_with (at 2 11 ∷ [])
    ∷ broken_with (at 2 13 ∷ [])
    -- rule S4
    ∷ broken_with (at 4 15 ∷ [])
    ∷ broken_with (at 4 17 ∷ [])
    -- rules S6, S26 and S27
    ∷ sound_with (at 6 0 ∷ [])
    ∷ broken_with (at 6 16 ∷ [])
    ∷ broken_with (at 10 3 ∷ [])
    ∷ sound_with (at 6 15 ∷ at 10 3 ∷ [])
    ∷ sound_with (at 6 2 ∷ at 10 0xFFFF ∷ [])
    ∷ broken_with (at 6 15 ∷ at 10 2 ∷ [])
    ∷ broken_with (at 6 15 ∷ at 10 0 ∷ [])
    -- rule S7
    ∷ broken_with (at 7 0x21 ∷ [])
    ∷ broken_with (at 7 0x23 ∷ [])
    -- rule S11
    ∷ broken_with (at 11 1 ∷ [])
    ∷ broken_with (at 11 1 ∷ at 7 0x25 ∷ [])
    ∷ broken_with (at 11 2 ∷ [])
    -- rule S22; up to FFFF
    ∷ broken_with (at 12 3 ∷ [])
    ∷ sound_with (at 12 0xFFFD ∷ at 13 0xFFFF ∷ [])
    -- rules S24 and S25
    ∷ broken_with (at 14 1 ∷ [])
    ∷ broken_with (at 5 2 ∷ [])
    ∷ broken_with (at 5 4 ∷ [])
    -- rule S21
    ∷ broken_with (at 15 0 ∷ [])
    ∷ broken_with (at 15 1 ∷ [])
    ∷ broken_with (at 15 4 ∷ [])
    ∷ broken_with (at 0 2 ∷ at 15 0 ∷ [])
    ∷ broken_with (at 0 2 ∷ at 15 4 ∷ [])
    -- rule S30
    ∷ broken_with (at 15 2 ∷ [])
    ∷ sound_with (at 0 2 ∷ at 15 2 ∷ [])
    -- rule S41
    ∷ sound_with (at 28 0 ∷ at 31 0 ∷ [])
    ∷ broken_with (at 28 3 ∷ at 31 0 ∷ [])
    -- rule S45, a pair: 0002 and 0003 are its places
    ∷ sound_with (at 5 4 ∷ at 13 3 ∷ at 28 2 ∷ at 31 0 ∷ [])
    ∷ broken_with (at 28 2 ∷ at 31 0 ∷ [])
    -- rule S42; a pair's need not be 0
    ∷ broken_with (at 20 1 ∷ [])
    ∷ broken_with (at 30 1 ∷ [])
    ∷ broken_with (at 32 1 ∷ [])
    ∷ sound_with (at 5 4 ∷ at 13 3 ∷ at 28 2 ∷ at 32 1 ∷ [])
    -- rules S43 and S44
    ∷ sound_with (at 31 0x003C ∷ [])
    ∷ broken_with (at 31 0x003D ∷ [])
    ∷ sound_with (at 33 0xFFF6 ∷ [])
    ∷ broken_with (at 33 0xFFF5 ∷ [])
    -- rules S46 and S47
    ∷ broken_with (at 29 1 ∷ [])
    ∷ broken_with (at 29 3 ∷ [])
    ∷ broken_with (at 5 4 ∷ at 13 3 ∷ [])
    -- rules S60 to S62
    ∷ broken_with (at 8 1 ∷ [])
    ∷ broken_with (at 9 0 ∷ [])
    ∷ broken_with (at 8 2 ∷ at 28 1 ∷ [])
    ∷ broken_with (at 8 3 ∷ [])
    ∷ broken_with (at 9 3 ∷ [])
    ∷ broken_with (at 16 1 ∷ [])
    ∷ broken_with (at 22 1 ∷ [])
    ∷ broken_with (at 19 2 ∷ [])
    ∷ sound_with (at 21 1 ∷ [])
    ∷ broken_with (at 19 0 ∷ at 21 0 ∷ [])
    -- rule S63
    ∷ broken_with (at 19 0 ∷ [])
    ∷ sound_with (at 19 1 ∷ at 21 0x00F7 ∷ [])
    ∷ broken_with (at 21 0x00F8 ∷ [])
    ∷ broken_with (at 21 0x00FF ∷ [])
    ∷ broken_with (at 21 0x0100 ∷ [])
    -- rule S64
    ∷ broken_with (at 25 1 ∷ [])
    ∷ broken_with (at 27 2 ∷ [])
    ∷ []

-- every row is right
pub both_sides : each right table ≡ true
unfolding table right changed bytes_of sound header_sound areas_sound items_sound settings_sound records_sound each some up_from same_places item_places covered_places places_follow areas_ascend lengths_sum areas items word_at in_range
both_sides = refl
