-- The kinds of items, the number that a value stands for, and the judgement of a value by its bounds: rules S41, S43, S44, B10, B13, H3, Y23 and Y24.
-- A value is the item's word or, for a pair, the upper word * 65536 + the lower word (rule B3). Assumes nothing.
use Rattle.std.specs.Prelude.{ℕ, zero, suc, Bool, true, false, not, cond, ltb, ℤ, pos, ◌-ℤ◌}
use Rattle.std.specs.Int.Signed.{le_z}
use Rattle.range.specs.declared.Side.{Side}
use Rattle.range.specs.declared.Side.TheVariants.{InRange, TooLow, TooHigh}

-- rule S41: the kinds
abbrev pub unsigned_word : ℕ
unsigned_word = 0

abbrev pub signed_word : ℕ
signed_word = 1

abbrev pub unsigned_pair : ℕ
unsigned_pair = 2

-- rule S43, a word as a signed number: from 0x8000 on it stands for itself less 0x10000
unfoldable pub signed_of : ℕ → ℤ
signed_of word = cond (ltb word 0x8000) (pos word) (pos word -ℤ pos 0x10000)

-- rule S43, the number that a value stands for: only kind 1 has a sign
unfoldable pub number_of : ℕ → ℕ → ℤ
unfolding signed_of
number_of zero value = pos value
number_of (suc zero) value = signed_of value
number_of (suc (suc kind)) value = pos value

-- rule S44: one value of a kind is not above another, as numbers
unfoldable pub not_above : ℕ → ℕ → ℕ → Bool
unfolding number_of
not_above kind a b = le_z (number_of kind a) (number_of kind b)

-- one value of a kind is below another, as numbers
unfoldable pub below : ℕ → ℕ → ℕ → Bool
unfolding not_above
below kind a b = not (not_above kind b a)

-- rules B13 and H3, at which side of its range a value of a kind lies: below the low bound it is too low; else, above the high bound, too high; and
-- else in range
unfoldable pub side_of : ℕ → ℕ → ℕ → ℕ → Side
unfolding below
side_of kind low high value = cond (below kind value low) TooLow (cond (below kind high value) TooHigh InRange)

-- rule B10, the same as yes or no
abbrev pub inside : Side → Bool
inside InRange = true
inside TooLow = false
inside TooHigh = false

unfoldable pub in_range : ℕ → ℕ → ℕ → ℕ → Bool
unfolding side_of
in_range kind low high value = inside (side_of kind low high value)

-- rules Y23 and Y24: the number by which a side is told
abbrev pub side_number : Side → ℕ
side_number InRange = 0
side_number TooLow = 1
side_number TooHigh = 2
