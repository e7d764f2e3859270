-- The check value of a list of bytes, from one state to the next. Assumes nothing.
use Rattle.std.specs.Prelude.{ℕ, zero, suc, ◌/◌, ◌%◌, List, [], ◌∷◌}
use Rattle.std.specs.Int.Bits.{bit_xor}
use Rattle.check_value.specs.declared.Check.{Check}

-- rule C1
abbrev pub start_state : ℕ
start_state = 0xFFFF

-- rule C3: what the state is mixed with
abbrev pub polynomial : ℕ
polynomial = 0xA001

-- rule C2: how many shifts a byte takes
abbrev pub bits_of_byte : ℕ
bits_of_byte = 8

-- rule C3, by the bit that fell out and what was left
abbrev pub after_shift : ℕ → ℕ → ℕ
after_shift zero rest = rest
after_shift (suc out) rest = bit_xor rest polynomial

-- rule C3
unfoldable pub shifted : ℕ → ℕ
shifted state = after_shift (state % 2) (state / 2)

unfoldable pub shifted_times : ℕ → ℕ → ℕ
unfolding shifted
shifted_times zero state = state
shifted_times (suc times) state = shifted_times times (shifted state)

-- rule C2
unfoldable pub taken : ℕ → ℕ → ℕ
unfolding shifted_times
taken state byte = shifted_times bits_of_byte (bit_xor state byte)

-- rule C5: the state after bytes
unfoldable pub state_after : ℕ → List ℕ → ℕ
unfolding taken
state_after state [] = state
state_after state (byte ∷ bytes) = state_after (taken state byte) bytes

-- rule C5: the check value of bytes
unfoldable pub value_of : List ℕ → ℕ
unfolding state_after
value_of bytes = state_after start_state bytes

-- rule C9: the running state that code holds, at a number
abbrev pub check_at : ℕ → Check
check_at state = record { state = state }
