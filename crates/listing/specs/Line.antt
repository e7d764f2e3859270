-- A text in the fixed room of a line, and what is appended to a line. Assumes nothing.
use Rattle.std.specs.Prelude.{ℕ, ◌+◌, min, cond, List, [], ◌∷◌, ◌++◌, ltb, length, take, set, replicate}
use Rattle.listing.specs.declared.Line.{Line}

-- how many bytes a line has room for
abbrev pub room : ℕ
room = 40

-- the line of a text: its bytes, and zeros behind them; a text that is longer than the room is cut
unfoldable pub line_of : List ℕ → Line
line_of text = record { bytes = take room (text ++ replicate room 0); len = min (length text) room }

-- a line with one more byte; a line that is full stays as it is
unfoldable pub with_character : Line → ℕ → Line
with_character line byte =
    cond (ltb line.len room)
    (record { bytes = set line.bytes line.len byte; len = line.len + 1 }) line

-- a line with more bytes, one after the other
unfoldable pub with_text : Line → List ℕ → Line
with_text line [] = line
with_text line (byte ∷ behind) = with_text (with_character line byte) behind
