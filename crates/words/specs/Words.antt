-- Bytes and sixteen-bit words of a list of bytes, each total: rule G7.
-- A read past the end gives 0; a store that does not fit changes nothing. Assumes nothing.
use Rattle.std.specs.Prelude.{ℕ, ◌+◌, ◌*◌, ◌/◌, ◌%◌, ◌<◌, cond, List, [], ◌∷◌, ◌++◌, ltb, length, get_or, set}

-- the byte at a place, and 0 past the end
abbrev pub byte_at : List ℕ → ℕ → ℕ
byte_at bytes at = get_or bytes at 0

-- rule G4, a list of bytes: every number in it is below 256
abbrev pub Bytes : List ℕ → Type 0
Bytes bytes = (at : ℕ) → byte_at bytes at < 256

-- the upper byte of a word, and its lower byte
abbrev pub upper : ℕ → ℕ
upper word = word / 256

abbrev pub lower : ℕ → ℕ
lower word = word % 256

-- the word whose upper byte stands at a place and whose lower byte stands at the next
unfoldable pub word_at : List ℕ → ℕ → ℕ
word_at bytes at = byte_at bytes at * 256 + byte_at bytes (at + 1)

-- the bytes with another byte at a place; past the end they stay as they are
abbrev pub with_byte : List ℕ → ℕ → ℕ → List ℕ
with_byte bytes at byte = set bytes at byte

-- the bytes with another word at a place, upper byte first; where one of its two bytes lies past the end they stay as they are
unfoldable pub with_word : List ℕ → ℕ → ℕ → List ℕ
with_word bytes at word =
    cond (ltb (at + 1) (length bytes)) (set (set bytes at (upper word)) (at + 1) (lower word)) bytes

-- a word as bytes, upper byte first, and words one after the other
abbrev pub word_bytes : ℕ → List ℕ
word_bytes word = upper word ∷ lower word ∷ []

unfoldable pub bytes_of : List ℕ → List ℕ
bytes_of [] = []
bytes_of (word ∷ behind) = word_bytes word ++ bytes_of behind
