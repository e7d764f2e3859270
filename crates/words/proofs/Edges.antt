-- Bytes and words at the edges of a list, as computed tables: what is read past the end, and what a store without room does. Every row is right.
-- Assumes nothing.
use mathlib.Core.Path.{◌≡◌, refl}
use mathlib.Core.List.{List, [], ◌∷◌}
use Prim.Native.Nat.{ℕ}
use Rattle.words.specs.Words.{byte_at, word_at, bytes_of, with_byte, with_word}

abbrev three : List ℕ
three = 0x81 ∷ 0x02 ∷ 0xF3 ∷ []

-- read: each byte and past the end, each word, one without its lower byte, and past the end
pub bytes_read : (byte_at three 0 ∷ byte_at three 1 ∷ byte_at three 2 ∷ byte_at three 3 ∷ []) ≡ 0x81 ∷ 0x02 ∷ 0xF3 ∷ 0x00 ∷ []
bytes_read = refl

pub words_read : (word_at three 0 ∷ word_at three 1 ∷ word_at three 2 ∷ word_at three 3 ∷ []) ≡ 0x8102 ∷ 0x02F3 ∷ 0xF300 ∷ 0x0000 ∷ []
unfolding word_at
words_read = refl

-- stored: each byte and past the end, each word, and one whose lower byte has no room
pub bytes_stored : (with_byte three 0 0xFE ∷ with_byte three 2 0xFE ∷ with_byte three 3 0xFE ∷ [])
    ≡ (0xFE ∷ 0x02 ∷ 0xF3 ∷ []) ∷ (0x81 ∷ 0x02 ∷ 0xFE ∷ []) ∷ three ∷ []
bytes_stored = refl

pub words_stored : (with_word three 0 0xFE01 ∷ with_word three 1 0xFE01 ∷ with_word three 2 0xFE01 ∷ with_word three 3 0xFE01 ∷ [])
    ≡ (0xFE ∷ 0x01 ∷ 0xF3 ∷ []) ∷ (0x81 ∷ 0xFE ∷ 0x01 ∷ []) ∷ three ∷ three ∷ []
unfolding with_word
words_stored = refl

-- words as bytes
pub words_as_bytes : bytes_of (0x0102 ∷ 0xFF00 ∷ []) ≡ 0x01 ∷ 0x02 ∷ 0xFF ∷ 0x00 ∷ []
unfolding bytes_of
words_as_bytes = refl
