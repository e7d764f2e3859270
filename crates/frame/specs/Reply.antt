-- Section R of the rules: the bytes of each reply, its check behind it, and how it lies in an answer buffer. A query is closed by its check and laid in
-- a buffer in the same way (rules Q20 and Q23). Assumes nothing.
use Rattle.std.specs.Prelude.{ℕ, ◌+◌, ◌*◌, ◌/◌, ◌%◌, Bool, cond, ◌&&◌, List, [], ◌∷◌, ◌++◌, map, leb, ltb, eqb, length, drop}
use Rattle.lists.specs.Lists.{up_from}
use Rattle.words.specs.Words.{word_at, word_bytes, bytes_of}
use Rattle.check_value.specs.Check.{value_of}
use Rattle.check_value.specs.Frame.{longest}
use Rattle.frame.specs.Frame.{reads, writes_many, station, function, start, second}

-- so many words of lent bytes, from a place on
abbrev pub words_from : List ℕ → ℕ → ℕ → List ℕ
words_from source first many = map (λ place. word_at source (2 * place)) (up_from first many)

-- rules R1 and R9: the words of a run, or of a record
abbrev pub read_reply : List ℕ → List ℕ → ℕ → ℕ → List ℕ
read_reply source frame first many = station frame ∷ reads ∷ (2 * many) ∷ bytes_of (words_from source first many)

-- rule R2: station, function, address, value
abbrev pub echo : List ℕ → List ℕ
echo frame = station frame ∷ function frame ∷ word_bytes (start frame) ++ word_bytes (second frame)

-- rules R2 and R3
abbrev pub write_reply : List ℕ → List ℕ
write_reply frame =
    cond (eqb (function frame) writes_many)
    (station frame ∷ writes_many ∷ word_bytes (start frame) ++ word_bytes (second frame))
    (echo frame)

-- rule R5
abbrev pub top_bit : ℕ
top_bit = 0x80

abbrev pub top_bit_set : ℕ → ℕ
top_bit_set byte = cond (ltb byte top_bit) (byte + top_bit) byte

-- rules R4 and R7: the station is the frame's, which step 2 found to be the bank's before the frame
abbrev pub error_reply : List ℕ → ℕ → List ℕ
error_reply frame code = station frame ∷ top_bit_set (function frame) ∷ code ∷ []

-- rules R6 and Q20
unfoldable pub with_check : List ℕ → List ℕ
with_check bytes = bytes ++ (value_of bytes % 256 ∷ value_of bytes / 256 ∷ [])

-- how many bytes an error has with its check
abbrev pub error_length : ℕ
error_length = 5

-- ---- in the answer buffer

-- rules N0, Q23 and Q42: a reply, a query or values, and behind it the buffer as it was
abbrev pub laid : List ℕ → List ℕ → List ℕ
laid reply buffer = reply ++ drop (length reply) buffer

-- rule N5: a buffer with too few bytes
abbrev pub least_buffer : ℕ
least_buffer = 100

abbrev pub small_buffer : List ℕ → Bool
small_buffer buffer = ltb (length buffer) least_buffer

-- a reply has room: it is neither longer than a frame can be nor longer than the buffer
abbrev pub has_room : List ℕ → List ℕ → Bool
has_room reply buffer = leb (length reply) longest && leb (length reply) (length buffer)

-- how many of its first bytes a buffer was filled with, and the buffer afterwards
pub record Filled : Type 0 where
  pub length : ℕ
  pub buffer : List ℕ

abbrev pub fill : ℕ → List ℕ → Filled
fill length buffer = record { length = length; buffer = buffer }

-- a reply is laid in a buffer; one without room is not laid, and the buffer stays as it is
unfoldable pub lay_reply : List ℕ → List ℕ → Filled
lay_reply reply buffer = cond (has_room reply buffer) (fill (length reply) (laid reply buffer)) (fill 0 buffer)
