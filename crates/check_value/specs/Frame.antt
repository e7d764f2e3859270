-- Where a frame holds its check, a frame that passes, and the sealing of a reply or a query. Assumes nothing.
use Rattle.std.specs.Prelude.{ℕ, ◌+◌, ◌-◌, ◌*◌, ◌/◌, ◌%◌, Bool, ◌&&◌, cond, List, leb, eqb, length, take, set}
use Rattle.words.specs.Words.{byte_at}
use Rattle.check_value.specs.Check.{value_of}

-- rule C6: how long a frame may be
abbrev pub shortest : ℕ
shortest = 4

abbrev pub longest : ℕ
longest = 100

-- rule C4: how many bytes hold the check
abbrev pub check_bytes : ℕ
check_bytes = 2

-- rule C5: the bytes in front of them
abbrev pub covered : List ℕ → List ℕ
covered frame = take (length frame - check_bytes) frame

-- rule C4: the value that they hold
abbrev pub held : List ℕ → ℕ
held frame = byte_at frame (length frame - 1) * 256 + byte_at frame (length frame - check_bytes)

abbrev pub length_passes : List ℕ → Bool
length_passes frame = leb shortest (length frame) && leb (length frame) longest

abbrev pub check_agrees : List ℕ → Bool
check_agrees frame = eqb (value_of (covered frame)) (held frame)

-- rules C6 and D30
unfoldable pub passes : List ℕ → Bool
passes frame = length_passes frame && check_agrees frame

-- rules R6 and Q20, a buffer whose first bytes are followed by their check, low byte first; a buffer without room for it stays as it is
unfoldable pub sealed : List ℕ → ℕ → List ℕ
sealed buffer n =
    cond (leb (n + check_bytes) (length buffer))
    (set (set buffer n (value_of (take n buffer) % 256)) (n + 1) (value_of (take n buffer) / 256))
    buffer
