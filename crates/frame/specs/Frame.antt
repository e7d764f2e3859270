-- The parts of a frame, and what its function makes of them. Total: a byte past the end is 0. Assumes nothing.
use Rattle.std.specs.Prelude.{ℕ, ◌+◌, ◌*◌, Bool, cond, ◌||◌, List, eqb, length, Option, Some, None}
use Rattle.words.specs.Words.{byte_at, word_at}
use Rattle.check_value.specs.Frame.{passes}
use Rattle.lists.specs.Lists.{up_from}
use Rattle.frame.specs.declared.Parts.{Parts}

-- rule J3: the functions
abbrev pub reads : ℕ
reads = 0x03

abbrev pub clears : ℕ
clears = 0x05

abbrev pub writes_one : ℕ
writes_one = 0x06

abbrev pub writes_many : ℕ
writes_many = 0x10

-- rule J2: the station, and the function
abbrev pub station : List ℕ → ℕ
station frame = byte_at frame 0

abbrev pub function : List ℕ → ℕ
function frame = byte_at frame 1

-- rule J2: the first address
abbrev pub start : List ℕ → ℕ
start frame = word_at frame 2

-- rule J2: the count of 03 and 10, the value of 05 and 06
abbrev pub second : List ℕ → ℕ
second frame = word_at frame 4

-- rule J2: the byte count of 10
abbrev pub byte_count : List ℕ → ℕ
byte_count frame = byte_at frame 6

abbrev pub is_write : List ℕ → Bool
is_write frame = eqb (function frame) writes_one || eqb (function frame) writes_many

-- rule J4, how many registers a read or a write is for, by its function and its second word: one for 06, else the count
abbrev pub many_of : ℕ → ℕ → ℕ
many_of code word = cond (eqb code writes_one) 1 word

abbrev pub count : List ℕ → ℕ
count frame = many_of (function frame) (second frame)

-- rules J4 and J62: the addresses of a read or a write, as numbers without a width
abbrev pub run : List ℕ → List ℕ
run frame = up_from (start frame) (count frame)

-- rule J64: the longest frame has room for no more words beside station, function, byte count and check
abbrev pub most_read : ℕ
most_read = 47

-- rule J2: where the words that a write sends begin
abbrev pub values_at : List ℕ → ℕ
values_at frame = cond (eqb (function frame) writes_one) 4 7

-- the k-th word that a write sends
abbrev pub sent : List ℕ → ℕ → ℕ
sent frame k = word_at frame (values_at frame + 2 * k)

-- a frame, taken apart
abbrev pub parts_of : List ℕ → Parts
parts_of frame =
    record {
      station = station frame;
      function = function frame;
      start = start frame;
      second = second frame;
      bytes = byte_count frame;
      length = length frame;
    }

-- what step 1 answers: a frame that passes, taken apart, or that it fails
unfoldable pub passed_frame : List ℕ → Option Parts
passed_frame frame = cond (passes frame) (Some (parts_of frame)) None
