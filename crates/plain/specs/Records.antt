-- The records of a sheet and of a ring, in plain numbers: the three words behind the item rows, the number of the record at an address, and where
-- a record stands in a ring. Assumes nothing.
use Rattle.std.specs.Prelude.{◌≡◌, ◌⊎◌, List, ℕ, ◌+◌, ◌*◌, ◌≤◌, ◌<◌}
use Rattle.plain.specs.Numbers.{word}
use Rattle.plain.specs.Sheet.{area_rows, item_rows}

-- rules S11 and S80: header word 11 is 1, and behind the item rows stand the first record's address, how many records there are, and how many words
-- each has
pub record RecordRow (sheet : List ℕ) (first many words : ℕ) : Type 0 where
  pub one : word sheet 22 ≡ 1
  pub its_first : word sheet (24 + 8 * area_rows sheet + 12 * item_rows sheet) ≡ first
  pub its_many : word sheet (26 + 8 * area_rows sheet + 12 * item_rows sheet) ≡ many
  pub its_words : word sheet (28 + 8 * area_rows sheet + 12 * item_rows sheet) ≡ words

-- rule S86, an address is a record's: the first record's has number 1
pub record RecordAt (sheet : List ℕ) (address number many words : ℕ) : Type 0 where
  pub first : ℕ
  pub row : RecordRow sheet first many words
  pub not_before : first ≤ address
  pub not_behind : address < first + many
  pub its_number : first + number ≡ address + 1

-- an address is some record's
abbrev pub AtRecord : List ℕ → ℕ → Type 0
AtRecord sheet address = (number many words : ℕ) × RecordAt sheet address number many words

-- rule T1, the ring's first two words: at which place its newest record stands, and how many are stored
abbrev pub newest : List ℕ → ℕ
newest ring = word ring 0

abbrev pub how_many : List ℕ → ℕ
how_many ring = word ring 2

-- rule T20, a record stands at a place: as many places in front of the newest as there are newer ones, or as many in front of where the newest would
-- be one time round
pub record StandsAt (ring : List ℕ) (many number place : ℕ) : Type 0 where
  pub below : place < many
  pub back : (place + number ≡ newest ring + 1) ⊎ (place + number ≡ newest ring + many + 1)
