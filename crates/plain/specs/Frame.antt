-- What a frame gets, where nothing is refused: seven conditions in plain numbers, in the order of rule J1; the first that fails decides. Functions, lengths,
-- counts, addresses and bounds stand here as numbers, and every condition says what must hold. Assumes nothing.
use Rattle.std.specs.Prelude.{◌≡◌, cond, ◌⊎◌, List, ℕ, ◌+◌, ◌-◌, ◌*◌, ◌/◌, ◌%◌, ◌≤◌, ◌<◌, eqb, length, take}
use Rattle.check_value.specs.Check.{value_of}
use Rattle.bank_rules.specs.Calls.{Lent}
use Rattle.plain.specs.Numbers.{byte, word, signed_and_more}
use Rattle.plain.specs.Sheet.{ItemRow, LiesAt, WritableAt}
use Rattle.plain.specs.Records.{RecordAt, AtRecord, how_many}

-- ---- 1, rules J10 and C4 to C6: the length, and the last two bytes hold the check value of those before them, low byte first
pub record Whole (frame : List ℕ) : Type 0 where
  pub least : 4 ≤ length frame
  pub most : length frame ≤ 100
  pub check : byte frame (length frame - 2) + 256 * byte frame (length frame - 1) ≡ value_of (take (length frame - 2) frame)

-- ---- 2, rule J20: the first byte is the word of the bank at the place that header word 8 gives
abbrev pub OurStation : Lent → List ℕ → Type 0
OurStation given frame = byte frame 0 ≡ word given.bank (2 * word given.sheet 16)

-- ---- 3, rules J30 and S13: the second byte is a function whose bit is set in header word 6
abbrev pub Set : ℕ → ℕ → Type 0
Set sum bit = sum / bit % 2 ≡ 1

abbrev pub Allowed : List ℕ → List ℕ → Type 0
Allowed sheet frame =
    ((byte frame 1 ≡ 0x03) × Set (word sheet 12) 1) ⊎ ((byte frame 1 ≡ 0x05) × Set (word sheet 12) 2)
    ⊎ ((byte frame 1 ≡ 0x06) × Set (word sheet 12) 4) ⊎ ((byte frame 1 ≡ 0x10) × Set (word sheet 12) 8)

-- ---- 4, rules J40 and J41: 8 bytes; for 10 nine and as many as its byte count says
pub record RightLength (frame : List ℕ) : Type 0 where
  pub eight : (byte frame 1 ≡ 0x10 → ⊥) → length frame ≡ 8
  pub nine_and_more : byte frame 1 ≡ 0x10 → length frame ≡ 9 + byte frame 6

-- ---- 5, rules J50 to J53: a read and a 10 ask for at least one register, a read from a record's address on for one, and the byte count of a 10 is
-- twice its count
pub record RightCount (sheet frame : List ℕ) : Type 0 where
  pub of_read : byte frame 1 ≡ 0x03 → 1 ≤ word frame 4
  pub of_record : byte frame 1 ≡ 0x03 → AtRecord sheet (word frame 2) → word frame 4 ≡ 1
  pub of_many : byte frame 1 ≡ 0x10 → (1 ≤ word frame 4) × (byte frame 6 ≡ 2 * word frame 4)

-- ---- 6, rules J60 to J66: the addresses, and the number of a record

-- how many registers a read or a write is for, from the address in its third and fourth byte on: one for 06, for 03 and 10 the count in its fifth
-- and sixth byte. (Those bytes of a 05 are its value: nothing asks how many registers it is for.)
abbrev pub registers : List ℕ → ℕ
registers frame = cond (eqb (byte frame 1) 0x06) 1 (word frame 4)

abbrev pub address : List ℕ → ℕ → ℕ
address frame k = word frame 2 + k

-- an address of a register that can be read, and of one that can be written; a record's address is neither
pub record Readable (sheet : List ℕ) (at : ℕ) : Type 0 where
  pub small : at ≤ 0xFFFF
  pub place : ℕ
  pub access : ℕ
  pub lies : LiesAt sheet at place access
  pub permitted : (access ≡ 1) ⊎ (access ≡ 3)

pub record Writable (sheet : List ℕ) (at : ℕ) : Type 0 where
  pub small : at ≤ 0xFFFF
  pub place : ℕ
  pub written : WritableAt sheet at place

-- a read from no record's address on asks for at most 47 registers, each of which can be read; a record that is read is one of those stored; a write's
-- registers can be written; a clear is at the clear address
pub record RightAddress (given : Lent) (frame : List ℕ) : Type 0 where
  pub at_most47 : byte frame 1 ≡ 0x03 → (AtRecord given.sheet (word frame 2) → ⊥) → word frame 4 ≤ 47
  pub read : byte frame 1 ≡ 0x03 → (AtRecord given.sheet (word frame 2) → ⊥) → (k : ℕ) → k < registers frame → Readable given.sheet (address frame k)
  pub recorded : byte frame 1 ≡ 0x03 → (number many words : ℕ) → RecordAt given.sheet (word frame 2) number many words → number ≤ how_many given.ring
  pub written : (byte frame 1 ≡ 0x06) ⊎ (byte frame 1 ≡ 0x10) → (k : ℕ) → k < registers frame → Writable given.sheet (address frame k)
  pub cleared : byte frame 1 ≡ 0x05 → word frame 2 ≡ word given.sheet 20

-- ---- 7, rules J70, J71 and K1 to K4: the value of a clear, and the items of a write

-- the k-th word that a write sends: behind four bytes for 06, behind seven for 10
abbrev pub sent_word : List ℕ → ℕ → ℕ
sent_word frame k = word frame (cond (eqb (byte frame 1) 0x06) 4 7 + 2 * k)

-- the write goes to a place with its k-th word
abbrev pub Goes : List ℕ → List ℕ → ℕ → ℕ → Type 0
Goes sheet frame k place = (k < registers frame) × WritableAt sheet (address frame k) place

-- the word that would be at a place: the word sent there, or the bank's where none is
pub data WouldBe (given : Lent) (frame : List ℕ) (place w : ℕ) : Type 0 where
  written : (k : ℕ) → Goes given.sheet frame k place → w ≡ sent_word frame k → WouldBe given frame place w
  kept : ((k : ℕ) → Goes given.sheet frame k place → ⊥) → w ≡ word given.bank (2 * place) → WouldBe given frame place w

-- the value that an item would have: a pair's is its two words, the upper one first
pub data ValueWouldBe (given : Lent) (frame : List ℕ) (place value : ℕ) : ℕ → Type 0 where
  of_word : {kind : ℕ} → (kind ≡ 2 → ⊥) → WouldBe given frame place value → ValueWouldBe given frame place value kind
  of_pair : {kind : ℕ} → kind ≡ 2 → (upper lower : ℕ) → WouldBe given frame place upper → WouldBe given frame (place + 1) lower
      → value ≡ 65536 * upper + lower → ValueWouldBe given frame place value kind

-- the write goes to a place of an item
abbrev pub Touches : List ℕ → List ℕ → ℕ → ℕ → Type 0
Touches sheet frame kind place = (k : ℕ) × (Goes sheet frame k place ⊎ ((kind ≡ 2) × Goes sheet frame k (place + 1)))

-- a value between its bounds, signed for kind 1
pub record Within (kind low high value : ℕ) : Type 0 where
  pub plain : (kind ≡ 1 → ⊥) → (low ≤ value) × (value ≤ high)
  pub signed : kind ≡ 1 → (signed_and_more low ≤ signed_and_more value) × (signed_and_more value ≤ signed_and_more high)

pub record RightValue (given : Lent) (frame : List ℕ) : Type 0 where
  pub of_clear : byte frame 1 ≡ 0x05 → word frame 4 ≡ 0
  pub of_items : (byte frame 1 ≡ 0x06) ⊎ (byte frame 1 ≡ 0x10) → (kind place low high value : ℕ) → ItemRow given.sheet kind place low high
      → Touches given.sheet frame kind place → ValueWouldBe given frame place value kind → Within kind low high value

-- ---- what comes of it: silence, an error by its code, or a reply without error

pub data Fate : Type 0 where
  silence : Fate
  error : ℕ → Fate
  good : Fate

-- rules J1, J80, D20 and D24: the first condition that fails decides; where none fails there is a reply without error
pub data Gets (given : Lent) (frame : List ℕ) : Fate → Type 0 where
  not_whole : (Whole frame → ⊥) → Gets given frame silence
  other_station : Whole frame → (OurStation given frame → ⊥) → Gets given frame silence
  not_allowed : Whole frame → OurStation given frame → (Allowed given.sheet frame → ⊥) → Gets given frame (error 1)
  wrong_length : Whole frame → OurStation given frame → Allowed given.sheet frame → (RightLength frame → ⊥) → Gets given frame silence
  wrong_count : Whole frame → OurStation given frame → Allowed given.sheet frame → RightLength frame → (RightCount given.sheet frame → ⊥)
      → Gets given frame (error 3)
  wrong_address : Whole frame → OurStation given frame → Allowed given.sheet frame → RightLength frame → RightCount given.sheet frame
      → (RightAddress given frame → ⊥) → Gets given frame (error 2)
  wrong_value : Whole frame → OurStation given frame → Allowed given.sheet frame → RightLength frame → RightCount given.sheet frame → RightAddress given frame
      → (RightValue given frame → ⊥) → Gets given frame (error 3)
  all_right : Whole frame → OurStation given frame → Allowed given.sheet frame → RightLength frame → RightCount given.sheet frame → RightAddress given frame
      → RightValue given frame → Gets given frame good
