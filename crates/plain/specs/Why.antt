-- Why a frame gets silence or an error, in plain numbers: for each reason what makes it true, and that no earlier one is; and what goes out by
-- the reason. Assumes nothing.
use Rattle.std.specs.Prelude.{◌≡◌, ◌↔◌, ◌⊎◌, List, ℕ, ◌+◌, ◌-◌, ◌*◌, ◌≤◌, ◌<◌, length, take}
use Rattle.check_value.specs.Check.{value_of}
use Rattle.bank_rules.specs.Calls.{Lent}
use Rattle.plain.specs.Numbers.{byte, word, signed_and_more}
use Rattle.plain.specs.Sheet.{ItemRow, WritableAt}
use Rattle.plain.specs.Records.{RecordAt, AtRecord, how_many}
use Rattle.plain.specs.Frame.{Whole, OurStation, Allowed, RightLength, RightCount, RightAddress, registers, address, Readable, Writable, Touches, ValueWouldBe, Within, silence, error, good, Gets}

-- rule Y12: the last two bytes hold the check value of those in front of them, low byte first
abbrev pub CheckAgrees : List ℕ → Type 0
CheckAgrees frame = byte frame (length frame - 2) + 256 * byte frame (length frame - 1) ≡ value_of (take (length frame - 2) frame)

-- rule Y16: a read of 48 registers or more, from no record's address on
abbrev pub ReadsTooMany : List ℕ → List ℕ → Type 0
ReadsTooMany sheet frame = (byte frame 1 ≡ 0x03) × (48 ≤ word frame 4) × (AtRecord sheet (word frame 2) → ⊥)

-- what must hold of a frame that reasons further on speak of: passed as far as its function, and as far as its count
pub record AsFunction (given : Lent) (frame : List ℕ) : Type 0 where
  pub whole : Whole frame
  pub ours : OurStation given frame
  pub allowed : Allowed given.sheet frame

pub record AsCount (given : Lent) (frame : List ℕ) : Type 0 where
  pub function : AsFunction given frame
  pub long : RightLength frame
  pub counted : RightCount given.sheet frame
  pub few : ReadsTooMany given.sheet frame → ⊥

-- rules Y17 and Y20: a read's or a write's address is open to it
pub record Opens (sheet frame : List ℕ) (at : ℕ) : Type 0 where
  pub read : byte frame 1 ≡ 0x03 → Readable sheet at
  pub written : (byte frame 1 ≡ 0x06) ⊎ (byte frame 1 ≡ 0x10) → Writable sheet at

-- rule Y20, the first bad address: of a run that reads or writes registers one that is not open, with every one in front of it open; a record's own,
-- beyond what is stored; a clear's own, elsewhere than at the clear address
pub data FirstBadAddress (given : Lent) (frame : List ℕ) : ℕ → Type 0 where
  of_run : (byte frame 1 ≡ 0x03 → AtRecord given.sheet (word frame 2) → ⊥) → (k : ℕ) → k < registers frame
      → (Opens given.sheet frame (address frame k) → ⊥) → ((j : ℕ) → j < k → Opens given.sheet frame (address frame j))
      → FirstBadAddress given frame (address frame k)
  of_record : byte frame 1 ≡ 0x03 → (number many words : ℕ) → RecordAt given.sheet (word frame 2) number many words
      → how_many given.ring < number → FirstBadAddress given frame (word frame 2)
  of_clear : byte frame 1 ≡ 0x05 → (word frame 2 ≡ word given.sheet 20 → ⊥) → FirstBadAddress given frame (word frame 2)

-- one value is below another, signed for kind 1
pub record Under (kind a b : ℕ) : Type 0 where
  pub plain : (kind ≡ 1 → ⊥) → a < b
  pub signed : kind ≡ 1 → signed_and_more a < signed_and_more b

-- rules B13 and Y23, the side at which a value misses its range: 1 below the low bound, 2 above the high one. Of bounds in order (rule S44) it is one alone
pub data Misses (kind low high value : ℕ) : ℕ → Type 0 where
  too_low : Under kind value low → Misses kind low high value 1
  too_high : Under kind high value → Misses kind low high value 2

-- rules Y19, Y21 and Y23, the first bad item of a write: one that it touches and whose value would then miss its range, with every item that it touches
-- in front of that one in range; the address that its first place has, and the side
pub record FirstBadItem (given : Lent) (frame : List ℕ) (at side : ℕ) : Type 0 where
  pub writes : (byte frame 1 ≡ 0x06) ⊎ (byte frame 1 ≡ 0x10)
  pub kind : ℕ
  pub place : ℕ
  pub low : ℕ
  pub high : ℕ
  pub value : ℕ
  pub row : ItemRow given.sheet kind place low high
  pub touched : Touches given.sheet frame kind place
  pub its_value : ValueWouldBe given frame place value kind
  pub missed : Misses kind low high value side
  pub in_front : (kind other low high value : ℕ) → ItemRow given.sheet kind other low high → Touches given.sheet frame kind other
      → ValueWouldBe given frame other value kind → other < place → Within kind low high value
  pub its_address : WritableAt given.sheet at place

-- rules Y0, Y1 and Y10 to Y24: the number of the reason, and the address and the side that are told with it
pub data Why (given : Lent) (frame : List ℕ) : ℕ → ℕ → ℕ → Type 0 where
  by_none : Gets given frame good → Why given frame 0 0 0
  by_too_short : length frame < 4 → Why given frame 1 0 0
  by_too_long : 100 < length frame → Why given frame 2 0 0
  by_check : 4 ≤ length frame → length frame ≤ 100 → (CheckAgrees frame → ⊥) → Why given frame 3 0 0
  by_station : Whole frame → (OurStation given frame → ⊥) → Why given frame 4 0 0
  by_function : Whole frame → OurStation given frame → (Allowed given.sheet frame → ⊥) → Why given frame 5 0 0
  by_body_length : AsFunction given frame → (RightLength frame → ⊥) → Why given frame 6 0 0
  by_count : AsFunction given frame → RightLength frame → (RightCount given.sheet frame → ⊥) ⊎ ReadsTooMany given.sheet frame → Why given frame 7 0 0
  by_address : AsCount given frame → {at : ℕ} → FirstBadAddress given frame at → Why given frame 8 at 0
  by_clear_value : AsCount given frame → RightAddress given frame → byte frame 1 ≡ 0x05 → (word frame 4 ≡ 0 → ⊥) → Why given frame 9 0 0
  by_item : AsCount given frame → RightAddress given frame → {at side : ℕ} → FirstBadItem given frame at side → Why given frame 10 at side

-- rule Y4: what goes out and the reason, both ways. It tells no more than the line does; which of several reasons it is, the address and the side, `Why` says.
pub record GoesOut (given : Lent) (frame : List ℕ) (reason : ℕ) : Type 0 where
  pub no_error : Gets given frame good ↔ (reason ≡ 0)
  pub silent : Gets given frame silence ↔ ((reason ≡ 1) ⊎ (reason ≡ 2) ⊎ (reason ≡ 3) ⊎ (reason ≡ 4) ⊎ (reason ≡ 6))
  pub error_one : Gets given frame (error 1) ↔ (reason ≡ 5)
  pub error_two : Gets given frame (error 2) ↔ ((reason ≡ 8) ⊎ ((reason ≡ 7) × ReadsTooMany given.sheet frame))
  pub error_three : Gets given frame (error 3) ↔ (((reason ≡ 7) × (ReadsTooMany given.sheet frame → ⊥)) ⊎ (reason ≡ 9) ⊎ (reason ≡ 10))
