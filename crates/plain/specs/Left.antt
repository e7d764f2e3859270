-- What a call with one frame hands back and leaves, in plain numbers, where nothing is refused. Two outcomes of bytes that meet it are equal
-- (proofs/Once.antt). Assumes nothing.
use Rattle.std.specs.Prelude.{◌≡◌, cond, ◌⊎◌, List, ℕ, ◌+◌, ◌-◌, ◌*◌, ◌≤◌, ◌<◌, ltb, length, take}
use Rattle.check_value.specs.Check.{value_of}
use Rattle.bank_rules.specs.Calls.{Lent}
use Rattle.plain.specs.Numbers.{byte, word}
use Rattle.plain.specs.Sheet.{ItemRow, LiesAt}
use Rattle.plain.specs.Records.{RecordAt, AtRecord, StandsAt}
use Rattle.plain.specs.Frame.{Whole, OurStation, Allowed, RightLength, RightCount, RightAddress, registers, address, sent_word, Goes, Touches, ValueWouldBe, Within, Fate, silence, error, good, Gets}

-- the number, the length and the rate handed back, and bank and answer buffer afterwards
pub record Left : Type 0 where
  pub number : ℕ
  pub size : ℕ
  pub rate : ℕ
  pub bank : List ℕ
  pub buffer : List ℕ

-- ---- the reply

-- a reply of so many bytes: the last two hold the check value of those before them, low byte first, and behind them all is as before
pub record Closed (before after : List ℕ) (n : ℕ) : Type 0 where
  pub same_length : length after ≡ length before
  pub check : byte after (n - 2) + 256 * byte after (n - 1) ≡ value_of (take (n - 2) after)
  pub beyond : (k : ℕ) → n ≤ k → byte after k ≡ byte before k

-- rule R5
abbrev pub marked : ℕ → ℕ
marked b = cond (ltb b 0x80) (b + 0x80) b

-- rules R4 to R6
pub record ErrorReply (frame before after : List ℕ) (code : ℕ) : Type 0 where
  pub closed : Closed before after 5
  pub station : byte after 0 ≡ byte frame 0
  pub function : byte after 1 ≡ marked (byte frame 1)
  pub its_code : byte after 2 ≡ code

-- rules R1 and R6: the words are the bank's at the addresses
pub record ReadReply (given : Lent) (frame before after : List ℕ) : Type 0 where
  pub closed : Closed before after (5 + 2 * registers frame)
  pub station : byte after 0 ≡ byte frame 0
  pub function : byte after 1 ≡ 0x03
  pub bytes : byte after 2 ≡ 2 * registers frame
  pub words : (k place access : ℕ) → k < registers frame → LiesAt given.sheet (address frame k) place access
      → word after (3 + 2 * k) ≡ word given.bank (2 * place)

-- rules R9 and R6: the words are the ring's, of the record's place; behind the ring's two words each place has as many as a record
pub record RecordReply (ring frame before after : List ℕ) (number many words : ℕ) : Type 0 where
  pub closed : Closed before after (5 + 2 * words)
  pub station : byte after 0 ≡ byte frame 0
  pub function : byte after 1 ≡ 0x03
  pub bytes : byte after 2 ≡ 2 * words
  pub its_words : (k place : ℕ) → k < words → StandsAt ring many number place → word after (3 + 2 * k) ≡ word ring (4 + 2 * (place * words + k))

-- rules R2, R3 and R6: the first six bytes as they came, and their check
pub record Echo (frame before after : List ℕ) : Type 0 where
  pub closed : Closed before after 8
  pub six : (k : ℕ) → k < 6 → byte after k ≡ byte frame k

-- rule R7, the rate before the frame: the word of the bank at the place that header word 9 gives
abbrev pub rate_before : Lent → ℕ
rate_before given = word given.bank (2 * word given.sheet 18)

-- rules N0, N1 and R7, what is handed back and sent, for each fate
pub data HandsBack (given : Lent) (frame before : List ℕ) (left : Left) : Fate → Type 0 where
  quiet : left ≡ record { number = 1; size = 0; rate = 0; bank = given.bank; buffer = before } → HandsBack given frame before left silence
  erred : {code : ℕ} → left.number ≡ 0 → left.size ≡ 5 → left.rate ≡ rate_before given → ErrorReply frame before left.buffer code
      → HandsBack given frame before left (error code)
  read : byte frame 1 ≡ 0x03 → (AtRecord given.sheet (word frame 2) → ⊥) → left.number ≡ 0 → left.size ≡ 5 + 2 * registers frame
      → left.rate ≡ rate_before given → ReadReply given frame before left.buffer → HandsBack given frame before left good
  recorded : byte frame 1 ≡ 0x03 → (number many words : ℕ) → RecordAt given.sheet (word frame 2) number many words → left.number ≡ 0
      → left.size ≡ 5 + 2 * words → left.rate ≡ rate_before given → RecordReply given.ring frame before left.buffer number many words
      → HandsBack given frame before left good
  echoed : (byte frame 1 ≡ 0x03 → ⊥) → left.number ≡ 0 → left.size ≡ 8 → left.rate ≡ rate_before given
      → Echo frame before left.buffer → HandsBack given frame before left good

-- ---- the bank

-- a write that conditions 1 to 6 let through
pub record LetThrough (given : Lent) (frame : List ℕ) : Type 0 where
  pub whole : Whole frame
  pub ours : OurStation given frame
  pub allowed : Allowed given.sheet frame
  pub long : RightLength frame
  pub counted : RightCount given.sheet frame
  pub addressed : RightAddress given frame
  pub writes : (byte frame 1 ≡ 0x06) ⊎ (byte frame 1 ≡ 0x10)

-- rules K5 to K7, the k-th word sent is stored at a place: the write goes there, and the place stands in front of every item that it touches and would leave
-- out of range
pub record Stored (given : Lent) (frame : List ℕ) (k place : ℕ) : Type 0 where
  pub through : LetThrough given frame
  pub goes : Goes given.sheet frame k place
  pub in_front : (kind first low high value : ℕ) → ItemRow given.sheet kind first low high → Touches given.sheet frame kind first
      → ValueWouldBe given frame first value kind → (Within kind low high value → ⊥) → place < first

-- rule K8, a good clear makes the mark 0, the word behind the bank's B words (header word 5)
abbrev pub Clears : Lent → List ℕ → ℕ → Type 0
Clears given frame place = Gets given frame good × (byte frame 1 ≡ 0x05) × (place ≡ word given.sheet 10)

-- rule K9, the word at a place afterwards: a word sent that is stored there, 0 for the mark of a good clear, and else the word from before
pub data WordLeft (given : Lent) (frame : List ℕ) (place w : ℕ) : Type 0 where
  stored : (k : ℕ) → Stored given frame k place → w ≡ sent_word frame k → WordLeft given frame place w
  cleared : Clears given frame place → w ≡ 0 → WordLeft given frame place w
  as_before : ((k : ℕ) → Stored given frame k place → ⊥) → (Clears given frame place → ⊥) → w ≡ word given.bank (2 * place)
      → WordLeft given frame place w

-- ---- rules D20 to D23: all of it

pub record Leaves (given : Lent) (frame before : List ℕ) (left : Left) : Type 0 where
  pub fate : Fate
  pub gets : Gets given frame fate
  pub hands_back : HandsBack given frame before left fate
  pub bank_size : length left.bank ≡ length given.bank
  pub words : (place : ℕ) → WordLeft given frame place (word left.bank (2 * place))
