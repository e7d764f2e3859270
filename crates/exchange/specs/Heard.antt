-- What a box hears of a meter: the values, done, or the error code that the meter's reply says (rule Q52), and what a write sent (rule Q53). In plain
-- numbers, but for the words of a record, which are the rules' own. Assumes nothing.
use Rattle.std.specs.Prelude.{◌≡◌, false, List, ℕ, ◌+◌, ◌*◌, ◌≤◌, ◌<◌, length, get_or}
use Rattle.sheet_rules.specs.Rows.{record_area}
use Rattle.sheet_rules.specs.Lookup.{record_number}
use Rattle.bank_rules.specs.Calls.{Lent, lent_with}
use Rattle.ring_rules.specs.Ring.{record_of}
use Rattle.plain.specs.Numbers.{byte, word}
use Rattle.plain.specs.Sheet.{LiesAt}
use Rattle.plain.specs.Frame.{error, good, Gets, Readable}
use Rattle.controller_rules.specs.declared.Order.{Order}
use Rattle.controller_rules.specs.declared.Order.TheVariants.{Read, Record, Write, Writes, Clear, Unknown}
use Rattle.controller_rules.specs.Reading.{brings_values}
use Rattle.cedarskein.specs.Door.{Handed, ReplyTold, reply_told}

-- so many words of values were told, in the first bytes of the buffer; behind them it is as it was
pub record Tells (before : List ℕ) (told : ReplyTold) (words : ℕ) : Type 0 where
  pub done : told.number ≡ 0
  pub size : told.length ≡ 2 * words
  pub no_error : told.error ≡ 0
  pub same_length : length told.buffer ≡ length before
  pub beyond : (k : ℕ) → 2 * words ≤ k → byte told.buffer k ≡ byte before k

-- what is told of the reply to an order's query, by what the meter makes of it: its error code; for a read the bank's words at the addresses, each of which
-- can be read; for a record the record's words; for the others done
pub data Heard (given : Lent) (frame before : List ℕ) (told : ReplyTold) : Order → Type 0 where
  erred : {order : Order} (code : ℕ) → Gets given frame (error code) → 1 ≤ code → code ≤ 3 → told ≡ reply_told 0 0 code before
      → Heard given frame before told order
  values : {start count : ℕ} → Gets given frame good → Tells before told count → ((k : ℕ) → k < count → Readable given.sheet (start + k))
      → ((k place access : ℕ) → k < count → LiesAt given.sheet (start + k) place access → word told.buffer (2 * k) ≡ word given.bank (2 * place))
      → Heard given frame before told (Read start count)
  recorded : {address words : ℕ} → Gets given frame good → Tells before told words
      → ((k : ℕ) → k < words
      → word told.buffer (2 * k) ≡ get_or (record_of (record_area given.sheet) given.ring (record_number (record_area given.sheet) address)) k 0)
      → Heard given frame before told (Record address words)
  done : {order : Order} → brings_values order ≡ false → Gets given frame good → told ≡ reply_told 0 0 0 before → Heard given frame before told order

-- rule Q53: the k-th value that an order writes: the one of a write, the words of several
abbrev pub written_value : Order → List ℕ → ℕ → ℕ
written_value (Read start count) sent k = 0
written_value (Record address words) sent k = 0
written_value (Write address value) sent k = value
written_value (Writes start) sent k = word sent (2 * k)
written_value (Clear address) sent k = 0
written_value Unknown sent k = 0

-- sheet and ring as they are, and the bank as a call left it
abbrev pub afterwards : Lent → Handed → Lent
afterwards given left = lent_with given.sheet left.bank given.ring
