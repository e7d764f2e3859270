-- What the customer's demands suppose of a call with one frame, and what he sees of it. The ring is only read, and stays as it was (rule D26).
-- Assumes nothing.
use Rattle.std.specs.Prelude.{◌≡◌, true, List, ◌≤◌, ℕ, length}
use Rattle.sheet_rules.specs.Rules.{sound}
use Rattle.bank_rules.specs.Bank.{fits, bank_sound}
use Rattle.bank_rules.specs.Calls.{Lent}
use Rattle.ring_rules.specs.Calls.{ring_fits}
use Rattle.plain.specs.Left.{Left}
use Rattle.cedarskein.specs.Door.{Handed}

-- rule D30, none of the refusals 2 to 5 and 8 applies: sheet and bank are sound, the bank fits, the ring goes with the sheet, and the buffer has 100
-- bytes or more
pub record Accepted (given : Lent) (buffer : List ℕ) : Type 0 where
  pub sheet_sound : sound given.sheet ≡ true
  pub bank_fits : fits given.sheet given.bank ≡ true
  pub bank_whole : bank_sound given.sheet given.bank ≡ true
  pub ring_goes : ring_fits given.sheet given.ring ≡ true
  pub buffer_long : 100 ≤ length buffer

-- what was handed back and left
abbrev pub left_by : Handed → Left
left_by left = record { number = left.number; size = left.length; rate = left.rate; bank = left.bank; buffer = left.buffer }

-- rule D28, a reply without error went out: an error has five bytes
abbrev pub Replied : Handed → Type 0
Replied left = (left.number ≡ 0) × (6 ≤ left.length)

-- rule D29: two calls handed back the same number, length and rate, and the same reply
pub record HandedAlike (one other : Handed) : Type 0 where
  pub number : one.number ≡ other.number
  pub size : one.length ≡ other.length
  pub rate : one.rate ≡ other.rate
  pub buffer : one.buffer ≡ other.buffer
