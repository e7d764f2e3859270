-- What the firmware is handed: the numbers of sections N, Y and Q of the rules, and the lent buffers as they are afterwards. Assumes nothing.
use Rattle.std.specs.Prelude.{ℕ, List, Result, Ok, Err}
use Rattle.refusals.specs.declared.Refusal.{Refusal}
use Rattle.refusals.specs.Answers.{refusal_number, answer_number, call_done}
use Rattle.bank_rules.specs.Calls.{BankOutcome}
use Rattle.ring_rules.specs.Calls.{RingOutcome}
use Rattle.meter_rules.specs.Answer.{Outcome, answered_number, length_in, rate_in}
use Rattle.controller_rules.specs.Query.{QueryOutcome, built_number, built_length}
use Rattle.controller_rules.specs.Reading.{ReplyOutcome, reading_number, reading_length, reading_error}
use Rattle.why_rules.specs.Reasons.{explained_number, reason_in, address_in, side_in, Explained}

-- rule N0: the number of an answer of which nothing but the refusal has a number
abbrev pub number_in : {T : Type 0} → Result T Refusal → ℕ
number_in (Ok value) = answer_number call_done
number_in (Err refusal) = refusal_number refusal

-- rule N53: the number of a call on a bank, and the bank afterwards
pub record Told : Type 0 where
  pub number : ℕ
  pub bank : List ℕ

abbrev pub told : ℕ → List ℕ → Told
told number bank = record { number = number; bank = bank }

abbrev pub told_of : BankOutcome → Told
told_of outcome = told (answer_number outcome.answer) outcome.bank

-- rule N53: the number of a call that adds a record, and the ring afterwards
pub record RingTold : Type 0 where
  pub number : ℕ
  pub ring : List ℕ

abbrev pub ring_told : ℕ → List ℕ → RingTold
ring_told number ring = record { number = number; ring = ring }

abbrev pub ring_told_of : RingOutcome → RingTold
ring_told_of outcome = ring_told (answer_number outcome.answer) outcome.ring

-- the number, the length and the rate of a call with one frame, and the bank and the answer buffer afterwards
pub record Handed : Type 0 where
  pub number : ℕ
  pub length : ℕ
  pub rate : ℕ
  pub bank : List ℕ
  pub buffer : List ℕ

abbrev pub handed : ℕ → ℕ → ℕ → List ℕ → List ℕ → Handed
handed number length rate bank buffer = record { number = number; length = length; rate = rate; bank = bank; buffer = buffer }

abbrev pub handed_of : Outcome → Handed
handed_of outcome =
    handed (answered_number outcome.answered) (length_in outcome.answered) (rate_in outcome.answered) outcome.bank
    outcome.buffer

-- rules Y2 and Y3: the number of a call that asks for the reason, the reason, the address and the side
pub record Said : Type 0 where
  pub number : ℕ
  pub reason : ℕ
  pub address : ℕ
  pub side : ℕ

abbrev pub said : ℕ → ℕ → ℕ → ℕ → Said
said number reason address side = record { number = number; reason = reason; address = address; side = side }

abbrev pub said_of : Explained → Said
said_of explained = said (explained_number explained) (reason_in explained) (address_in explained) (side_in explained)

-- rule Q23: the number and the length of a call that builds a query, and the buffer afterwards
pub record QueryTold : Type 0 where
  pub number : ℕ
  pub length : ℕ
  pub buffer : List ℕ

abbrev pub query_told : ℕ → ℕ → List ℕ → QueryTold
query_told number length buffer = record { number = number; length = length; buffer = buffer }

abbrev pub query_told_of : QueryOutcome → QueryTold
query_told_of outcome = query_told (built_number outcome.built) (built_length outcome.built) outcome.buffer

-- rule Q41: the number, the length and the error code of a call that reads a reply, and the buffer afterwards
pub record ReplyTold : Type 0 where
  pub number : ℕ
  pub length : ℕ
  pub error : ℕ
  pub buffer : List ℕ

abbrev pub reply_told : ℕ → ℕ → ℕ → List ℕ → ReplyTold
reply_told number length error buffer = record { number = number; length = length; error = error; buffer = buffer }

abbrev pub reply_told_of : ReplyOutcome → ReplyTold
reply_told_of outcome =
    reply_told (reading_number outcome.reading) (reading_length outcome.reading) (reading_error outcome.reading) outcome.buffer
