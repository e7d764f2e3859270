-- The whole outcome of a call with one frame: what is handed back, the bank afterwards and the answer buffer afterwards. Assumes nothing.
use Rattle.std.specs.Prelude.{ℕ, cond, List, [], ◌∷◌, ◌++◌, eqb, length, Result, Ok, Err}
use Rattle.bank_rules.specs.Stores.{Store, stored}
use Rattle.bank_rules.specs.Bank.{rate_of}
use Rattle.lists.specs.Cases.{Case, when}
use Rattle.refusals.specs.declared.Refusal.{Refusal}
use Rattle.refusals.specs.declared.Refusal.TheVariants.{SmallBuffer}
use Rattle.refusals.specs.Answers.{refusal_number, answer_by, Answer}
use Rattle.bank_rules.specs.Calls.{Lent, effect_of}
use Rattle.meter_rules.specs.declared.Judged.{Judged}
use Rattle.meter_rules.specs.Steps.{judged_frame}
use Rattle.meter_rules.specs.Judgement.{lent_refusals}
use Rattle.meter_rules.specs.Reply.{error_code, reply_to, stores_of}
use Rattle.meter_rules.specs.declared.Answered.{Answered}
use Rattle.meter_rules.specs.declared.Answered.TheVariants.{Reply, Error, Silence}
use Rattle.frame.specs.Reply.{error_length, laid, small_buffer}

-- rules N0 to N5, N8 and F4: the number of each answer
abbrev pub answered_number : Result Answered Refusal → ℕ
answered_number (Ok (Reply length rate)) = 0
answered_number (Ok (Error code rate)) = 0
answered_number (Ok Silence) = 1
answered_number (Err refusal) = refusal_number refusal

-- rules N0, N1, N53 and N54: length and rate; with silence and refusals both are 0
abbrev pub length_in : Result Answered Refusal → ℕ
length_in (Ok (Reply length rate)) = length
length_in (Ok (Error code rate)) = error_length
length_in (Ok Silence) = 0
length_in (Err refusal) = 0

abbrev pub rate_in : Result Answered Refusal → ℕ
rate_in (Ok (Reply length rate)) = rate
rate_in (Ok (Error code rate)) = rate
rate_in (Ok Silence) = 0
rate_in (Err refusal) = 0

-- what a call hands back, the bank afterwards, and the answer buffer afterwards
pub record Outcome : Type 0 where
  pub answered : Result Answered Refusal
  pub bank : List ℕ
  pub buffer : List ℕ

abbrev pub outcome : Result Answered Refusal → List ℕ → List ℕ → Outcome
outcome answered bank buffer = record { answered = answered; bank = bank; buffer = buffer }

-- an error by its code; else a reply by its length, or silence where there is none
abbrev pub answered_by : ℕ → ℕ → ℕ → Answered
answered_by code length rate = cond (eqb code 0) (cond (eqb length 0) Silence (Reply length rate)) (Error code rate)

-- what becomes of a judged frame; rule R7: the rate is the bank's before the frame
unfoldable pub acted_on : Judged → Lent → List ℕ → List ℕ → Outcome
acted_on judged given frame buffer =
    outcome (Ok (answered_by (error_code judged) (length (reply_to judged given.bank given.ring frame)) (rate_of given.sheet given.bank)))
    (stored given.bank (stores_of judged given.sheet frame))
    (laid (reply_to judged given.bank given.ring frame) buffer)

-- rules N50 and N51: whether the call is refused
abbrev pub frame_refusals : Lent → List ℕ → List (Case Refusal)
frame_refusals given buffer = lent_refusals given ++ (when (small_buffer buffer) SmallBuffer ∷ [])

unfoldable pub frame_check : Lent → List ℕ → Answer
frame_check given buffer = answer_by (frame_refusals given buffer)

-- rule N52, the effect of a call with one frame: what the judged frame stores, none where the call is refused
abbrev pub frame_effect : Lent → List ℕ → List ℕ → List Store
frame_effect given frame buffer =
    effect_of (frame_check given buffer) (stores_of (judged_frame given frame) given.sheet frame)

-- rule N52: a refusal writes nothing
abbrev pub unless_refused : Answer → Lent → List ℕ → Outcome → Outcome
unless_refused (Ok tt) given buffer acted = acted
unless_refused (Err refusal) given buffer acted = outcome (Err refusal) given.bank buffer

-- unless the call is refused the frame is judged, and acted on
unfoldable pub answer_outcome : Lent → List ℕ → List ℕ → Outcome
answer_outcome given frame buffer =
    unless_refused (frame_check given buffer) given buffer (acted_on (judged_frame given frame) given frame buffer)
