-- What a call with one frame comes to: a refusal leaves the bank, and else the frame is acted on; a reply has 5 to 99 bytes (rule R8) and
-- passes the check; only good clears and writes change the bank, and writes that stop at a bad item (rule K9). Assumes nothing.
use mathlib.Core.Path.{◌≡◌, refl, sym, ap, ◌∙◌}
use mathlib.Core.Bool.{Bool, true, false, cond, false≢true}
use mathlib.Core.List.{List, [], ◌∷◌}
use Prim.Native.Nat.{ℕ, ◌≤◌}
use native.Mathlib.Omega.{arith}
use lib.ListN.{length, take, drop}
use lib.Seq.{take_at}
use lib.Dec.{eqb}
use borrow.Author.Tests.{eq-eqb, ne_eqb, eqb-true, eqb-false, not-false}
use Rattle.std.specs.Prelude.{Ok, Err}
use Rattle.check_value.specs.Frame.{passes}
use Rattle.frame.specs.Reply.{error_reply, with_check, small_buffer}
use Rattle.refusals.specs.declared.Refusal.{Refusal}
use Rattle.refusals.proofs.Numbers.{refusal_from_two}
use Rattle.refusals.specs.Answers.{answer_number, Answer, call_done}
use Rattle.refusals.proofs.Answers.{done_none, numbers_in_order}
use Rattle.lists.specs.Cases.{when, InOrder}
use Rattle.lists.proofs.Cases.{differ}
use Rattle.sheet_rules.specs.Rules.{broken_sheet}
use Rattle.bank_rules.specs.Stores.{stored}
use Rattle.bank_rules.specs.Bank.{rate_of}
use Rattle.bank_rules.specs.Calls.{Lent, misfitting_bank, unsound_bank, effect_of}
use Rattle.bank_rules.proofs.Changes.{Passed, passed}
use Rattle.ring_rules.specs.Calls.{ring_fits, bad_ring}
use Rattle.meter_rules.specs.declared.Judged.{Judged}
use Rattle.meter_rules.specs.declared.Judged.TheVariants.{FailsCheck, OtherStation, FunctionNotAllowed, WrongLength, WrongCount, WrongAddress, WrongValue, BadItem, GoodRead, GoodRecord, GoodClear, GoodWrite}
use Rattle.meter_rules.specs.Steps.{judged_frame}
use Rattle.meter_rules.specs.Reply.{error_code, good_reply, reply_to, stores_of}
use Rattle.meter_rules.specs.Answer.{Outcome, outcome, answered_number, length_in, answered_by, frame_refusals, frame_check, frame_effect, unless_refused, acted_on, answer_outcome}
use Rattle.meter_rules.proofs.Closing.{read_fits, judged_fits, reply_sized, reply_passes}
use Rattle.meter_rules.specs.declared.Answered.{Answered}
use Rattle.meter_rules.specs.declared.Answered.TheVariants.{Reply, Error, Silence}

-- ---- a refusal, or what becomes of the frame

module _ (given : Lent) (frame buffer : List ℕ) where
  abbrev acted : Outcome
  acted = acted_on (judged_frame given frame) given frame buffer

  -- a call that is not refused: its sheet is sound, its bank fits it and is sound, and its ring goes with it
  pub frame_passed : frame_check given buffer ≡ call_done → Passed given × (ring_fits given.sheet given.ring ≡ true)
  unfolding frame_check
  frame_passed done =
      let none = done_none (frame_refusals given buffer) done in
      (passed given (bad_ring given.sheet given.ring ∷ small_buffer buffer ∷ []) none, not-false (ring_fits given.sheet given.ring) none.1.1.1.0)

  -- what holds of every refusal, which leaves the bank and the buffer, and of what becomes of the frame over a sound sheet, a bank that
  -- fits it and is sound, and a ring that goes with it, holds of the call
  pub outcome_cases : (P : Outcome → Type 0) → ((refusal : Refusal) → P (outcome (Err refusal) given.bank buffer))
      → (Passed given → ring_fits given.sheet given.ring ≡ true → P acted) → P (answer_outcome given frame buffer)
  unfolding answer_outcome
  outcome_cases P refused passes_on = go (frame_check given buffer) refl
    where
      go : (answer : Answer) → frame_check given buffer ≡ answer → P (unless_refused answer given buffer acted)
      go (Ok tt) e = passes_on (frame_passed e).0 (frame_passed e).1
      go (Err refusal) e = refused refusal

  -- the bank afterwards is the bank with the effect of the call
  pub answer_stored : (answer_outcome given frame buffer).bank ≡ stored given.bank (frame_effect given frame buffer)
  unfolding answer_outcome acted_on stored
  answer_stored = go (frame_check given buffer)
    where
      go : (answer : Answer) → (unless_refused answer given buffer acted).bank ≡ stored given.bank (effect_of answer (stores_of (judged_frame given frame) given.sheet frame))
      go (Ok tt) = refl
      go (Err refusal) = refl

-- each number of a refusal is handed back exactly if its condition holds and none does that comes before it
pub frame_numbers : (given : Lent) (buffer : List ℕ) → InOrder (answer_number (frame_check given buffer)) []
    (when (broken_sheet given.sheet) 2 ∷ when (misfitting_bank given) 3 ∷ when (unsound_bank given) 4
    ∷ when (bad_ring given.sheet given.ring) 8 ∷ when (small_buffer buffer) 5 ∷ [])
unfolding frame_check differ
frame_numbers given buffer = numbers_in_order (frame_refusals given buffer) refl

-- ---- silence, a reply or an error

pub answered_cases : (P : Answered → Type 0) (code n rate : ℕ) → (code ≡ 0 → n ≡ 0 → P Silence) → (code ≡ 0 → (n ≡ 0 → ⊥) → P (Reply n rate))
    → ((code ≡ 0 → ⊥) → P (Error code rate)) → P (answered_by code n rate)
answered_cases P code n rate silent replied erred = go (eqb code 0) (eqb n 0) refl refl
  where
    go : (fine none : Bool) → eqb code 0 ≡ fine → eqb n 0 ≡ none → P (cond fine (cond none Silence (Reply n rate)) (Error code rate))
    go true true c e = silent (eqb-true code 0 c) (eqb-true n 0 e)
    go true false c e = replied (eqb-true code 0 c) (eqb-false n 0 e)
    go false none c e = erred (eqb-false code 0 c)

module _ (judged : Judged) (bank ring frame : List ℕ) where
  pub good_reply_lem : error_code judged ≡ 0 → reply_to judged bank ring frame ≡ good_reply judged bank ring frame
  unfolding reply_to
  good_reply_lem none = simp (eq-eqb (error_code judged) 0 none)

  pub error_reply_lem : (error_code judged ≡ 0 → ⊥) → reply_to judged bank ring frame ≡ with_check (error_reply frame (error_code judged))
  unfolding reply_to
  error_reply_lem some = simp (ne_eqb (error_code judged) 0 some)

  module _ (rate : ℕ) where
    abbrev answers : Answered
    answers = answered_by (error_code judged) (length (reply_to judged bank ring frame)) rate

    -- the length that is handed back is that of the reply, and with number 0 there is one
    pub answered_length : length_in (Ok answers) ≡ length (reply_to judged bank ring frame)
    unfolding with_check
    answered_length =
        answered_cases (λ a. length_in (Ok a) ≡ length (reply_to judged bank ring frame)) (error_code judged) (length (reply_to judged bank ring frame)) rate
        (λ fine none. sym none) (λ fine some. refl) (λ some. sym (ap length (error_reply_lem some)))

    pub answered_some : answered_number (Ok answers) ≡ 0 → reply_to judged bank ring frame ≡ [] → ⊥
    unfolding with_check
    answered_some =
        answered_cases (λ a. answered_number (Ok a) ≡ 0 → reply_to judged bank ring frame ≡ [] → ⊥) (error_code judged) (length (reply_to judged bank ring frame)) rate
        (λ fine none e. absurd (omega arith)) (λ fine some e none. some (ap length none))
        (λ some e none. omega (arith, ap length (error_reply_lem some), ap length none))

    -- it refuses nothing
    pub answered_takes : answered_number (Ok answers) ≤ 1
    answered_takes =
        answered_cases (λ a. answered_number (Ok a) ≤ 1) (error_code judged) (length (reply_to judged bank ring frame)) rate
        (λ fine none. omega arith) (λ fine some. omega arith) (λ some. omega arith)

-- ---- a reply has 5 to 99 bytes, stands in the first bytes of the buffer, and passes the check

pub record Sized (outcome : Outcome) : Type 0 where
  pub least : 5 ≤ length_in outcome.answered
  pub most : length_in outcome.answered ≤ 99
  pub checked : passes (take (length_in outcome.answered) outcome.buffer) ≡ true

acted_sized : (judged : Judged) (given : Lent) (frame buffer : List ℕ) → read_fits judged ≡ true
    → answered_number (acted_on judged given frame buffer).answered ≡ 0 → Sized (acted_on judged given frame buffer)
unfolding acted_on
acted_sized judged given frame buffer fits e =
    let reply : List ℕ = reply_to judged given.bank given.ring frame in
    let some = answered_some judged given.bank given.ring frame (rate_of given.sheet given.bank) e in
    let long = answered_length judged given.bank given.ring frame (rate_of given.sheet given.bank) in
    let sized = reply_sized judged given.bank given.ring frame fits some in
    record {
      least = omega (arith, sized.0);
      most = omega (arith, sized.1);
      checked = ap passes (take_at reply (drop (length reply) buffer) _ (sym long)) ∙ reply_passes judged given.bank given.ring frame fits some;
    }

pub answer_sized : (given : Lent) (frame buffer : List ℕ) → answered_number (answer_outcome given frame buffer).answered ≡ 0
    → Sized (answer_outcome given frame buffer)
answer_sized given frame buffer =
    outcome_cases given frame buffer (λ o. answered_number o.answered ≡ 0 → Sized o)
    (λ refusal e. absurd (omega (arith, refusal_from_two refusal)))
    (λ found ringed. acted_sized (judged_frame given frame) given frame buffer (judged_fits given frame found.right))

-- ---- what leaves the bank as it is

-- a judgement that stores nothing
abbrev pub quiet : Judged → Bool
quiet FailsCheck = true
quiet OtherStation = true
quiet FunctionNotAllowed = true
quiet WrongLength = true
quiet WrongCount = true
quiet WrongAddress = true
quiet WrongValue = true
quiet (BadItem first stop side) = false
quiet (GoodRead first many) = true
quiet (GoodRecord first many) = true
quiet GoodClear = false
quiet (GoodWrite first many) = false

pub quiet_stores : (judged : Judged) (sheet frame : List ℕ) → quiet judged ≡ true → stores_of judged sheet frame ≡ []
unfolding stores_of
quiet_stores FailsCheck sheet frame e = refl
quiet_stores OtherStation sheet frame e = refl
quiet_stores FunctionNotAllowed sheet frame e = refl
quiet_stores WrongLength sheet frame e = refl
quiet_stores WrongCount sheet frame e = refl
quiet_stores WrongAddress sheet frame e = refl
quiet_stores WrongValue sheet frame e = refl
quiet_stores (BadItem first stop side) sheet frame e = absurd (false≢true e)
quiet_stores (GoodRead first many) sheet frame e = refl
quiet_stores (GoodRecord first many) sheet frame e = refl
quiet_stores GoodClear sheet frame e = absurd (false≢true e)
quiet_stores (GoodWrite first many) sheet frame e = absurd (false≢true e)

pub quiet_changes_nothing : (judged : Judged) (given : Lent) (frame buffer : List ℕ) → quiet judged ≡ true
    → (acted_on judged given frame buffer).bank ≡ given.bank
unfolding acted_on stored
quiet_changes_nothing judged given frame buffer e = ap (stored given.bank) (quiet_stores judged given.sheet frame e)

pub quiet_answer : (given : Lent) (frame buffer : List ℕ) → quiet (judged_frame given frame) ≡ true
    → (answer_outcome given frame buffer).bank ≡ given.bank
quiet_answer given frame buffer e =
    outcome_cases given frame buffer (λ o. o.bank ≡ given.bank) (λ refusal. refl)
    (λ found ringed. quiet_changes_nothing (judged_frame given frame) given frame buffer e)

-- a refusal leaves the bank and the buffer
pub refused_as_before : (given : Lent) (frame buffer : List ℕ) (refusal : Refusal) → (answer_outcome given frame buffer).answered ≡ Err refusal
    → ((answer_outcome given frame buffer).bank ≡ given.bank) × ((answer_outcome given frame buffer).buffer ≡ buffer)
unfolding acted_on
refused_as_before given frame buffer refusal =
    outcome_cases given frame buffer (λ o. o.answered ≡ Err refusal → (o.bank ≡ given.bank) × (o.buffer ≡ buffer))
    (λ other e. (refl, refl))
    (λ found ringed e. absurd (omega (
      arith,
      refusal_from_two refusal,
      ap answered_number e,
      answered_takes (judged_frame given frame) given.bank given.ring frame (rate_of given.sheet given.bank),
    )))
