-- The outcome of a call, from what the check of sheet, bank and ring answers and from the size of the buffer. Assumes nothing.
use mathlib.Core.Path.{◌≡◌, sym, ap, ◌∙◌}
use mathlib.Core.Bool.{true, false}
use mathlib.Core.List.{List, [], ◌∷◌}
use Prim.Native.Nat.{ℕ}
use Rattle.std.specs.Prelude.{Err}
use Rattle.lists.specs.Cases.{Case, when, first_case}
use Rattle.refusals.specs.declared.Refusal.{Refusal}
use Rattle.refusals.specs.declared.Refusal.TheVariants.{SmallBuffer}
use Rattle.refusals.proofs.Answers.{front_refuses, front_passes, refused_here, passed_here}
use Rattle.refusals.specs.Answers.{Answer, call_done}
use Rattle.bank_rules.specs.Calls.{Lent}
use Rattle.meter_rules.specs.Judgement.{lent_refusals, lent_answer}
use Rattle.meter_rules.specs.Steps.{judged_frame}
use Rattle.frame.specs.Reply.{small_buffer}
use Rattle.meter_rules.specs.Answer.{Outcome, outcome, frame_check, unless_refused, acted_on, answer_outcome}

module _ (given : Lent) (frame buffer : List ℕ) {checked : Answer} (is : checked ≡ lent_answer given) where
  abbrev acted : Outcome
  acted = acted_on (judged_frame given frame) given frame buffer

  -- the refusal behind that check
  abbrev small : Case Refusal
  small = when (small_buffer buffer) SmallBuffer

  by : {told : Answer} → frame_check given buffer ≡ told → unless_refused told given buffer acted ≡ answer_outcome given frame buffer
  unfolding answer_outcome
  by e = ap (λ (a : Answer). unless_refused a given buffer acted) (sym e)

  pub answer_refused : {refusal : Refusal} → checked ≡ Err refusal
      → outcome (Err refusal) given.bank buffer ≡ answer_outcome given frame buffer
  unfolding frame_check lent_answer
  answer_refused told = by (front_refuses (lent_refusals given) (small ∷ []) is told)

  pub answer_small : checked ≡ call_done → small_buffer buffer ≡ true → outcome (Err SmallBuffer) given.bank buffer ≡ answer_outcome given frame buffer
  unfolding frame_check lent_answer
  answer_small told few = by (front_passes (lent_refusals given) (small ∷ []) is told ∙ refused_here small [] few)

  pub answer_acted : checked ≡ call_done → small_buffer buffer ≡ false → acted ≡ answer_outcome given frame buffer
  unfolding frame_check lent_answer first_case
  answer_acted told enough = by (front_passes (lent_refusals given) (small ∷ []) is told ∙ passed_here small [] enough)
