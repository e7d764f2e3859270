-- The judgement of a frame by what a call is lent, with nothing done. Assumes nothing.
use Rattle.std.specs.Prelude.{ℕ, List, [], ◌∷◌, ◌++◌, Ok, Err, Result}
use Rattle.lists.specs.Cases.{Case, when}
use Rattle.refusals.specs.declared.Refusal.{Refusal}
use Rattle.refusals.specs.declared.Refusal.TheVariants.{BadRing}
use Rattle.refusals.specs.Answers.{answer_by, Answer}
use Rattle.bank_rules.specs.Calls.{Lent, check_refusals}
use Rattle.ring_rules.specs.Calls.{bad_ring}
use Rattle.meter_rules.specs.declared.Judged.{Judged}
use Rattle.meter_rules.specs.Steps.{judged_frame}

-- rules N50 and N51, what is refused of sheet, bank and ring
abbrev pub lent_refusals : Lent → List (Case Refusal)
lent_refusals given = check_refusals given ++ (when (bad_ring given.sheet given.ring) BadRing ∷ [])

unfoldable pub lent_answer : Lent → Answer
lent_answer given = answer_by (lent_refusals given)

-- refused, or where the frame stops
abbrev pub Judgement : Type 0
Judgement = Result Judged Refusal

abbrev pub judgement_by : Answer → Judged → Judgement
judgement_by (Ok tt) judged = Ok judged
judgement_by (Err refusal) judged = Err refusal

-- rule N50 without the buffer: sheet, bank and ring are checked first, then the frame is judged
unfoldable pub judgement : Lent → List ℕ → Judgement
judgement given frame = judgement_by (lent_answer given) (judged_frame given frame)
