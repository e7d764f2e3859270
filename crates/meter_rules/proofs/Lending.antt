-- What is refused of sheet, bank and ring: what the check of the bank refuses, then a ring that does not go with the sheet. Assumes nothing.
use mathlib.Core.Path.{◌≡◌, refl, sym, ap, ◌∙◌}
use mathlib.Core.Bool.{true, false, not}
use mathlib.Core.List.{List, [], ◌∷◌}
use Prim.Native.Nat.{ℕ}
use borrow.Author.Tests.{not-false}
use Rattle.std.specs.Prelude.{Err}
use Rattle.lists.specs.Cases.{Case, when, first_case, InOrder}
use Rattle.lists.proofs.Cases.{differ}
use Rattle.refusals.specs.declared.Refusal.{Refusal}
use Rattle.refusals.specs.declared.Refusal.TheVariants.{BadRing}
use Rattle.refusals.proofs.Answers.{front_refuses, front_passes, refused_here, passed_here, done_none, numbers_in_order}
use Rattle.refusals.specs.Answers.{answer_number, Answer, call_done}
use Rattle.sheet_rules.specs.Rules.{broken_sheet}
use Rattle.bank_rules.specs.Calls.{Lent, lent, lent_with, misfitting_bank, unsound_bank, check_refusals, check_answer}
use Rattle.bank_rules.proofs.Changes.{Passed, passed}
use Rattle.ring_rules.specs.Calls.{ring_fits, bad_ring}
use Rattle.meter_rules.specs.Judgement.{lent_refusals, lent_answer}

-- the ring is not looked at by the check of the bank
module _ (sheet bank ring : List ℕ) {checked : Answer} (is : checked ≡ check_answer (lent sheet bank)) where
  abbrev given : Lent
  given = lent_with sheet bank ring

  abbrev misfits : Case Refusal
  misfits = when (bad_ring sheet ring) BadRing

  pub lent_refused : {refusal : Refusal} → checked ≡ Err refusal → Err refusal ≡ lent_answer given
  unfolding lent_answer check_answer
  lent_refused told = sym (front_refuses (check_refusals given) (misfits ∷ []) is told)

  pub lent_misfits : checked ≡ call_done → ring_fits sheet ring ≡ false → Err BadRing ≡ lent_answer given
  unfolding lent_answer check_answer
  lent_misfits told bad = sym (front_passes (check_refusals given) (misfits ∷ []) is told ∙ refused_here misfits [] (ap not bad))

  pub lent_done : checked ≡ call_done → ring_fits sheet ring ≡ true → call_done ≡ lent_answer given
  unfolding lent_answer check_answer first_case
  lent_done told good = sym (front_passes (check_refusals given) (misfits ∷ []) is told ∙ passed_here misfits [] (ap not good))

-- where nothing of them is refused
pub lent_passed : (given : Lent) → lent_answer given ≡ call_done → Passed given × (ring_fits given.sheet given.ring ≡ true)
unfolding lent_answer
lent_passed given done =
    let none = done_none (lent_refusals given) done in
    (passed given (bad_ring given.sheet given.ring ∷ []) none, not-false (ring_fits given.sheet given.ring) none.1.1.1.0)

-- each number of a refusal is handed back exactly if its condition holds and none does that comes before it
pub lent_numbers : (given : Lent) → InOrder (answer_number (lent_answer given)) []
    (when (broken_sheet given.sheet) 2 ∷ when (misfitting_bank given) 3 ∷ when (unsound_bank given) 4 ∷ when (bad_ring given.sheet given.ring) 8 ∷ [])
unfolding lent_answer differ
lent_numbers given = numbers_in_order (lent_refusals given) refl
