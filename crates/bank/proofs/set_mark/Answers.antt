-- `bank::set_mark` meets its contract: the check's refusals first, then the mark's own, then the store. Assumes nothing.
use Rattle.std.proofs.Common.{◌≡◌, ℕ, ◌*◌, ◌%◌, ◌≤◌, not, [], ◌∷◌, refl, ap, ap₂, ◌∙◌, arith}
use Rattle.std.proofs.lemmas.Bool.{le-leb, lt-leb}
use Rattle.words.specs.Words.{with_word}
use Rattle.lists.specs.Cases.{Case, when, first_case}
use Rattle.refusals.specs.declared.Refusal.{Refusal}
use Rattle.refusals.specs.declared.Refusal.TheVariants.{BadInput}
use Rattle.refusals.proofs.Answers.{front_refuses, front_passes, refused_here, passed_here}
use Rattle.bank_rules.specs.Stores.{stored}
use Rattle.bank_rules.specs.Bank.{mark_stores}
use Rattle.bank_rules.specs.Calls.{lent, bad_mark, check_refusals, check_answer, mark_answer, mark_outcome}
use Rattle.bank.proofs.Refusals.{outcome_refused, outcome_done}
use Rattle.bank.proofs.set_mark.Goals as goal

abbrev own : ℕ → Case Refusal
own mark = when (bad_mark mark) BadInput

pub returns-in-Err : goal.returns-in-Err
unfolding mark_outcome mark_answer check_answer
returns-in-Err c =
    let a = c.args in
    let told = c.in-Err.is in
    outcome_refused a.bank.now (mark_stores a.sheet.now a.mark) refl
    (front_refuses (check_refusals (lent a.sheet.now a.bank.now)) (own a.mark ∷ []) c.check.ensures told)

pub returns-then-mark-gt1 : goal.returns-then-mark-gt1
unfolding mark_outcome mark_answer check_answer
returns-then-mark-gt1 c =
    let a = c.args in
    outcome_refused a.bank.now (mark_stores a.sheet.now a.mark) refl
    (front_passes (check_refusals (lent a.sheet.now a.bank.now)) (own a.mark ∷ []) c.check.ensures c.in-Ok.is
    ∙ refused_here (own a.mark) [] (ap not (lt-leb a.mark 1 c.if-mark-gt1.true)))

pub returns : goal.returns
unfolding mark_outcome mark_answer check_answer first_case stored
returns c =
    let a = c.args in
    let small : a.mark ≤ 1 = c.if-mark-gt1.false in
    let same : a.mark % 65536 ≡ a.mark = omega arith in
    outcome_done a.bank.now (mark_stores a.sheet.now a.mark)
    (front_passes (check_refusals (lent a.sheet.now a.bank.now)) (own a.mark ∷ []) c.check.ensures c.in-Ok.is
    ∙ passed_here (own a.mark) [] (ap not (le-leb a.mark 1 small)))
    (c.store_word.ensures ∙ ap₂ (λ (place word : ℕ). with_word a.bank.now (2 * place) word) c.bank_words.ensures same)
