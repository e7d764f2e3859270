-- `bank_steps::check_size` meets its contract: the sheet's refusal first, then the bank's size. Assumes nothing.
use Rattle.std.proofs.Common.{◌≡◌, ℕ, ◌+◌, ◌*◌, Bool, not, [], ◌∷◌, length, sym, ap, ◌∙◌, eq-eqb, ne_eqb}
use lib.Dec.{eqb}
use Rattle.lists.specs.Cases.{Case, when, first_case}
use Rattle.refusals.specs.declared.Refusal.{Refusal}
use Rattle.refusals.specs.declared.Refusal.TheVariants.{MisfittingBank}
use Rattle.refusals.proofs.Answers.{front_refuses, front_passes, refused_here, passed_here}
use Rattle.sheet_rules.specs.Rows.{bank_words}
use Rattle.sheet_rules.specs.Rules.{sheet_refusals}
use Rattle.bank_rules.specs.Calls.{Lent, lent, misfitting_bank, fresh_answer}
use Rattle.bank_steps.proofs.check_size.Goals as goal

-- the size, tested by the number of words at hand
size_tested : (given : Lent) {words : ℕ} {same : Bool} → words ≡ bank_words given.sheet → eqb (length given.bank) (2 * words + 2) ≡ same
    → misfitting_bank given ≡ not same
size_tested given e tested = ap not (ap (λ (n : ℕ). eqb (length given.bank) (2 * n + 2)) (sym e) ∙ tested)

abbrev size : Lent → Case Refusal
size given = when (misfitting_bank given) MisfittingBank

pub returns-in-Err : goal.returns-in-Err
unfolding fresh_answer
returns-in-Err c =
    let a = c.args in
    let told = c.in-Err.is in
    sym (front_refuses (sheet_refusals a.sheet.now) (size (lent a.sheet.now a.bank.now) ∷ []) c.check.ensures told)

pub returns-then-bank-bank_words : goal.returns-then-bank-bank_words
unfolding fresh_answer
returns-then-bank-bank_words c =
    let a = c.args in
    let given : Lent = lent a.sheet.now a.bank.now in
    let words = c.bank_words in
    sym
    (front_passes (sheet_refusals a.sheet.now) (size given ∷ []) c.check.ensures c.in-Ok.is
    ∙ refused_here (size given) [] (size_tested given words.ensures (ne_eqb (length a.bank.now) (2 * words.result + 2) c.if-bank-bank_words.true)))

pub returns : goal.returns
unfolding fresh_answer first_case
returns c =
    let a = c.args in
    let given : Lent = lent a.sheet.now a.bank.now in
    let words = c.bank_words in
    sym
    (front_passes (sheet_refusals a.sheet.now) (size given ∷ []) c.check.ensures c.in-Ok.is
    ∙ passed_here (size given) [] (size_tested given words.ensures (eq-eqb (length a.bank.now) (2 * words.result + 2) c.if-bank-bank_words.false)))
