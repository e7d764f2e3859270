-- `bank::check` meets its contract: the sheet and the size first, then the bank's soundness. Assumes nothing.
use Rattle.std.proofs.Common.{not, [], ◌∷◌, sym, ap, ◌∙◌}
use Rattle.lists.specs.Cases.{Case, when, first_case}
use Rattle.refusals.specs.declared.Refusal.{Refusal}
use Rattle.refusals.specs.declared.Refusal.TheVariants.{UnsoundBank}
use Rattle.refusals.proofs.Answers.{front_refuses, front_passes, refused_here, passed_here}
use Rattle.bank_rules.specs.Calls.{Lent, lent, unsound_bank, fresh_refusals, fresh_answer, check_answer}
use Rattle.bank_rules.proofs.Changes.{fresh_passed}
use Rattle.bank.proofs.check.Goals as goal

abbrev whole : Lent → Case Refusal
whole given = when (unsound_bank given) UnsoundBank

pub returns-in-Err : goal.returns-in-Err
unfolding check_answer fresh_answer
returns-in-Err c =
    let given : Lent = lent c.args.sheet.now c.args.bank.now in
    let told = c.in-Err.is in
    sym (front_refuses (fresh_refusals given) (whole given ∷ []) c.check_size.ensures told)

pub invariant_of-sound : goal.invariant_of-sound
invariant_of-sound c = record { keeps = (fresh_passed (lent c.args.sheet.now c.args.bank.now) (sym c.check_size.ensures ∙ c.in-Ok.is)).0 }

pub returns-then-not-sound : goal.returns-then-not-sound
unfolding check_answer fresh_answer
returns-then-not-sound c =
    let given : Lent = lent c.args.sheet.now c.args.bank.now in
    sym
    (front_passes (fresh_refusals given) (whole given ∷ []) c.check_size.ensures c.in-Ok.is
    ∙ refused_here (whole given) [] (ap not (sym c.sound.ensures ∙ c.if-not-sound.true)))

pub returns : goal.returns
unfolding check_answer fresh_answer first_case
returns c =
    let given : Lent = lent c.args.sheet.now c.args.bank.now in
    sym
    (front_passes (fresh_refusals given) (whole given ∷ []) c.check_size.ensures c.in-Ok.is
    ∙ passed_here (whole given) [] (ap not (sym c.sound.ensures ∙ c.if-not-sound.false)))
