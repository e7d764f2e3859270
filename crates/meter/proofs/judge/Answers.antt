-- `meter::judge` meets its contract: the refusals of the bank's check, then where the frame stops. Assumes nothing.
use Rattle.std.proofs.Common.{sym, ap, ◌∙◌, Ok}
use Rattle.bank_rules.specs.Calls.{lent_with}
use Rattle.meter_rules.proofs.Lending.{lent_passed}
use Rattle.meter_rules.specs.Steps.{judged_frame}
use Rattle.meter_rules.specs.Judgement.{judgement_by, judgement}
use Rattle.meter.proofs.judge.Goals as goal
use Rattle.refusals.specs.Answers.{Answer}

pub returns-in-Err : goal.returns-in-Err
unfolding judgement
returns-in-Err c =
    let a = c.args in
    let given = lent_with a.sheet.now a.bank.now a.ring.now in
    ap (λ (answer : Answer). judgement_by answer (judged_frame given a.frame.now)) (sym c.in-Err.is ∙ c.check.ensures)

pub invariant_of-sheet : goal.invariant_of-sheet
invariant_of-sheet c =
    let a = c.args in
    record { keeps = (lent_passed (lent_with a.sheet.now a.bank.now a.ring.now) (sym c.check.ensures ∙ c.in-Ok.is)).0.right }

pub returns : goal.returns
unfolding judgement
returns c =
    let a = c.args in
    let given = lent_with a.sheet.now a.bank.now a.ring.now in
    ap Ok c.judged_frame.ensures ∙ ap (λ (answer : Answer). judgement_by answer (judged_frame given a.frame.now)) (sym c.in-Ok.is ∙ c.check.ensures)
