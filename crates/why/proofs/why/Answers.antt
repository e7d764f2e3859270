-- `why::why` meets its contract: what the judgement refuses, and what is told of where it stops. Assumes nothing.
use Rattle.std.proofs.Common.{sym, ap, ◌∙◌, Ok}
use Rattle.bank_rules.specs.Calls.{lent_with}
use Rattle.why.proofs.Telling.{explained_of, explained}
use Rattle.why.proofs.why.Goals as goal
use Rattle.meter_rules.specs.Judgement.{Judgement}

pub returns-in-Err : goal.returns-in-Err
returns-in-Err c =
    let a = c.args in
    ap (λ (j : Judgement). explained_of j a.sheet.now a.frame.now) (sym c.in-Err.is ∙ c.judge.ensures)
    ∙ explained (lent_with a.sheet.now a.bank.now a.ring.now) a.frame.now

pub returns-in-Ok : goal.returns-in-Ok
returns-in-Ok c =
    let a = c.args in
    ap Ok c.reason_by.ensures
    ∙ ap (λ (j : Judgement). explained_of j a.sheet.now a.frame.now) (sym c.in-Ok.is ∙ c.judge.ensures)
    ∙ explained (lent_with a.sheet.now a.bank.now a.ring.now) a.frame.now
