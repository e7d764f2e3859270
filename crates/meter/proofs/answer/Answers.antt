-- `meter::answer` meets its contract: the refusals in their order, then what becomes of the judged frame.
-- Assumes nothing.
use Rattle.std.proofs.Common.{sym, ap, ◌∙◌, length, lt-ltb, le-ltb}
use Rattle.bank_rules.specs.Calls.{lent_with}
use Rattle.frame.specs.Reply.{least_buffer}
use Rattle.meter_rules.specs.declared.Judged.{Judged}
use Rattle.meter_rules.specs.Answer.{acted_on}
use Rattle.meter_rules.proofs.Lending.{lent_passed}
use Rattle.meter_rules.proofs.Closing.{judged_room}
use Rattle.meter.proofs.Answering.{answer_refused, answer_small, answer_acted}
use Rattle.meter.proofs.answer.Goals as goal

pub returns-in-Err : goal.returns-in-Err
returns-in-Err c =
    let a = c.args in
    let given = lent_with a.sheet.now a.bank.now a.ring.now in
    answer_refused given a.frame.now a.buffer.now c.check.ensures c.in-Err.is

pub returns-then-buffer-lt-LEAST_BUFFER : goal.returns-then-buffer-lt-LEAST_BUFFER
returns-then-buffer-lt-LEAST_BUFFER c =
    let a = c.args in
    answer_small (lent_with a.sheet.now a.bank.now a.ring.now) a.frame.now a.buffer.now c.check.ensures c.in-Ok.is
    (lt-ltb (length a.buffer.now) least_buffer c.if-buffer-lt-LEAST_BUFFER.true)

pub invariant_of-kept : goal.invariant_of-kept
invariant_of-kept c =
    let a = c.args in
    record { keeps = (lent_passed (lent_with a.sheet.now a.bank.now a.ring.now) (sym c.check.ensures ∙ c.in-Ok.is)).0.right }

pub acted-requires : goal.acted-requires
acted-requires c =
    let a = c.args in
    let given = lent_with a.sheet.now a.bank.now a.ring.now in
    judged_room given a.frame.now a.buffer.now (lent_passed given (sym c.check.ensures ∙ c.in-Ok.is)).0.right c.judged_frame-judged.ensures
    c.if-buffer-lt-LEAST_BUFFER.false

pub returns : goal.returns
returns c =
    let a = c.args in
    let given = lent_with a.sheet.now a.bank.now a.ring.now in
    c.acted.ensures
    ∙ ap (λ (j : Judged). acted_on j given a.frame.now a.buffer.now) c.judged_frame-judged.ensures
    ∙ answer_acted given a.frame.now a.buffer.now c.check.ensures c.in-Ok.is (le-ltb (length a.buffer.now) least_buffer c.if-buffer-lt-LEAST_BUFFER.false)
