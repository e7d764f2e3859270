-- `meter::check` meets its contract: the refusals of the bank's check, then the ring's. Assumes nothing.
use Rattle.std.proofs.Common.{sym, ◌∙◌}
use Rattle.meter_rules.proofs.Lending.{lent_refused, lent_misfits, lent_done}
use Rattle.meter.proofs.check.Goals as goal

pub returns-in-Err : goal.returns-in-Err
returns-in-Err c =
    let a = c.args in
    lent_refused a.sheet.now a.bank.now a.ring.now c.check.ensures c.in-Err.is

pub returns-then-not-fits : goal.returns-then-not-fits
returns-then-not-fits c =
    let a = c.args in
    lent_misfits a.sheet.now a.bank.now a.ring.now c.check.ensures c.in-Ok.is (sym c.fits.ensures ∙ c.if-not-fits.true)

pub returns : goal.returns
returns c =
    let a = c.args in
    lent_done a.sheet.now a.bank.now a.ring.now c.check.ensures c.in-Ok.is (sym c.fits.ensures ∙ c.if-not-fits.false)
