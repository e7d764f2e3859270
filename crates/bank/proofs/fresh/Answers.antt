-- `bank::fresh` meets its contract: the refusals, then the stores of a fresh bank. Assumes nothing.
use Rattle.std.proofs.Common.{refl, sym, ◌∙◌}
use Rattle.bank_rules.specs.Bank.{fresh_stores}
use Rattle.bank_rules.specs.Calls.{lent, fresh_outcome}
use Rattle.bank_rules.proofs.Changes.{fresh_passed}
use Rattle.bank.proofs.Refusals.{outcome_refused, outcome_done}
use Rattle.bank.proofs.fresh.Goals as goal

pub returns-in-Err : goal.returns-in-Err
unfolding fresh_outcome
returns-in-Err c =
    let told = c.in-Err.is in
    outcome_refused c.args.bank.now (fresh_stores c.args.sheet.now) refl (sym c.check_size.ensures ∙ told)

pub invariant_of-store_fresh : goal.invariant_of-store_fresh
invariant_of-store_fresh c = record { keeps = (fresh_passed (lent c.args.sheet.now c.args.bank.now) (sym c.check_size.ensures ∙ c.in-Ok.is)).0 }

pub returns : goal.returns
unfolding fresh_outcome
returns c =
    outcome_done c.args.bank.now (fresh_stores c.args.sheet.now) (sym c.check_size.ensures ∙ c.in-Ok.is) c.store_fresh.ensures
