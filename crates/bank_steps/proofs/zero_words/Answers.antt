-- `bank_steps::zero_words` meets its contract: one store more, and at the end none is left. Assumes nothing.
use Rattle.std.proofs.Common.{arith, map}
use Rattle.lists.specs.Lists.{up_from}
use Rattle.bank_rules.specs.Stores.{stored}
use Rattle.bank_rules.specs.Bank.{zero_at}
use Rattle.bank_rules.proofs.Stores.{stores_go_on, stores_end}
use Rattle.bank_steps.proofs.zero_words.Goals as goal

pub loop-place-preserved : goal.loop-place-preserved
loop-place-preserved c =
    let a = c.args in
    let loop = c.loop-place in
    stores_go_on zero_at loop.bank c.store_word.new.bytes (stored a.bank.now (map zero_at (up_from 0 a.count))) loop.place a.count
    (omega arith) loop.invariant c.store_word.ensures

pub returns : goal.returns
returns c =
    let a = c.args in
    let loop = c.loop-place in
    stores_end zero_at loop.bank (stored a.bank.now (map zero_at (up_from 0 a.count))) loop.place a.count (omega arith)
    loop.invariant
