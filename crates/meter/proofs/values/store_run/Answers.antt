-- `meter::values::store_run` meets its contract: each store is the next of the run's, and behind the last none is left. Assumes nothing.
use Rattle.std.proofs.Common.{ℕ, ◌+◌, ◌*◌, ap, ◌∙◌, arith, map}
use Rattle.words.specs.Words.{word_at, with_word}
use Rattle.lists.specs.Lists.{up_from}
use Rattle.bank_rules.specs.Stores.{stored}
use Rattle.bank_rules.proofs.Stores.{stores_go_on, stores_end}
use Rattle.meter_rules.specs.Write.{run_store}
use Rattle.meter.proofs.values.store_run.Goals as goal

pub loop-k-preserved : goal.loop-k-preserved
loop-k-preserved c =
    let a = c.args in
    let loop = c.loop-k in
    let word = c.word_at-word.ensures ∙ ap (λ (n : ℕ). word_at a.frame.now (n + 2 * loop.k)) c.values_at-values.ensures in
    let made = c.store_word.ensures ∙ ap (with_word loop.bank (2 * (a.first + loop.k))) word in
    stores_go_on (run_store a.frame.now a.first) loop.bank c.store_word.new.bytes (stored a.bank.now (map (run_store a.frame.now a.first) (up_from 0 a.count)))
    loop.k a.count (omega arith) loop.invariant made

pub returns : goal.returns
returns c =
    let a = c.args in
    let loop = c.loop-k in
    stores_end (run_store a.frame.now a.first) loop.bank (stored a.bank.now (map (run_store a.frame.now a.first) (up_from 0 a.count))) loop.k a.count
    (omega arith) loop.invariant
