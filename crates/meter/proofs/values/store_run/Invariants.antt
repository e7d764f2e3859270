-- `meter::values::store_run` meets its contract. The loop's invariant: the stores that are left make of the bank what all make of the
-- first one. Assumes nothing.
use Rattle.std.proofs.Common.{◌≡◌, map}
use Rattle.lists.specs.Lists.{up_from}
use Rattle.bank_rules.specs.Stores.{stored}
use Rattle.bank_rules.proofs.Stores.{stores_from}
use Rattle.meter_rules.specs.Write.{run_store}
use Rattle.meter.proofs.values.store_run.Given as goal

abbrev pub invariant-loop-k : goal.invariant-loop-k
invariant-loop-k l =
    stored l.bank (stores_from (run_store l.frame l.first) l.k l.count) ≡ stored l.fn.bank (map (run_store l.frame l.first) (up_from 0 l.count))
