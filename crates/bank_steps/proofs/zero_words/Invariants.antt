-- The stores that are left make of the bank what all make of the first one.
use Rattle.std.proofs.Common.{◌≡◌, map}
use Rattle.lists.specs.Lists.{up_from}
use Rattle.bank_rules.specs.Stores.{stored}
use Rattle.bank_rules.specs.Bank.{zero_at}
use Rattle.bank_rules.proofs.Stores.{stores_from}
use Rattle.bank_steps.proofs.zero_words.Given as goal

abbrev pub invariant-loop-place : goal.invariant-loop-place
invariant-loop-place l = stored l.bank (stores_from zero_at l.place l.count) ≡ stored l.fn.bank (map zero_at (up_from 0 l.count))
