-- The stores that are left make of the bank what all make of the first one.
use Rattle.std.proofs.Common.{◌/◌, ◌≡◌, length}
use Rattle.bank_rules.specs.Stores.{stored}
use Rattle.bank_rules.specs.Bank.{post_store, post_stores}
use Rattle.bank_rules.proofs.Stores.{stores_from}
use Rattle.bank.proofs.post_words.store_posted.Given as goal

abbrev pub invariant-loop-k : goal.invariant-loop-k
invariant-loop-k l =
    stored l.bank (stores_from (post_store l.sheet l.address l.bytes) l.k (length l.bytes / 2)) ≡ stored l.fn.bank (post_stores l.sheet l.address l.bytes)
