-- The stores that are left make of the ring what all make of the first one.
use Rattle.std.proofs.Common.{◌≡◌, map}
use Rattle.lists.specs.Lists.{up_from}
use Rattle.bank_rules.specs.Stores.{stored}
use Rattle.bank_rules.proofs.Stores.{stores_from}
use Rattle.ring_rules.specs.Ring.{record_store}
use Rattle.ring.proofs.record_words.store_record.Given as goal

abbrev pub invariant-loop-k : goal.invariant-loop-k
invariant-loop-k l =
    stored l.ring (stores_from (record_store l.fn.records l.place l.bytes) l.k l.count)
    ≡ stored l.fn.ring (map (record_store l.fn.records l.place l.bytes) (up_from 0 l.count))
