-- `meter::write::Write::stop` meets its contract. The loop's invariant: the write stops by the items that are left where it stops by all.
-- Assumes nothing.
use Rattle.std.proofs.Common.{◌≡◌, ◌-◌, ◌≤◌}
use Rattle.sheet_rules.specs.Rows.{item_count, items}
use Rattle.meter_rules.specs.Write.{stop_in}
use Rattle.meter_rules.proofs.Stopping.{items_from}
use Rattle.meter.proofs.write.Write.stop.Given as goal

abbrev pub invariant-loop-item : goal.invariant-loop-item
invariant-loop-item l =
    record {
      within : l.k ≤ item_count l.sheet.bytes.now;
      same : stop_in l.self.first l.self.many l.self.bank.now l.self.frame.now (items_from l.sheet.bytes.now l.k)
          ≡ stop_in l.self.first l.self.many l.self.bank.now l.self.frame.now (items l.sheet.bytes.now);
    }

abbrev pub decreases-loop-item : goal.decreases-loop-item
decreases-loop-item l = item_count l.sheet.bytes.now - l.k
