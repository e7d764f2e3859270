-- The items that are left are good exactly if all are.
use Rattle.std.proofs.Common.{◌-◌, ◌≡◌, ◌≤◌}
use Rattle.lists.specs.Lists.{rows, each}
use Rattle.sheet_rules.specs.Rows.{item_count, item_at, items}
use Rattle.bank_rules.specs.Stores.{word_of}
use Rattle.bank_rules.specs.Bank.{good_by}
use Rattle.bank.proofs.sound.Given as goal

abbrev pub invariant-loop-item : goal.invariant-loop-item
invariant-loop-item l =
    record {
      within : l.k ≤ item_count l.sheet.bytes.now;
      left : each (good_by (word_of l.bank)) (rows (item_at l.sheet.bytes.now) l.k (item_count l.sheet.bytes.now - l.k)) ≡ each (good_by (word_of l.bank)) (items l.sheet.bytes.now);
    }

abbrev pub decreases-loop-item : goal.decreases-loop-item
decreases-loop-item l = item_count l.sheet.bytes.now - l.k
