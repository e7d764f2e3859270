-- The stores of the items that are left make of the bank what all make of the first one.
use Rattle.std.proofs.Common.{◌-◌, ◌≡◌, ◌≤◌}
use Rattle.lists.specs.Lists.{rows}
use Rattle.sheet_rules.specs.Rows.{item_count, item_at, items}
use Rattle.bank_rules.specs.Stores.{stored}
use Rattle.bank_rules.specs.Bank.{low_stores}
use Rattle.bank.proofs.fresh_words.store_lows.Given as goal

abbrev pub invariant-loop-item : goal.invariant-loop-item
invariant-loop-item l =
    record {
      within : l.k ≤ item_count l.sheet.bytes.now;
      left : stored l.bank (low_stores (rows (item_at l.sheet.bytes.now) l.k (item_count l.sheet.bytes.now - l.k))) ≡ stored l.fn.bank (low_stores (items l.sheet.bytes.now));
    }

abbrev pub decreases-loop-item : goal.decreases-loop-item
decreases-loop-item l = item_count l.sheet.bytes.now - l.k
