-- `meter::values::first_near` meets its contract. The loop's invariant: every item in front of `near` stands wholly in front of the place.
-- Assumes nothing.
use Rattle.std.proofs.Common.{ℕ, ◌+◌, ◌-◌, ◌<◌, ◌≤◌}
use Rattle.sheet_rules.specs.Rows.{item_count, item_at}
use Rattle.meter.proofs.values.first_near.Given as goal

abbrev pub invariant-loop-near : goal.invariant-loop-near
invariant-loop-near l =
    record {
      ordered : l.near ≤ l.past;
      within : l.past ≤ item_count l.sheet.bytes.now;
      passed : (k : ℕ) → k < l.near → (item_at l.sheet.bytes.now k).place + 1 < l.place;
    }

abbrev pub decreases-loop-near : goal.decreases-loop-near
decreases-loop-near l = l.past - l.near
