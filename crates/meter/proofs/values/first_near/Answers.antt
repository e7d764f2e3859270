-- `meter::values::first_near` meets its contract: where the middle item stands wholly in front of the place, so do those in front of it.
-- Assumes nothing.
use Rattle.std.proofs.Common.{ℕ, ◌+◌, ◌-◌, ◌/◌, ap, ◌∙◌, arith}
use Rattle.sheet_rules.specs.Rows.{item_row}
use Rattle.meter_rules.proofs.Stopping.{all_in_front}
use Rattle.meter.proofs.values.first_near.Goals as goal

pub loop-near-preserved-then-item_place-place : goal.loop-near-preserved-then-item_place-place
loop-near-preserved-then-item_place-place c =
    let a = c.args in
    let loop = c.loop-near in
    let middle = loop.near + (loop.past - loop.near) / 2 in
    let place = c.item_place.ensures ∙ ap (λ (n : ℕ). (item_row a.sheet.bytes.now n middle).place) c.area_count-areas.ensures in
    record {
      ordered = omega arith;
      within = loop.invariant.within;
      passed = all_in_front a.sheet.bytes.now a.sheet.keeps a.place middle (omega arith) (omega (arith, place));
    }
