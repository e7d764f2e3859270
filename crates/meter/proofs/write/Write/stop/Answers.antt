-- `meter::write::Write::stop` meets its contract: the items in front of the first one looked at are passed over, and of those behind it the first bad one
-- stops the write. Assumes nothing.
use Rattle.std.proofs.Common.{ℕ, ◌<◌, sym, ap, ◌∙◌, arith}
use Rattle.sheet_rules.specs.declared.Item.{Item}
use Rattle.sheet_rules.specs.Rows.{item_count, item_row, items}
use Rattle.sheet_rules.proofs.Sound.{row_counted, row_past, sound_numbers}
use Rattle.meter_rules.specs.Write.{stop_in, stops_with}
use Rattle.meter_rules.proofs.Stopping.{stop_skips, stop_past, stop_goes_on, stop_here, stop_none}
use Rattle.meter.proofs.Writing.{left_inside, left_bad}
use Rattle.meter.proofs.write.Write.stop.Goals as goal

pub loop-item-init : goal.loop-item-init
loop-item-init c =
    let a = c.args in
    let found = c.first_near-k.ensures in
    record {
      within = found.0;
      same = stop_skips a.self.first a.self.many a.self.bank.now a.self.frame.now a.sheet.bytes.now c.first_near-k.result found.0 found.1;
    }

pub returns-then-end-item : goal.returns-then-end-item
returns-then-end-item c =
    let a = c.args in
    let loop = c.loop-item in
    let keeps = c.args.sheet.keeps in
    let inside = row_counted a.sheet.bytes.now keeps loop.k c.area_count-areas.ensures c.item_end.ensures c.loop-item-test.true in
    let item = c.item_row-item.ensures ∙ ap (λ (n : ℕ). item_row a.sheet.bytes.now n loop.k) c.area_count-areas.ensures in
    stop_past a.self.first a.self.many a.self.bank.now a.self.frame.now a.sheet.bytes.now loop.k
    (stop_in a.self.first a.self.many a.self.bank.now a.self.frame.now (items a.sheet.bytes.now)) loop.invariant.same keeps inside
    (omega (arith, c.if-end-item.true, ap (λ (i : Item). i.place) item))

pub returns-then-not-inside : goal.returns-then-not-inside
returns-then-not-inside c =
    let a = c.args in
    let loop = c.loop-item in
    let row = c.item_row-item.result in
    let inside = row_counted a.sheet.bytes.now c.args.sheet.keeps loop.k c.area_count-areas.ensures c.item_end.ensures c.loop-item-test.true in
    let item = c.item_row-item.ensures ∙ ap (λ (n : ℕ). item_row a.sheet.bytes.now n loop.k) c.area_count-areas.ensures in
    let bad = left_bad a.self.first a.self.many a.self.bank.now a.self.frame.now row c.side_left-side.ensures (sym c.inside.ensures ∙ c.if-not-inside.true) in
    ap (stops_with row.place) bad.1
    ∙ stop_here a.self.first a.self.many a.self.bank.now a.self.frame.now a.sheet.bytes.now loop.k
    (stop_in a.self.first a.self.many a.self.bank.now a.self.frame.now (items a.sheet.bytes.now)) loop.invariant.same row item inside bad.0

pub overflow_add-k : goal.overflow_add-k
overflow_add-k c =
    let sheet = c.args.sheet.bytes.now in
    let keeps = c.args.sheet.keeps in
    let inside = row_counted sheet keeps c.loop-item.k c.area_count-areas.ensures c.item_end.ensures c.loop-item-test.true in
    omega (arith, inside, (sound_numbers sheet keeps).items_high)

pub loop-item-smaller : goal.loop-item-smaller
loop-item-smaller c =
    let inside = row_counted c.args.sheet.bytes.now c.args.sheet.keeps c.loop-item.k c.area_count-areas.ensures c.item_end.ensures c.loop-item-test.true in
    omega (arith, inside)

pub loop-item-preserved : goal.loop-item-preserved
loop-item-preserved c =
    let a = c.args in
    let loop = c.loop-item in
    let row = c.item_row-item.result in
    let inside : loop.k < item_count a.sheet.bytes.now =
    row_counted a.sheet.bytes.now c.args.sheet.keeps loop.k c.area_count-areas.ensures c.item_end.ensures c.loop-item-test.true in
    let item = c.item_row-item.ensures ∙ ap (λ (n : ℕ). item_row a.sheet.bytes.now n loop.k) c.area_count-areas.ensures in
    let fine = left_inside a.self.first a.self.many a.self.bank.now a.self.frame.now row c.side_left-side.ensures (sym c.inside.ensures ∙ c.if-not-inside.false) in
    record {
      within = omega arith;
      same =
          stop_goes_on a.self.first a.self.many a.self.bank.now a.self.frame.now a.sheet.bytes.now loop.k
          (stop_in a.self.first a.self.many a.self.bank.now a.self.frame.now (items a.sheet.bytes.now)) loop.invariant.same row item inside fine;
    }

pub returns : goal.returns
returns c =
    let a = c.args in
    let loop = c.loop-item in
    stop_none a.self.first a.self.many a.self.bank.now a.self.frame.now a.sheet.bytes.now loop.k
    (stop_in a.self.first a.self.many a.self.bank.now a.self.frame.now (items a.sheet.bytes.now)) loop.invariant.same
    (row_past a.sheet.bytes.now c.args.sheet.keeps loop.k c.area_count-areas.ensures c.item_end.ensures c.loop-item-test.false)
