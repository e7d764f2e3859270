-- `sheet::headed::Headed::opened` meets its contract: the area at hand is used up, and the next one is opened. Assumes nothing.
use Rattle.std.proofs.Common.{arith, ◌∙◌, ◌<◌}
use Rattle.lists.proofs.Among.{each_among}
use Rattle.sheet_rules.specs.Rows.{area_count}
use Rattle.sheet_rules.specs.Rules.{access_rule, first_last_rule}
use Rattle.sheet.proofs.Covering.{area_among, left_open, way_open}
use Rattle.sheet.proofs.HeaderWords.{areas_is}
use Rattle.sheet.proofs.headed.Headed.opened.Goals as goal

pub covered_length-requires-clause-area_value : goal.covered_length-requires-clause-area_value
covered_length-requires-clause-area_value c =
    let way = c.loop-end.invariant in
    let row = area_among c.args.self.sheet.now c.loop-end.area c.area_row-row.result c.area_row-row.ensures (omega (arith, areas_is c.args.self)) in
    each_among access_rule row way.under_way.known

pub covered_length-requires-clause-area_value_2 : goal.covered_length-requires-clause-area_value_2
covered_length-requires-clause-area_value_2 c =
    let way = c.loop-end.invariant in
    let row = area_among c.args.self.sheet.now c.loop-end.area c.area_row-row.result c.area_row-row.ensures (omega (arith, areas_is c.args.self)) in
    each_among first_last_rule row way.under_way.order

pub loop-end-preserved : goal.loop-end-preserved
loop-end-preserved c =
    let s = c.args.self.sheet.now in
    let loop = c.loop-end in
    let way = c.loop-end.invariant in
    let row = c.area_row-row in
    let size = c.covered_length in
    let inside : loop.area < area_count s = omega (arith, areas_is c.args.self) in
    record {
      under_way =
          way_open s loop.area row.result size.result row.ensures inside size.ensures way.under_way.known way.under_way.order way.under_way.follow
          (omega arith) (omega arith);
      same = left_open s loop.area row.result size.result row.ensures inside size.ensures loop.next loop.end c.loop-end-test.true ∙ way.same;
    }
