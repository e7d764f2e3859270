-- `lookup::lies_at` meets its contract: each area row that does not hold the address is passed, and the first that does tells what lies there. Assumes nothing.
use Rattle.std.proofs.Common.{List, Some, None, sym, ap, ◌∙◌, arith}
use Rattle.sheet_rules.specs.declared.Area.{Area}
use Rattle.sheet_rules.specs.Lookup.{lies_in}
use Rattle.sheet_rules.proofs.Rows.{lies_end}
use Rattle.lookup.proofs.Found.{all_from, none_by, lies_next}
use Rattle.lookup.proofs.lies_at.Goals as goal

pub loop-k-init : goal.loop-k-init
loop-k-init c =
    record { count = c.area_count-k-end.ensures; same = ap (λ (l : List Area). lies_in l c.args.address) (all_from c.args.sheet.now) }

pub returns-then-in_area : goal.returns-then-in_area
returns-then-in_area c =
    let area = c.area_row-area in
    lies_next c.args.sheet.now c.args.address c.loop-k.k area.result area.ensures (omega arith) (Some c.lies_there.result) c.lies_there.ensures
    ∙ c.loop-k.invariant.same

pub loop-k-preserved : goal.loop-k-preserved
loop-k-preserved c =
    let area = c.area_row-area in
    let outside = none_by c.args.address area.result (sym c.in_area.ensures ∙ c.if-in_area.false) in
    record {
      count = c.loop-k.invariant.count;
      same = lies_next c.args.sheet.now c.args.address c.loop-k.k area.result area.ensures (omega arith) None outside ∙ c.loop-k.invariant.same;
    }

pub returns : goal.returns
returns c = sym (lies_end c.args.sheet.now c.args.address c.loop-k.k (omega arith)) ∙ c.loop-k.invariant.same
