-- `lookup::reached` meets its contract: behind each area row the start is found before, or the row says what lies there, and the end is carried by the row.
-- Assumes nothing.
use Rattle.std.proofs.Common.{ℕ, ◌+◌, ◌≤◌, List, Option, Some, None, sym, ap, ◌∙◌, arith}
use Rattle.sheet_rules.specs.declared.Area.{Area}
use Rattle.sheet_rules.specs.declared.Lies.{Lies}
use Rattle.sheet_rules.specs.Rows.{area_count}
use Rattle.sheet_rules.specs.Lookup.{lies_in, place_in}
use Rattle.sheet_rules.specs.Runs.{reach}
use Rattle.sheet_rules.proofs.Rows.{areas_from, lies_end, reach_on, reach_end}
use Rattle.lookup.proofs.Found.{or_later, or_none, all_from, none_by, lies_next}
use Rattle.lookup.proofs.reached.Goals as goal
use Rattle.lookup.proofs.reached.Goals.{in-None+then-in_area, in-None+else-in_area, in_default}

pub loop-k-init : goal.loop-k-init
loop-k-init c =
    let all = all_from c.args.sheet.now in
    record {
      count = c.area_count-k-end.ensures;
      found = ap (λ (l : List Area). lies_in l c.args.start) all;
      end = ap (λ (l : List Area). reach c.args.purpose l c.args.start) all;
    }

pub loop-k-preserved : goal.loop-k-preserved
loop-k-preserved c =
    let sheet = c.args.sheet.now in
    let loop = c.loop-k in
    let start = c.args.start in
    let area = c.area_row-area in
    let by = λ (k : ℕ) (lies : Option Lies). or_later lies (lies_in (areas_from sheet k) start) in
    record {
      count = loop.invariant.count;
      found =
          elim c.match-lies.branch [
            | in-None+then-in_area w ↦
                ap (by (loop.k + 1)) w.lies-is
                ∙ lies_next sheet start loop.k area.result area.ensures (omega arith) (Some w.lies_there.result) w.lies_there.ensures
                ∙ sym (ap (by loop.k) w.in-None.is) ∙ loop.invariant.found
            | in-None+else-in_area w ↦
                ap (by (loop.k + 1)) (w.lies-is ∙ w.in-None.is)
                ∙ lies_next sheet start loop.k area.result area.ensures (omega arith) None
                (none_by start area.result (sym w.in_area.ensures ∙ w.if-in_area.false))
                ∙ sym (ap (by loop.k) w.in-None.is) ∙ loop.invariant.found
            | in_default w ↦
                ap (by (loop.k + 1)) (w.lies-is ∙ w.in_default.is) ∙ sym (ap (by loop.k) w.in_default.is) ∙ loop.invariant.found
          ];
      end = reach_on sheet loop.k area.result area.ensures (omega arith) c.args.purpose loop.end c.carried-end.result c.carried-end.ensures ∙ loop.invariant.end;
    }

pub returns : goal.returns
returns c =
    let sheet = c.args.sheet.now in
    let loop = c.loop-k in
    let past : area_count sheet ≤ loop.k = omega (arith, loop.invariant.count) in
    let found = sym (ap (or_later loop.lies) (lies_end sheet c.args.start loop.k past) ∙ or_none loop.lies) ∙ loop.invariant.found in
    let place = c.place_in.ensures ∙ ap place_in found in
    let end = sym (reach_end sheet loop.k past c.args.purpose loop.end) ∙ loop.invariant.end in
    λ i. record { place = place i; end = end i }
