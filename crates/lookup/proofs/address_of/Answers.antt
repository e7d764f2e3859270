-- `lookup::address_of` meets its contract: each area row that has not the place is passed, and the first that has it tells its address. Assumes nothing.
use Rattle.std.proofs.Common.{List, sym, ap, ◌∙◌, arith}
use Rattle.sheet_rules.specs.declared.Area.{Area}
use Rattle.sheet_rules.specs.Lookup.{address_of}
use Rattle.lookup.proofs.Addresses.{address_on, address_end}
use Rattle.lookup.proofs.Found.{all_from}
use Rattle.lookup.proofs.address_of.Goals as goal

pub loop-k-init : goal.loop-k-init
loop-k-init c =
    record { count = c.area_count-k-end.ensures; same = ap (λ (l : List Area). address_of l c.args.place) (all_from c.args.sheet.now) }

pub returns-then-has_place : goal.returns-then-has_place
returns-then-has_place c =
    let area = c.area_row-area in
    sym (address_on c.args.sheet.now c.args.place c.loop-k.k area.result area.ensures (omega arith) ∙ simp (sym c.has_place.ensures ∙ c.if-has_place.true))
    ∙ c.loop-k.invariant.same

pub loop-k-preserved : goal.loop-k-preserved
loop-k-preserved c =
    let area = c.area_row-area in
    record {
      count = c.loop-k.invariant.count;
      same =
          sym
          (address_on c.args.sheet.now c.args.place c.loop-k.k area.result area.ensures (omega arith) ∙ simp (sym c.has_place.ensures ∙ c.if-has_place.false))
          ∙ c.loop-k.invariant.same;
    }

pub returns : goal.returns
returns c = sym (address_end c.args.sheet.now c.args.place c.loop-k.k (omega arith)) ∙ c.loop-k.invariant.same
