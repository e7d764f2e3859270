-- The cover is under way, and the same places are left. Assumes nothing.
use Rattle.std.proofs.Common.{◌-◌, ◌≡◌}
use Rattle.sheet.specs.Cover.{places_left, UnderWay}
use Rattle.sheet.proofs.Covering.{cover}
use Rattle.sheet.proofs.headed.Headed.opened.Given as goal

abbrev pub invariant-loop-end : goal.invariant-loop-end
invariant-loop-end l = record {
  under_way : UnderWay l.self.sheet.now (cover l.next l.end l.area);
  same : places_left l.self.sheet.now (cover l.next l.end l.area) ≡ places_left l.self.sheet.now (cover l.initial.next l.initial.end l.initial.area);
}

abbrev pub decreases-loop-end : goal.decreases-loop-end
decreases-loop-end l = l.self.header.areas - l.area
