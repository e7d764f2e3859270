-- `meter::write::Write::side_left` meets its contract: an item that the write touches is judged by the value that it would have. Assumes nothing.
use Rattle.std.proofs.Common.{refl, sym, ◌∙◌}
use Rattle.bank.proofs.Good.{side_told}
use Rattle.meter_rules.specs.Write.{would_be}
use Rattle.meter.proofs.write.Write.side_left.Goals as goal

pub returns : goal.returns
returns c =
    let a = c.args.self in
    let side = side_told (would_be a.first a.many a.bank.now a.frame.now) (refl {a = c.args.item}) c.value_would_be.ensures c.side_of.ensures in
    simp (sym c.touches.ensures ∙ c.if-not-touches.false) (sym side)
