-- `meter::asked::Asked::judged_write` meets its contract: steps 6 and 7 for a write. Assumes nothing.
use Rattle.std.proofs.Common.{ap, arith}
use Rattle.sheet_rules.specs.declared.Purpose.TheVariants.{Write}
use Rattle.sheet_rules.specs.declared.Run.{Run}
use Rattle.sheet_rules.proofs.Reach.{run_shut, run_open}
use Rattle.meter.specs.Asked.{given_to}
use Rattle.meter_rules.proofs.Placing.{place_small}
use Rattle.meter.proofs.Writing.{write_shut_lem, write_stopped, write_good}
use Rattle.meter.proofs.asked.Asked.judged_write.Goals as goal

pub returns-then-run-self : goal.returns-then-run-self
returns-then-run-self c =
    let a = c.args.self.now in
    let known = a.known in
    write_shut_lem (given_to a) a.frame.now c.requires a.parts known.apart c.many_of-many.ensures
    (run_shut a.sheet.bytes.now known.sheet_sound Write a.parts.start c.reached-run.ensures c.many_of-many.result c.if-run-self.true)

pub stop-requires : goal.stop-requires
stop-requires c =
    let a = c.args.self.now in
    let place = ap (λ (r : Run). r.place) c.reached-run.ensures in
    omega (arith, place_small a.sheet.bytes.now a.known.sheet_sound a.parts.start, place, c.many_of-many.type_inv)

pub returns-in-Some : goal.returns-in-Some
returns-in-Some c =
    let a = c.args.self.now in
    let known = a.known in
    let all = run_open a.sheet.bytes.now known.sheet_sound Write a.parts.start c.reached-run.ensures c.many_of-many.result c.if-run-self.false in
    write_stopped (given_to a) a.frame.now c.requires a.parts known.apart c.many_of-many.ensures all
    (ap (λ (r : Run). r.place) c.reached-run.ensures) c.stop.ensures c.in-Some.is

pub returns-in-None : goal.returns-in-None
returns-in-None c =
    let a = c.args.self.now in
    let known = a.known in
    let all = run_open a.sheet.bytes.now known.sheet_sound Write a.parts.start c.reached-run.ensures c.many_of-many.result c.if-run-self.false in
    write_good (given_to a) a.frame.now c.requires a.parts known.apart c.many_of-many.ensures all
    (ap (λ (r : Run). r.place) c.reached-run.ensures) c.stop.ensures c.in-None.is
