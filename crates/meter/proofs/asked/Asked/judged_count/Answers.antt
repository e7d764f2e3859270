-- `meter::asked::Asked::judged_count` meets its contract: step 5, by the function. Assumes nothing.
use Rattle.std.proofs.Common.{◌*◌, ◌∙◌, arith, eq-eqb, ne_eqb}
use Rattle.meter.specs.Asked.{given_to}
use Rattle.meter.proofs.Staging.{last_of_parts, count_stops, count_passes}
use Rattle.meter.proofs.asked.Asked.judged_count.Goals as goal

pub returns-then-self-eq0 : goal.returns-then-self-eq0
returns-then-self-eq0 c =
    let a = c.args.self.now in
    count_stops (given_to a) a.frame.now a.known.apart (simp (c.in-3.is, eq-eqb a.parts.second 0 c.if-self-eq0.true))

pub returns-in-5 : goal.returns-in-5
returns-in-5 c =
    let a = c.args.self.now in
    c.judged_clear.ensures ∙ count_passes (given_to a) a.frame.now a.known.apart (simp c.in-5.is)

pub returns-in-6 : goal.returns-in-6
returns-in-6 c =
    let a = c.args.self.now in
    c.judged_write.ensures ∙ count_passes (given_to a) a.frame.now a.known.apart (simp c.in-6.is)

pub returns-then-self-eq0-2 : goal.returns-then-self-eq0-2
returns-then-self-eq0-2 c =
    let a = c.args.self.now in
    let ten =
    last_of_parts a.frame.now a.known.apart a.sheet.bytes.now a.known.allowed (omega arith) (omega arith) (omega arith) in
    count_stops (given_to a) a.frame.now a.known.apart (simp (ten, eq-eqb a.parts.second 0 c.if-self-eq0-2.true))

pub returns-then-self : goal.returns-then-self
returns-then-self c =
    let a = c.args.self.now in
    let ten =
    last_of_parts a.frame.now a.known.apart a.sheet.bytes.now a.known.allowed (omega arith) (omega arith) (omega arith) in
    count_stops (given_to a) a.frame.now a.known.apart
    (simp (ten, ne_eqb a.parts.second 0 c.if-self-eq0-2.false, ne_eqb a.parts.bytes (2 * a.parts.second) c.if-self.true))

pub returns-else-self : goal.returns-else-self
returns-else-self c =
    let a = c.args.self.now in
    let ten =
    last_of_parts a.frame.now a.known.apart a.sheet.bytes.now a.known.allowed (omega arith) (omega arith) (omega arith) in
    c.judged_write-in_default.ensures
    ∙ count_passes (given_to a) a.frame.now a.known.apart
    (simp (ten, ne_eqb a.parts.second 0 c.if-self-eq0-2.false, eq-eqb a.parts.bytes (2 * a.parts.second) c.if-self.false))
