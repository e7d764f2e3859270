-- `controller::asked::Framed::read` meets its contract: each return answers one test of the definition. Assumes nothing.
use Rattle.std.proofs.Common.{sym, ap, ap₂, ◌∙◌}
use borrow.Author.Tests.{eq-eqb, ne_eqb}
use Rattle.frame.specs.declared.Parts.{Parts}
use Rattle.frame.specs.Frame.{station}
use Rattle.frame.proofs.Passing.{passed_parts, passed_true, passed_false}
use Rattle.controller.specs.declared.asked.Wanted.{Wanted}
use Rattle.controller.specs.Stages.{body_read}
use Rattle.controller.proofs.asked.Framed.read.Goals as goal

pub returns-in_default : goal.returns-in_default
returns-in_default c = simp (passed_false c.args.reply.now c.taken_apart.ensures c.in_default.is)

pub returns-then-parts-self : goal.returns-then-parts-self
returns-then-parts-self c =
    let reply = c.args.reply.now in
    let parts = passed_parts reply c.taken_apart.ensures c.in-Some.is in
    simp (
      passed_true reply c.taken_apart.ensures c.in-Some.is,
      ne_eqb (station reply) c.args.self.asked.station (λ same. c.if-parts-self.true (ap (λ (p : Parts). p.station) parts ∙ same)),
    )

pub returns : goal.returns
returns c =
    let reply = c.args.reply.now in
    let parts = passed_parts reply c.taken_apart.ensures c.in-Some.is in
    simp (
      passed_true reply c.taken_apart.ensures c.in-Some.is,
      eq-eqb (station reply) c.args.self.asked.station (sym (ap (λ (p : Parts). p.station) parts) ∙ c.if-parts-self.false),
    )
    (c.body_read.ensures ∙ ap₂ (λ (w : Wanted) (p : Parts). body_read w p reply) c.args.self.shows parts)
