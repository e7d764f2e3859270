-- `controller::reply` meets its contract: each return answers one test of the definition, and what is read is as the rules say. Assumes nothing.
use Rattle.std.proofs.Common.{ap, ◌∙◌, arith, Ok, Err}
use Rattle.controller_rules.specs.Order.{ask}
use Rattle.controller_rules.specs.Reading.{reply_outcome}
use Rattle.controller_rules.specs.declared.Reading.TheVariants.{Values}
use Rattle.controller.specs.declared.asked.Wanted.{Wanted}
use Rattle.controller.specs.Stages.{asked_of}
use Rattle.controller.proofs.Reading.{values_stand, read_is, unlaid, refused_reading}
use Rattle.controller.proofs.reply.Goals as goal

pub returns-in-Err : goal.returns-in-Err
returns-in-Err c = refused_reading (ask c.args.order c.args.station c.args.values.now) c.args.reply.now c.args.buffer.now c.in-Err.ensures

pub returns-in-Err-read : goal.returns-in-Err-read
returns-in-Err-read c =
    let a = c.args in
    let framed = c.in-Ok.ensures in
    read_is (ask a.order a.station a.values.now) a.reply.now a.buffer.now framed.1 framed.2 framed.0 {reading = Err c.in-Err-read.refusal} (cc)

pub copy-requires-clause-many_in_bounds : goal.copy-requires-clause-many_in_bounds
copy-requires-clause-many_in_bounds c =
    let stand = values_stand (asked_of c.in-Ok.framed.asked) c.args.reply.now c.in-Values.length (cc) in
    omega (arith, stand.0, stand.1)

pub copy-requires-clause-many_in_bounds_2 : goal.copy-requires-clause-many_in_bounds_2
copy-requires-clause-many_in_bounds_2 c =
    let framed = c.in-Ok.framed in
    let stand = values_stand (asked_of framed.asked) c.args.reply.now c.in-Values.length (cc) in
    omega (arith, stand.0, ap (λ (w : Wanted). w.words) framed.shows, framed.words_fit, c.in-Ok.ensures.2)

pub returns-in-Values : goal.returns-in-Values
returns-in-Values c =
    let a = c.args in
    let framed = c.in-Ok.ensures in
    ap (reply_outcome (Ok (Values c.in-Values.length))) c.copy.ensures
    ∙ read_is (ask a.order a.station a.values.now) a.reply.now a.buffer.now framed.1 framed.2 framed.0 {reading = Ok (Values c.in-Values.length)} (cc)

pub returns-in_default : goal.returns-in_default
returns-in_default c =
    let a = c.args in
    let framed = c.in-Ok.ensures in
    unlaid c.in-Ok-read.reading a.reply.now a.buffer.now c.in_default.not-Values
    ∙ read_is (ask a.order a.station a.values.now) a.reply.now a.buffer.now framed.1 framed.2 framed.0 {reading = Ok c.in-Ok-read.reading} (cc)
