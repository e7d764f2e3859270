-- `controller::query` meets its contract: each return answers one test of the definition, and what is laid is the order's query. Assumes nothing.
use Rattle.std.proofs.Common.{sym, ap, ◌∙◌, length, Ok}
use borrow.Author.Tests.{le-ltb}
use Rattle.frame.specs.Reply.{Filled, laid, fill, least_buffer}
use Rattle.controller_rules.specs.Order.{Asked, ask}
use Rattle.controller_rules.specs.Query.{query_outcome, query}
use Rattle.controller_rules.proofs.Outcomes.{built_is}
use Rattle.controller.proofs.Building.{refused_built}
use Rattle.controller.proofs.query.Goals as goal

pub returns-in-Ok : goal.returns-in-Ok
returns-in-Ok c =
    let buffer = c.args.buffer.now in
    let same = c.in-Ok.ensures.0 in
    ap (λ (f : Filled). query_outcome (Ok f.length) f.buffer) (c.lay.ensures ∙ ap (λ (a : Asked). fill (length (query a)) (laid (query a) buffer)) same)
    ∙ sym (built_is (ask c.args.order c.args.station c.args.values.now) buffer c.in-Ok.ensures.1 (le-ltb (length buffer) least_buffer c.in-Ok.ensures.2))

pub returns-in-Err : goal.returns-in-Err
returns-in-Err c = refused_built (ask c.args.order c.args.station c.args.values.now) c.args.buffer.now c.in-Err.ensures
