-- `meter::asked::Asked::judged_length` meets its contract: step 4. Assumes nothing.
use Rattle.std.proofs.Common.{sym, ◌∙◌}
use Rattle.meter.specs.Asked.{given_to}
use Rattle.meter.proofs.Staging.{length_stops, length_passes_lem}
use Rattle.meter.proofs.asked.Asked.judged_length.Goals as goal

pub returns-then-has_wrong_length : goal.returns-then-has_wrong_length
returns-then-has_wrong_length c =
    let a = c.args.self.now in
    length_stops (given_to a) a.frame.now a.known.apart
    (sym c.has_wrong_length.ensures ∙ c.if-has_wrong_length.true)

pub returns : goal.returns
returns c =
    let a = c.args.self.now in
    c.judged_count.ensures
    ∙ length_passes_lem (given_to a) a.frame.now a.known.apart
    (sym c.has_wrong_length.ensures ∙ c.if-has_wrong_length.false)
