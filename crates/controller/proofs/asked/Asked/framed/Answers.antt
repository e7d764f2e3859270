-- `controller::asked::Asked::framed` meets its contract: what is shown of an order with a frame fits. Assumes nothing.
use Rattle.std.proofs.Common.{sym, ◌∙◌}
use Rattle.controller.specs.Stages.{asked_of}
use Rattle.controller.proofs.Building.{fits}
use Rattle.controller.proofs.asked.Asked.framed.Goals as goal

pub invariant_of-result : goal.invariant_of-result
invariant_of-result c =
    let fit = fits (asked_of c.args.self) (sym c.no_frame.ensures ∙ c.if-no_frame.false) c.wanted.ensures in
    record {
      shows = c.wanted.ensures;
      station_fits = fit.station;
      address_fits = fit.address;
      second_fits = fit.second;
      words_fit = fit.words;
      values_fit = fit.values;
    }
