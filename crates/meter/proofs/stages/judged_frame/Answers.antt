-- `meter::stages::judged_frame` meets its contract: steps 1 to 3. Assumes nothing.
use Rattle.std.proofs.Common.{◌∙◌, not, ap}
use Rattle.bank_rules.specs.Calls.{lent_with}
use Rattle.meter.proofs.Staging.{fails_first, stops_second, stops_third, passes_third, then_known}
use Rattle.meter.proofs.stages.judged_frame.Goals as goal

pub returns-in_default : goal.returns-in_default
returns-in_default c =
    let a = c.args in
    fails_first (lent_with a.sheet.bytes.now a.bank.now a.ring.now) a.frame.now c.taken_apart.ensures c.in_default.is

pub returns-in_default-for_station : goal.returns-in_default-for_station
returns-in_default-for_station c =
    let a = c.args in
    stops_second (lent_with a.sheet.bytes.now a.bank.now a.ring.now) a.frame.now c.taken_apart.ensures c.in-Some.is c.for_station.ensures
    c.in_default-for_station.is

pub returns-then-not-function_allowed : goal.returns-then-not-function_allowed
returns-then-not-function_allowed c =
    let a = c.args in
    stops_third (lent_with a.sheet.bytes.now a.bank.now a.ring.now) a.frame.now c.taken_apart.ensures c.in-Some.is c.for_station.ensures c.in-Some-for_station.is
    c.function_allowed.ensures (ap not c.if-not-function_allowed.true)

pub invariant_of-asked : goal.invariant_of-asked
invariant_of-asked c =
    let a = c.args in
    record {
      known =
          then_known (lent_with a.sheet.bytes.now a.bank.now a.ring.now) a.frame.now c.taken_apart.ensures c.in-Some.is c.for_station.ensures
          c.in-Some-for_station.is c.function_allowed.ensures a.sheet.keeps (ap not c.if-not-function_allowed.false);
    }

pub returns : goal.returns
returns c =
    let a = c.args in
    c.judged_length.ensures
    ∙ passes_third (lent_with a.sheet.bytes.now a.bank.now a.ring.now) a.frame.now c.taken_apart.ensures c.in-Some.is c.for_station.ensures c.in-Some-for_station.is
    c.function_allowed.ensures (ap not c.if-not-function_allowed.false)
