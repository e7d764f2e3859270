-- `meter::asked::Asked::judged_clear` meets its contract: steps 6 and 7 for a clear. Assumes nothing.
use Rattle.std.proofs.Common.{sym, ◌∙◌, eq-eqb, ne_eqb}
use Rattle.sheet_rules.specs.Rows.{clear_address}
use Rattle.meter.specs.Asked.{given_to}
use Rattle.meter.proofs.Staging.{clear_function, clear_of_parts, value_of_parts, stops_address, stops_value, good_clear}
use Rattle.meter.proofs.asked.Asked.judged_clear.Goals as goal

pub returns-then-self-clear_address : goal.returns-then-self-clear_address
returns-then-self-clear_address c =
    let a = c.args.self.now in
    let given = given_to a in
    stops_address given a.frame.now
    (clear_of_parts a.frame.now a.known.apart c.requires given
    ∙ simp (ne_eqb a.parts.start (clear_address a.sheet.bytes.now) (λ e. c.if-self-clear_address.true (e ∙ sym c.clear_address.ensures))))

pub returns-then-self-ne0 : goal.returns-then-self-ne0
returns-then-self-ne0 c =
    let a = c.args.self.now in
    let given = given_to a in
    let apart = a.known.apart in
    stops_value given a.frame.now
    (clear_of_parts a.frame.now apart c.requires given
    ∙ simp (eq-eqb a.parts.start (clear_address a.sheet.bytes.now) (c.if-self-clear_address.false ∙ c.clear_address.ensures)))
    (value_of_parts a.frame.now apart c.requires ∙ simp (ne_eqb a.parts.second 0 c.if-self-ne0.true))

pub returns : goal.returns
returns c =
    let a = c.args.self.now in
    let given = given_to a in
    let apart = a.known.apart in
    good_clear given a.frame.now (clear_function a.frame.now apart c.requires)
    (clear_of_parts a.frame.now apart c.requires given
    ∙ simp (eq-eqb a.parts.start (clear_address a.sheet.bytes.now) (c.if-self-clear_address.false ∙ c.clear_address.ensures)))
    (value_of_parts a.frame.now apart c.requires ∙ simp (eq-eqb a.parts.second 0 c.if-self-ne0.false))
