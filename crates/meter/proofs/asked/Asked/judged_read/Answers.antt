-- `meter::asked::Asked::judged_read` meets its contract: steps 5 and 6 for a read of registers. Assumes nothing.
use Rattle.std.proofs.Common.{sym, ap, ◌∙◌, arith, lt-ltb, le-ltb}
use Rattle.sheet_rules.specs.declared.Purpose.TheVariants.{Read}
use Rattle.sheet_rules.specs.declared.Run.{Run}
use Rattle.sheet_rules.specs.Rows.{record_area}
use Rattle.sheet_rules.specs.Rules.{in_records}
use Rattle.sheet_rules.proofs.Reach.{run_shut, run_open}
use Rattle.meter.specs.Asked.{given_to}
use Rattle.frame.specs.declared.Parts.{Parts}
use Rattle.frame.specs.Frame.{most_read}
use Rattle.meter_rules.proofs.Records.{open_outside}
use Rattle.meter.proofs.Staging.{read_of_parts, good_read_of_parts, read_counted, shut_of_parts}
use Rattle.meter.proofs.asked.Asked.judged_read.Goals as goal
use Rattle.meter.proofs.asked.Asked.judged_read.Goals.{then-self-le-MOST_READ+else-self-run, else-self-le-MOST_READ}

pub returns-then-self-run : goal.returns-then-self-run
returns-then-self-run c =
    let a = c.args.self.now in
    let given = given_to a in
    let known = a.known in
    let asked = c.requires in
    let all = run_open a.sheet.bytes.now known.sheet_sound Read a.parts.start c.reached-run.ensures a.parts.second c.if-self-run.true in
    let outside =
    ap (λ (p : Parts). in_records p.start (record_area a.sheet.bytes.now)) (sym known.apart)
    ∙ open_outside a.sheet.bytes.now a.parts.start a.parts.second known.sheet_sound (omega (arith, asked.some)) all in
    good_read_of_parts a.frame.now known.apart asked.asks given outside (ap (λ (r : Run). r.place) c.reached-run.ensures)
    (read_of_parts a.frame.now known.apart asked.asks given outside
    ∙ simp (le-ltb most_read a.parts.second c.if-self-le-MOST_READ.true, all))
    ∙ read_counted given a.frame.now known.apart asked.asks asked.some outside

pub returns : goal.returns
returns c =
    let a = c.args.self.now in
    let given = given_to a in
    let known = a.known in
    let asked = c.requires in
    c.judged_shut.ensures
    ∙ shut_of_parts a.frame.now known.apart asked.asks given asked.some
    (elim c.if-self-le-MOST_READ.branch [
      | then-self-le-MOST_READ+else-self-run w ↦ simp (
        le-ltb most_read a.parts.second w.if-self-le-MOST_READ.true,
        run_shut a.sheet.bytes.now known.sheet_sound Read a.parts.start w.reached-run.ensures a.parts.second w.if-self-run.false,
      )
      | else-self-le-MOST_READ w ↦ simp (lt-ltb most_read a.parts.second w.if-self-le-MOST_READ.false)
    ])
