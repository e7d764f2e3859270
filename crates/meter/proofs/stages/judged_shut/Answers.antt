-- `meter::stages::judged_shut` meets its contract: in a sheet with no record area no address is a record's. Assumes nothing.
use Rattle.std.proofs.Common.{sym, ◌∙◌}
use Rattle.sheet_rules.proofs.Records.{none_in_records}
use Rattle.meter.proofs.stages.judged_shut.Goals as goal

pub returns-then-not-has_records : goal.returns-then-not-has_records
returns-then-not-has_records c =
    simp (none_in_records c.args.sheet.now (sym c.has_records.ensures ∙ c.if-not-has_records.true) c.args.start)
