-- The rule of the areas from here on is the rule of all of them. Assumes nothing.
use Rattle.std.proofs.Common.{◌≡◌}
use Rattle.lists.specs.Lists.{each}
use Rattle.sheet_rules.specs.Rows.{areas}
use Rattle.sheet_rules.specs.Rules.{apart_rule}
use Rattle.sheet_rules.proofs.Rows.{areas_from}
use Rattle.sheet.proofs.headed.Headed.all_apart.Given as goal

abbrev pub invariant-loop-k : goal.invariant-loop-k
invariant-loop-k l = each (apart_rule l.records) (areas_from l.self.sheet.now l.k) ≡ each (apart_rule l.records) (areas l.self.sheet.now)
