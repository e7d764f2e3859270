-- What the walk says of the areas from here on is what the rules say of all of them. Assumes nothing.
use Rattle.std.proofs.Common.{◌≡◌, ◌*◌, ◌≤◌}
use Rattle.sheet_rules.specs.Rows.{bank_words}
use Rattle.sheet_rules.specs.Rules.{areas_sound}
use Rattle.sheet_rules.proofs.Rows.{areas_from}
use Rattle.sheet.proofs.Areas.{walk}
use Rattle.sheet.proofs.headed.Headed.areas_sound.Given as goal

abbrev pub invariant-loop-k : goal.invariant-loop-k
invariant-loop-k l = record {
  small : l.places ≤ 65536 * l.k;
  asked : walk l.version l.allowed l.clear (bank_words l.self.sheet.now) l.lowest l.places (areas_from l.self.sheet.now l.k) ≡ areas_sound l.self.sheet.now;
}
