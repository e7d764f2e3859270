-- What the check of a header gives: the header, where it breaks no rule. Assumes nothing.
use Rattle.std.specs.Prelude.{ℕ, cond, List, Option, Some, None}
use Rattle.sheet_rules.specs.Rows.{header_of}
use Rattle.sheet_rules.specs.Rules.{header_sound}
use Rattle.sheet_rules.specs.declared.Header.{Header}

abbrev pub checked_header : List ℕ → Option Header
checked_header sheet = cond (header_sound sheet) (Some (header_of sheet)) None
