-- The walk over the area rows: what lies at the start by the areas so far, or else by those from here on, is what lies there by all of them, and the end is
-- carried as far as the start is by all of them.
use Rattle.std.proofs.Common.{◌≡◌}
use Rattle.sheet_rules.specs.Rows.{areas, area_count}
use Rattle.sheet_rules.specs.Lookup.{lies_in}
use Rattle.sheet_rules.specs.Runs.{reach}
use Rattle.sheet_rules.proofs.Rows.{areas_from}
use Rattle.lookup.proofs.Found.{or_later}
use Rattle.lookup.proofs.reached.Given as goal

abbrev pub invariant-loop-k : goal.invariant-loop-k
invariant-loop-k l =
    record {
      count : l.k-end ≡ area_count l.sheet;
      found : or_later l.lies (lies_in (areas_from l.sheet l.k) l.start) ≡ lies_in (areas l.sheet) l.start;
      end : reach l.purpose (areas_from l.sheet l.k) l.end ≡ reach l.purpose (areas l.sheet) l.start;
    }
