-- The walk over the area rows: what lies at the address by the areas from here on is what lies there by all of them.
use Rattle.std.proofs.Common.{◌≡◌}
use Rattle.sheet_rules.specs.Rows.{areas, area_count}
use Rattle.sheet_rules.specs.Lookup.{lies_in}
use Rattle.sheet_rules.proofs.Rows.{areas_from}
use Rattle.lookup.proofs.lies_at.Given as goal

abbrev pub invariant-loop-k : goal.invariant-loop-k
invariant-loop-k l =
    record {
      count : l.k-end ≡ area_count l.sheet;
      same : lies_in (areas_from l.sheet l.k) l.address ≡ lies_in (areas l.sheet) l.address;
    }
