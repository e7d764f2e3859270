-- The walk over the area rows: the address of the place by the areas from here on is that by all of them.
use Rattle.std.proofs.Common.{◌≡◌}
use Rattle.sheet_rules.specs.Rows.{areas, area_count}
use Rattle.sheet_rules.specs.Lookup.{address_of}
use Rattle.sheet_rules.proofs.Rows.{areas_from}
use Rattle.lookup.proofs.address_of.Given as goal

abbrev pub invariant-loop-k : goal.invariant-loop-k
invariant-loop-k l =
    record {
      count : l.k-end ≡ area_count l.sheet;
      same : address_of (areas_from l.sheet l.k) l.place ≡ address_of (areas l.sheet) l.place;
    }
