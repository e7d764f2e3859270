-- The crate's code in a build: its table, and that each function that a crate above calls is found there with all that it calls, where the build has
-- what the crate asks of those below. Of the tables `runs` makes a machine. Assumes nothing.
use mathlib.Core.Bool.{true}
use prog.Linked.{Tree, World, Holds, in_world}
use prog.LinkedThreads.{HasT}
use Rattle.lookup.proofs.TheLink as own
use Rattle.lookup.proofs.address_of.Symbol as address_of
use Rattle.lookup.proofs.lies_at.Symbol as lies_at
use Rattle.lookup.proofs.place_in.Symbol as place_in
use Rattle.lookup.proofs.reached.Symbol as reached

abbrev pub table : Tree
table = own.table

abbrev pub Below : World → Type 0
Below = own.Below

module _ (build : World) (here : Holds build "lookup" table) (below : Below build) where
  pub has_address_of : HasT (in_world build) true address_of.code
  has_address_of = own.linked-lookup::address_of build here below

  pub has_lies_at : HasT (in_world build) true lies_at.code
  has_lies_at = own.linked-lookup::lies_at build here below

  pub has_place_in : HasT (in_world build) true place_in.code
  has_place_in = own.linked-lookup::place_in build here below

  pub has_reached : HasT (in_world build) true reached.code
  has_reached = own.linked-lookup::reached build here below
