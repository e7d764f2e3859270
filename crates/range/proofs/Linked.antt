-- The crate's code in a build: its table, and that each function that a crate above calls is found there with all that it calls, where the build has
-- what the crate asks of those below. Of the tables `runs` makes a machine. Assumes nothing.
use mathlib.Core.Bool.{true}
use prog.Linked.{Tree, World, Holds, in_world}
use prog.LinkedThreads.{HasT}
use Rattle.range.proofs.TheLink as own
use Rattle.range.proofs.in_range.Symbol as in_range
use Rattle.range.proofs.inside.Symbol as inside
use Rattle.range.proofs.not_above.Symbol as not_above
use Rattle.range.proofs.side_of.Symbol as side_of

abbrev pub table : Tree
table = own.table

abbrev pub Below : World → Type 0
Below = own.Below

module _ (build : World) (here : Holds build "range" table) (below : Below build) where
  pub has_in_range : HasT (in_world build) true in_range.code
  has_in_range = own.linked-range::in_range build here below

  pub has_inside : HasT (in_world build) true inside.code
  has_inside = own.linked-range::inside build here below

  pub has_not_above : HasT (in_world build) true not_above.code
  has_not_above = own.linked-range::not_above build here below

  pub has_side_of : HasT (in_world build) true side_of.code
  has_side_of = own.linked-range::side_of build here below
