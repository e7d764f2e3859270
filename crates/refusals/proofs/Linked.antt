-- The crate's code in a build: its table, and that each function that a crate above calls is found there with all that it calls, where the build has
-- what the crate asks of those below. Of the tables `runs` makes a machine. Assumes nothing.
use mathlib.Core.Bool.{true}
use prog.Linked.{Tree, World, Holds, in_world}
use prog.LinkedThreads.{HasT}
use Rattle.refusals.proofs.TheLink as own
use Rattle.refusals.proofs.U32FromRefusal.from.Symbol as from

abbrev pub table : Tree
table = own.table

abbrev pub Below : World → Type 0
Below = own.Below

module _ (build : World) (here : Holds build "refusals" table) (below : Below build) where
  pub has_from : HasT (in_world build) true from.code
  has_from = own.linked-refusals::U32FromRefusal::from build here below
