-- The crate's code in a build: its table, and that each function that a crate above calls is found there with all that it calls, where the build has
-- what the crate asks of those below. Of the tables `runs` makes a machine. Assumes nothing.
use mathlib.Core.Bool.{true}
use prog.Linked.{Tree, World, Holds, in_world}
use prog.LinkedThreads.{HasT}
use Rattle.sheet.proofs.TheLink as own
use Rattle.sheet.proofs.check.Symbol as check

abbrev pub table : Tree
table = own.table

abbrev pub Below : World → Type 0
Below = own.Below

module _ (build : World) (here : Holds build "sheet" table) (below : Below build) where
  pub has_check : HasT (in_world build) true check.code
  has_check = own.linked-sheet::check build here below
