-- The crate's code in a build: its table, and that each function that a crate above calls is found there with all that it calls, where the build has
-- what the crate asks of those below. Of the tables `runs` makes a machine. Assumes nothing.
use mathlib.Core.Bool.{true}
use prog.Linked.{Tree, World, Holds, in_world}
use prog.LinkedThreads.{HasT}
use Rattle.ring.proofs.TheLink as own
use Rattle.ring.proofs.add.Symbol as add
use Rattle.ring.proofs.check.Symbol as check
use Rattle.ring.proofs.fits.Symbol as fits

abbrev pub table : Tree
table = own.table

abbrev pub Below : World → Type 0
Below = own.Below

module _ (build : World) (here : Holds build "ring" table) (below : Below build) where
  pub has_add : HasT (in_world build) true add.code
  has_add = own.linked-ring::add build here below

  pub has_check : HasT (in_world build) true check.code
  has_check = own.linked-ring::check build here below

  pub has_fits : HasT (in_world build) true fits.code
  has_fits = own.linked-ring::fits build here below
