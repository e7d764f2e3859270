-- The crate's code in a build: its table, and that each function that a crate above calls is found there with all that it calls, where the build has
-- what the crate asks of those below. Of the tables `runs` makes a machine. Assumes nothing.
use mathlib.Core.Bool.{true}
use prog.Linked.{Tree, World, Holds, in_world}
use prog.LinkedThreads.{HasT}
use Rattle.header.proofs.TheLink as own
use Rattle.header.proofs.check.Symbol as check
use Rattle.header.proofs.clear_sound_without_05.Symbol as clear_sound_without_05
use Rattle.header.proofs.sums_05.Symbol as sums_05

abbrev pub table : Tree
table = own.table

abbrev pub Below : World → Type 0
Below = own.Below

module _ (build : World) (here : Holds build "header" table) (below : Below build) where
  pub has_check : HasT (in_world build) true check.code
  has_check = own.linked-header::check build here below

  pub has_clear_sound_without_05 : HasT (in_world build) true clear_sound_without_05.code
  has_clear_sound_without_05 = own.linked-header::clear_sound_without_05 build here below

  pub has_sums_05 : HasT (in_world build) true sums_05.code
  has_sums_05 = own.linked-header::sums_05 build here below
