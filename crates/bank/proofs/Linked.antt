-- The crate's code in a build: its table, and that each function that a crate above calls is found there with all that it calls, where the build has
-- what the crate asks of those below. Of the tables `runs` makes a machine. Assumes nothing.
use mathlib.Core.Bool.{true}
use prog.Linked.{Tree, World, Holds, in_world}
use prog.LinkedThreads.{HasT}
use Rattle.bank.proofs.TheLink as own
use Rattle.bank.proofs.check.Symbol as check
use Rattle.bank.proofs.fresh.Symbol as fresh
use Rattle.bank.proofs.post.Symbol as post
use Rattle.bank.proofs.set_mark.Symbol as set_mark

abbrev pub table : Tree
table = own.table

abbrev pub Below : World → Type 0
Below = own.Below

module _ (build : World) (here : Holds build "bank" table) (below : Below build) where
  pub has_check : HasT (in_world build) true check.code
  has_check = own.linked-bank::check build here below

  pub has_fresh : HasT (in_world build) true fresh.code
  has_fresh = own.linked-bank::fresh build here below

  pub has_post : HasT (in_world build) true post.code
  has_post = own.linked-bank::post build here below

  pub has_set_mark : HasT (in_world build) true set_mark.code
  has_set_mark = own.linked-bank::set_mark build here below
