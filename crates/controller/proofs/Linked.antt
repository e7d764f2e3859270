-- The crate's code in a build: its table, and that each function that a crate above calls is found there with all that it calls, where the build has
-- what the crate asks of those below. Of the tables `runs` makes a machine. Assumes nothing.
use mathlib.Core.Bool.{true}
use prog.Linked.{Tree, World, Holds, in_world}
use prog.LinkedThreads.{HasT}
use Rattle.controller.proofs.TheLink as own
use Rattle.controller.proofs.query.Symbol as query
use Rattle.controller.proofs.reply.Symbol as reply

abbrev pub table : Tree
table = own.table

abbrev pub Below : World → Type 0
Below = own.Below

module _ (build : World) (here : Holds build "controller" table) (below : Below build) where
  pub has_query : HasT (in_world build) true query.code
  has_query = own.linked-controller::query build here below

  pub has_reply : HasT (in_world build) true reply.code
  has_reply = own.linked-controller::reply build here below
