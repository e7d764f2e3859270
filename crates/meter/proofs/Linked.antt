-- The crate's code in a build: its table, and that each function that a crate above calls is found there with all that it calls, where the build has
-- what the crate asks of those below. Of the tables `runs` makes a machine. Assumes nothing.
use mathlib.Core.Bool.{true}
use prog.Linked.{Tree, World, Holds, in_world}
use prog.LinkedThreads.{HasT}
use Rattle.meter.proofs.TheLink as own
use Rattle.meter.proofs.answer.Symbol as answer
use Rattle.meter.proofs.judge.Symbol as judge

abbrev pub table : Tree
table = own.table

abbrev pub Below : World → Type 0
Below = own.Below

module _ (build : World) (here : Holds build "meter" table) (below : Below build) where
  pub has_answer : HasT (in_world build) true answer.code
  has_answer = own.linked-meter::answer build here below

  pub has_judge : HasT (in_world build) true judge.code
  has_judge = own.linked-meter::judge build here below
