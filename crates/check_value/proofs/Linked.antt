-- The crate's code in a build: its table, and that each function that a crate above calls is found there with all that it calls, where the build has
-- what the crate asks of those below. Of the tables `runs` makes a machine. Assumes nothing.
use mathlib.Core.Bool.{true}
use prog.Linked.{Tree, World, Holds, in_world}
use prog.LinkedThreads.{HasT}
use Rattle.check_value.proofs.TheLink as own
use Rattle.check_value.proofs.Check.start.Symbol as check_start
use Rattle.check_value.proofs.Check.take.Symbol as check_take
use Rattle.check_value.proofs.Check.value.Symbol as check_value
use Rattle.check_value.proofs.passes.Symbol as passes
use Rattle.check_value.proofs.seal.Symbol as seal
use Rattle.check_value.proofs.value_of.Symbol as value_of

abbrev pub table : Tree
table = own.table

abbrev pub Below : World → Type 0
Below = own.Below

module _ (build : World) (here : Holds build "check_value" table) (below : Below build) where
  pub has_check_start : HasT (in_world build) true check_start.code
  has_check_start = own.linked-check_value::Check::start build here below

  pub has_check_take : HasT (in_world build) true check_take.code
  has_check_take = own.linked-check_value::Check::take build here below

  pub has_check_value : HasT (in_world build) true check_value.code
  has_check_value = own.linked-check_value::Check::value build here below

  pub has_passes : HasT (in_world build) true passes.code
  has_passes = own.linked-check_value::passes build here below

  pub has_seal : HasT (in_world build) true seal.code
  has_seal = own.linked-check_value::seal build here below

  pub has_value_of : HasT (in_world build) true value_of.code
  has_value_of = own.linked-check_value::value_of build here below
