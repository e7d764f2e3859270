-- The crate's code in a build: its table, and that each function that a crate above calls is found there with all that it calls, where the build has
-- what the crate asks of those below. Of the tables `runs` makes a machine. Assumes nothing.
use mathlib.Core.Bool.{true}
use prog.Linked.{Tree, World, Holds, in_world}
use prog.LinkedThreads.{HasT}
use Rattle.bank_steps.proofs.TheLink as own
use Rattle.bank_steps.proofs.all_read_only.Symbol as all_read_only
use Rattle.bank_steps.proofs.check_size.Symbol as check_size
use Rattle.bank_steps.proofs.empty_or_odd.Symbol as empty_or_odd
use Rattle.bank_steps.proofs.store_item.Symbol as store_item
use Rattle.bank_steps.proofs.value_in.Symbol as value_in
use Rattle.bank_steps.proofs.zero_words.Symbol as zero_words

abbrev pub table : Tree
table = own.table

abbrev pub Below : World → Type 0
Below = own.Below

module _ (build : World) (here : Holds build "bank_steps" table) (below : Below build) where
  pub has_all_read_only : HasT (in_world build) true all_read_only.code
  has_all_read_only = own.linked-bank_steps::all_read_only build here below

  pub has_check_size : HasT (in_world build) true check_size.code
  has_check_size = own.linked-bank_steps::check_size build here below

  pub has_empty_or_odd : HasT (in_world build) true empty_or_odd.code
  has_empty_or_odd = own.linked-bank_steps::empty_or_odd build here below

  pub has_store_item : HasT (in_world build) true store_item.code
  has_store_item = own.linked-bank_steps::store_item build here below

  pub has_value_in : HasT (in_world build) true value_in.code
  has_value_in = own.linked-bank_steps::value_in build here below

  pub has_zero_words : HasT (in_world build) true zero_words.code
  has_zero_words = own.linked-bank_steps::zero_words build here below
