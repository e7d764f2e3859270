-- The crate's code in a build: its table, and that each function that a crate above calls is found there with all that it calls, where the build has
-- what the crate asks of those below. Of the tables `runs` makes a machine. Assumes nothing.
use mathlib.Core.Bool.{true}
use prog.Linked.{Tree, World, Holds, in_world}
use prog.LinkedThreads.{HasT}
use Rattle.cedarskein.proofs.TheLink as own
use Rattle.cedarskein.proofs.cedarskein_check_start.Symbol as cedarskein_check_start
use Rattle.cedarskein.proofs.cedarskein_check_take.Symbol as cedarskein_check_take
use Rattle.cedarskein.proofs.cedarskein_check_value.Symbol as cedarskein_check_value
use Rattle.cedarskein.proofs.cedarskein_sheet_check.Symbol as cedarskein_sheet_check
use Rattle.cedarskein.proofs.cedarskein_bank_check.Symbol as cedarskein_bank_check
use Rattle.cedarskein.proofs.cedarskein_bank_fresh.Symbol as cedarskein_bank_fresh
use Rattle.cedarskein.proofs.cedarskein_post.Symbol as cedarskein_post
use Rattle.cedarskein.proofs.cedarskein_set_mark.Symbol as cedarskein_set_mark
use Rattle.cedarskein.proofs.cedarskein_ring_check.Symbol as cedarskein_ring_check
use Rattle.cedarskein.proofs.cedarskein_add_record.Symbol as cedarskein_add_record
use Rattle.cedarskein.proofs.cedarskein_answer.Symbol as cedarskein_answer
use Rattle.cedarskein.proofs.cedarskein_why.Symbol as cedarskein_why
use Rattle.cedarskein.proofs.cedarskein_query.Symbol as cedarskein_query
use Rattle.cedarskein.proofs.cedarskein_reply.Symbol as cedarskein_reply

abbrev pub table : Tree
table = own.table

abbrev pub Below : World → Type 0
Below = own.Below

module _ (build : World) (here : Holds build "cedarskein" table) (below : Below build) where
  pub has_cedarskein_check_start : HasT (in_world build) true cedarskein_check_start.code
  has_cedarskein_check_start = own.linked-cedarskein::cedarskein_check_start build here below

  pub has_cedarskein_check_take : HasT (in_world build) true cedarskein_check_take.code
  has_cedarskein_check_take = own.linked-cedarskein::cedarskein_check_take build here below

  pub has_cedarskein_check_value : HasT (in_world build) true cedarskein_check_value.code
  has_cedarskein_check_value = own.linked-cedarskein::cedarskein_check_value build here below

  pub has_cedarskein_sheet_check : HasT (in_world build) true cedarskein_sheet_check.code
  has_cedarskein_sheet_check = own.linked-cedarskein::cedarskein_sheet_check build here below

  pub has_cedarskein_bank_check : HasT (in_world build) true cedarskein_bank_check.code
  has_cedarskein_bank_check = own.linked-cedarskein::cedarskein_bank_check build here below

  pub has_cedarskein_bank_fresh : HasT (in_world build) true cedarskein_bank_fresh.code
  has_cedarskein_bank_fresh = own.linked-cedarskein::cedarskein_bank_fresh build here below

  pub has_cedarskein_post : HasT (in_world build) true cedarskein_post.code
  has_cedarskein_post = own.linked-cedarskein::cedarskein_post build here below

  pub has_cedarskein_set_mark : HasT (in_world build) true cedarskein_set_mark.code
  has_cedarskein_set_mark = own.linked-cedarskein::cedarskein_set_mark build here below

  pub has_cedarskein_ring_check : HasT (in_world build) true cedarskein_ring_check.code
  has_cedarskein_ring_check = own.linked-cedarskein::cedarskein_ring_check build here below

  pub has_cedarskein_add_record : HasT (in_world build) true cedarskein_add_record.code
  has_cedarskein_add_record = own.linked-cedarskein::cedarskein_add_record build here below

  pub has_cedarskein_answer : HasT (in_world build) true cedarskein_answer.code
  has_cedarskein_answer = own.linked-cedarskein::cedarskein_answer build here below

  pub has_cedarskein_why : HasT (in_world build) true cedarskein_why.code
  has_cedarskein_why = own.linked-cedarskein::cedarskein_why build here below

  pub has_cedarskein_query : HasT (in_world build) true cedarskein_query.code
  has_cedarskein_query = own.linked-cedarskein::cedarskein_query build here below

  pub has_cedarskein_reply : HasT (in_world build) true cedarskein_reply.code
  has_cedarskein_reply = own.linked-cedarskein::cedarskein_reply build here below
