-- The crate's code in a build: its table, and that each function that a crate above calls is found there with all that it calls, where the build has
-- what the crate asks of those below. Of the tables `runs` makes a machine. Assumes nothing.
use mathlib.Core.Bool.{true}
use prog.Linked.{Tree, World, Holds, in_world}
use prog.LinkedThreads.{HasT}
use Rattle.frame.proofs.TheLink as own
use Rattle.frame.proofs.reply_echo.Symbol as reply_echo
use Rattle.frame.proofs.reply_error.Symbol as reply_error
use Rattle.frame.proofs.reply_read.Symbol as reply_read
use Rattle.frame.proofs.taken_apart.Symbol as taken_apart
use Rattle.frame.proofs.top_bit_set.Symbol as top_bit_set

abbrev pub table : Tree
table = own.table

abbrev pub Below : World → Type 0
Below = own.Below

module _ (build : World) (here : Holds build "frame" table) (below : Below build) where
  pub has_reply_echo : HasT (in_world build) true reply_echo.code
  has_reply_echo = own.linked-frame::reply_echo build here below

  pub has_reply_error : HasT (in_world build) true reply_error.code
  has_reply_error = own.linked-frame::reply_error build here below

  pub has_reply_read : HasT (in_world build) true reply_read.code
  has_reply_read = own.linked-frame::reply_read build here below

  pub has_taken_apart : HasT (in_world build) true taken_apart.code
  has_taken_apart = own.linked-frame::taken_apart build here below

  pub has_top_bit_set : HasT (in_world build) true top_bit_set.code
  has_top_bit_set = own.linked-frame::top_bit_set build here below
