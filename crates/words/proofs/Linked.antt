-- The crate's code in a build: its table, and that each function that a crate above calls is found there with all that it calls, where the build has
-- what the crate asks of those below. Of the tables `runs` makes a machine. Assumes nothing.
use mathlib.Core.Bool.{true}
use prog.Linked.{Tree, World, Holds, in_world}
use prog.LinkedThreads.{HasT}
use Rattle.words.proofs.TheLink as own
use Rattle.words.proofs.byte_at.Symbol as byte_at
use Rattle.words.proofs.store_byte.Symbol as store_byte
use Rattle.words.proofs.store_word.Symbol as store_word
use Rattle.words.proofs.word_at.Symbol as word_at

abbrev pub table : Tree
table = own.table

abbrev pub Below : World → Type 0
Below = own.Below

module _ (build : World) (here : Holds build "words" table) (below : Below build) where
  pub has_byte_at : HasT (in_world build) true byte_at.code
  has_byte_at = own.linked-words::byte_at build here below

  pub has_store_byte : HasT (in_world build) true store_byte.code
  has_store_byte = own.linked-words::store_byte build here below

  pub has_store_word : HasT (in_world build) true store_word.code
  has_store_word = own.linked-words::store_word build here below

  pub has_word_at : HasT (in_world build) true word_at.code
  has_word_at = own.linked-words::word_at build here below
