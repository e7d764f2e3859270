-- The crate's code in a build: its table, and that each function that a crate above calls is found there with all that it calls, where the build has
-- what the crate asks of those below. Of the tables `runs` makes a machine. Assumes nothing.
use mathlib.Core.Bool.{true}
use prog.Linked.{Tree, World, Holds, in_world}
use prog.LinkedThreads.{HasT}
use Rattle.one_row.proofs.TheLink as own
use Rattle.one_row.proofs.address_found.Symbol as address_found
use Rattle.one_row.proofs.apart.Symbol as apart
use Rattle.one_row.proofs.area_sound.Symbol as area_sound
use Rattle.one_row.proofs.clear_outside.Symbol as clear_outside
use Rattle.one_row.proofs.in_area.Symbol as in_area
use Rattle.one_row.proofs.in_records.Symbol as in_records
use Rattle.one_row.proofs.item_sound.Symbol as item_sound
use Rattle.one_row.proofs.length_of.Symbol as length_of
use Rattle.one_row.proofs.rate_found.Symbol as rate_found
use Rattle.one_row.proofs.records_sound.Symbol as records_sound
use Rattle.one_row.proofs.size_of.Symbol as size_of

abbrev pub table : Tree
table = own.table

abbrev pub Below : World → Type 0
Below = own.Below

module _ (build : World) (here : Holds build "one_row" table) (below : Below build) where
  pub has_address_found : HasT (in_world build) true address_found.code
  has_address_found = own.linked-one_row::address_found build here below

  pub has_apart : HasT (in_world build) true apart.code
  has_apart = own.linked-one_row::apart build here below

  pub has_area_sound : HasT (in_world build) true area_sound.code
  has_area_sound = own.linked-one_row::area_sound build here below

  pub has_clear_outside : HasT (in_world build) true clear_outside.code
  has_clear_outside = own.linked-one_row::clear_outside build here below

  pub has_in_area : HasT (in_world build) true in_area.code
  has_in_area = own.linked-one_row::in_area build here below

  pub has_in_records : HasT (in_world build) true in_records.code
  has_in_records = own.linked-one_row::in_records build here below

  pub has_item_sound : HasT (in_world build) true item_sound.code
  has_item_sound = own.linked-one_row::item_sound build here below

  pub has_length_of : HasT (in_world build) true length_of.code
  has_length_of = own.linked-one_row::length_of build here below

  pub has_rate_found : HasT (in_world build) true rate_found.code
  has_rate_found = own.linked-one_row::rate_found build here below

  pub has_records_sound : HasT (in_world build) true records_sound.code
  has_records_sound = own.linked-one_row::records_sound build here below

  pub has_size_of : HasT (in_world build) true size_of.code
  has_size_of = own.linked-one_row::size_of build here below
