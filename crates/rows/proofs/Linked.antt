-- The crate's code in a build: its table, and that each function that a crate above calls is found there with all that it calls, where the build has
-- what the crate asks of those below. Of the tables `runs` makes a machine. Assumes nothing.
use mathlib.Core.Bool.{true}
use prog.Linked.{Tree, World, Holds, in_world}
use prog.LinkedThreads.{HasT}
use Rattle.rows.proofs.TheLink as own
use Rattle.rows.proofs.address_place.Symbol as address_place
use Rattle.rows.proofs.area_count.Symbol as area_count
use Rattle.rows.proofs.area_row.Symbol as area_row
use Rattle.rows.proofs.bank_words.Symbol as bank_words
use Rattle.rows.proofs.clear_address.Symbol as clear_address
use Rattle.rows.proofs.functions.Symbol as functions
use Rattle.rows.proofs.has_records.Symbol as has_records
use Rattle.rows.proofs.header.Symbol as header
use Rattle.rows.proofs.item_count.Symbol as item_count
use Rattle.rows.proofs.item_end.Symbol as item_end
use Rattle.rows.proofs.item_place.Symbol as item_place
use Rattle.rows.proofs.item_row.Symbol as item_row
use Rattle.rows.proofs.rate_place.Symbol as rate_place
use Rattle.rows.proofs.record_area.Symbol as record_area
use Rattle.rows.proofs.record_row.Symbol as record_row

abbrev pub table : Tree
table = own.table

abbrev pub Below : World → Type 0
Below = own.Below

module _ (build : World) (here : Holds build "rows" table) (below : Below build) where
  pub has_address_place : HasT (in_world build) true address_place.code
  has_address_place = own.linked-rows::address_place build here below

  pub has_area_count : HasT (in_world build) true area_count.code
  has_area_count = own.linked-rows::area_count build here below

  pub has_area_row : HasT (in_world build) true area_row.code
  has_area_row = own.linked-rows::area_row build here below

  pub has_bank_words : HasT (in_world build) true bank_words.code
  has_bank_words = own.linked-rows::bank_words build here below

  pub has_clear_address : HasT (in_world build) true clear_address.code
  has_clear_address = own.linked-rows::clear_address build here below

  pub has_functions : HasT (in_world build) true functions.code
  has_functions = own.linked-rows::functions build here below

  pub has_has_records : HasT (in_world build) true has_records.code
  has_has_records = own.linked-rows::has_records build here below

  pub has_header : HasT (in_world build) true header.code
  has_header = own.linked-rows::header build here below

  pub has_item_count : HasT (in_world build) true item_count.code
  has_item_count = own.linked-rows::item_count build here below

  pub has_item_end : HasT (in_world build) true item_end.code
  has_item_end = own.linked-rows::item_end build here below

  pub has_item_place : HasT (in_world build) true item_place.code
  has_item_place = own.linked-rows::item_place build here below

  pub has_item_row : HasT (in_world build) true item_row.code
  has_item_row = own.linked-rows::item_row build here below

  pub has_rate_place : HasT (in_world build) true rate_place.code
  has_rate_place = own.linked-rows::rate_place build here below

  pub has_record_area : HasT (in_world build) true record_area.code
  has_record_area = own.linked-rows::record_area build here below

  pub has_record_row : HasT (in_world build) true record_row.code
  has_record_row = own.linked-rows::record_row build here below
