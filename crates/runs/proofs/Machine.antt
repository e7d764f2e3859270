-- There is a machine that has the code of the whole door, so that what `Door` says of every such machine is said of one. Of each crate's code the kit makes
-- a table, which the crate's `Linked` passes on, and of tables it makes an environment. What a crate calls of those below stands here by the order of their
-- names, as the kit has it. The tables of crates above the door can stand behind its own, so that there is a machine that has their code too.
-- Assumes nothing.
use mathlib.Core.Path.{refl}
use mathlib.Core.Bool.{true}
use mathlib.Core.List.{[], ◌∷◌}
use lib.Chars.{codes}
use prog.Routine.{Env}
use prog.Wired.{Code, Wired}
use prog.Linked.{World, Holds, in_world}
use prog.LinkedThreads.{HasT, tie_t, has-wired_t, tie_t-follows, tie_t-threads}
use Rattle.words.proofs.Linked as words
use Rattle.refusals.proofs.Linked as refusals
use Rattle.check_value.proofs.Linked as check_value
use Rattle.range.proofs.Linked as range
use Rattle.one_row.proofs.Linked as one_row
use Rattle.rows.proofs.Linked as rows
use Rattle.header.proofs.Linked as header
use Rattle.lookup.proofs.Linked as lookup
use Rattle.sheet.proofs.Linked as sheet
use Rattle.bank_steps.proofs.Linked as bank_steps
use Rattle.bank.proofs.Linked as bank
use Rattle.ring.proofs.Linked as ring
use Rattle.frame.proofs.Linked as frame
use Rattle.controller.proofs.Linked as controller
use Rattle.meter.proofs.Linked as meter
use Rattle.why.proofs.Linked as why
use Rattle.cedarskein.proofs.Linked as cedarskein
use Rattle.cedarskein.proofs.cedarskein_check_start.Symbol as check_start_code
use Rattle.cedarskein.proofs.cedarskein_check_take.Symbol as check_take_code
use Rattle.cedarskein.proofs.cedarskein_check_value.Symbol as check_value_code
use Rattle.cedarskein.proofs.cedarskein_sheet_check.Symbol as sheet_check_code
use Rattle.cedarskein.proofs.cedarskein_bank_check.Symbol as bank_check_code
use Rattle.cedarskein.proofs.cedarskein_bank_fresh.Symbol as bank_fresh_code
use Rattle.cedarskein.proofs.cedarskein_post.Symbol as post_code
use Rattle.cedarskein.proofs.cedarskein_set_mark.Symbol as set_mark_code
use Rattle.cedarskein.proofs.cedarskein_ring_check.Symbol as ring_check_code
use Rattle.cedarskein.proofs.cedarskein_add_record.Symbol as add_record_code
use Rattle.cedarskein.proofs.cedarskein_answer.Symbol as answer_code
use Rattle.cedarskein.proofs.cedarskein_why.Symbol as why_code
use Rattle.cedarskein.proofs.cedarskein_query.Symbol as query_code
use Rattle.cedarskein.proofs.cedarskein_reply.Symbol as reply_code

infixr 5 ◌&◌
abbrev ◌&◌ : {P Q : Type 0} → P → Q → P × Q
p & q = (p, q)

module _ (more : World) where
  -- the crates' tables, and behind them those of what stands above the door
  unfoldable pub build : World
  build =
      (codes "words", words.table)
      ∷ (codes "refusals", refusals.table)
      ∷ (codes "check_value", check_value.table)
      ∷ (codes "range", range.table)
      ∷ (codes "one_row", one_row.table)
      ∷ (codes "rows", rows.table)
      ∷ (codes "header", header.table)
      ∷ (codes "lookup", lookup.table)
      ∷ (codes "sheet", sheet.table)
      ∷ (codes "bank_steps", bank_steps.table)
      ∷ (codes "bank", bank.table)
      ∷ (codes "ring", ring.table)
      ∷ (codes "frame", frame.table)
      ∷ (codes "controller", controller.table)
      ∷ (codes "meter", meter.table)
      ∷ (codes "why", why.table)
      ∷ (codes "cedarskein", cedarskein.table)
      ∷ more

  words_here : Holds build "words" words.table
  unfolding build
  words_here = refl

  words_below : words.Below build
  words_below = tt

  refusals_here : Holds build "refusals" refusals.table
  unfolding build
  refusals_here = refl

  refusals_below : refusals.Below build
  refusals_below = tt

  check_value_here : Holds build "check_value" check_value.table
  unfolding build
  check_value_here = refl

  check_value_below : check_value.Below build
  check_value_below = tt

  range_here : Holds build "range" range.table
  unfolding build
  range_here = refl

  range_below : range.Below build
  range_below = tt

  one_row_here : Holds build "one_row" one_row.table
  unfolding build
  one_row_here = refl

  one_row_below : one_row.Below build
  one_row_below =
      range.has_in_range build range_here range_below
      & range.has_not_above build range_here range_below
      & tt

  rows_here : Holds build "rows" rows.table
  unfolding build
  rows_here = refl

  rows_below : rows.Below build
  rows_below =
      words.has_word_at build words_here words_below
      & tt

  header_here : Holds build "header" header.table
  unfolding build
  header_here = refl

  header_below : header.Below build
  header_below =
      rows.has_header build rows_here rows_below
      & tt

  lookup_here : Holds build "lookup" lookup.table
  unfolding build
  lookup_here = refl

  lookup_below : lookup.Below build
  lookup_below =
      one_row.has_in_area build one_row_here one_row_below
      & rows.has_area_count build rows_here rows_below
      & rows.has_area_row build rows_here rows_below
      & tt

  sheet_here : Holds build "sheet" sheet.table
  unfolding build
  sheet_here = refl

  sheet_below : sheet.Below build
  sheet_below =
      header.has_check build header_here header_below
      & header.has_clear_sound_without_05 build header_here header_below
      & header.has_sums_05 build header_here header_below
      & one_row.has_address_found build one_row_here one_row_below
      & one_row.has_apart build one_row_here one_row_below
      & one_row.has_area_sound build one_row_here one_row_below
      & one_row.has_clear_outside build one_row_here one_row_below
      & one_row.has_in_records build one_row_here one_row_below
      & one_row.has_item_sound build one_row_here one_row_below
      & one_row.has_length_of build one_row_here one_row_below
      & one_row.has_rate_found build one_row_here one_row_below
      & one_row.has_records_sound build one_row_here one_row_below
      & one_row.has_size_of build one_row_here one_row_below
      & rows.has_area_row build rows_here rows_below
      & rows.has_item_row build rows_here rows_below
      & rows.has_record_row build rows_here rows_below
      & tt

  bank_steps_here : Holds build "bank_steps" bank_steps.table
  unfolding build
  bank_steps_here = refl

  bank_steps_below : bank_steps.Below build
  bank_steps_below =
      lookup.has_lies_at build lookup_here lookup_below
      & rows.has_bank_words build rows_here rows_below
      & sheet.has_check build sheet_here sheet_below
      & words.has_store_word build words_here words_below
      & words.has_word_at build words_here words_below
      & tt

  bank_here : Holds build "bank" bank.table
  unfolding build
  bank_here = refl

  bank_below : bank.Below build
  bank_below =
      bank_steps.has_all_read_only build bank_steps_here bank_steps_below
      & bank_steps.has_check_size build bank_steps_here bank_steps_below
      & bank_steps.has_empty_or_odd build bank_steps_here bank_steps_below
      & bank_steps.has_store_item build bank_steps_here bank_steps_below
      & bank_steps.has_value_in build bank_steps_here bank_steps_below
      & bank_steps.has_zero_words build bank_steps_here bank_steps_below
      & lookup.has_lies_at build lookup_here lookup_below
      & lookup.has_place_in build lookup_here lookup_below
      & range.has_inside build range_here range_below
      & range.has_side_of build range_here range_below
      & rows.has_address_place build rows_here rows_below
      & rows.has_area_count build rows_here rows_below
      & rows.has_bank_words build rows_here rows_below
      & rows.has_item_end build rows_here rows_below
      & rows.has_item_row build rows_here rows_below
      & rows.has_rate_place build rows_here rows_below
      & words.has_store_word build words_here words_below
      & words.has_word_at build words_here words_below
      & tt

  ring_here : Holds build "ring" ring.table
  unfolding build
  ring_here = refl

  ring_below : ring.Below build
  ring_below =
      rows.has_has_records build rows_here rows_below
      & rows.has_record_area build rows_here rows_below
      & sheet.has_check build sheet_here sheet_below
      & words.has_store_word build words_here words_below
      & words.has_word_at build words_here words_below
      & tt

  frame_here : Holds build "frame" frame.table
  unfolding build
  frame_here = refl

  frame_below : frame.Below build
  frame_below =
      check_value.has_passes build check_value_here check_value_below
      & check_value.has_seal build check_value_here check_value_below
      & words.has_byte_at build words_here words_below
      & words.has_store_word build words_here words_below
      & words.has_word_at build words_here words_below
      & tt

  controller_here : Holds build "controller" controller.table
  unfolding build
  controller_here = refl

  controller_below : controller.Below build
  controller_below =
      check_value.has_seal build check_value_here check_value_below
      & frame.has_taken_apart build frame_here frame_below
      & frame.has_top_bit_set build frame_here frame_below
      & words.has_byte_at build words_here words_below
      & words.has_store_byte build words_here words_below
      & words.has_store_word build words_here words_below
      & tt

  meter_here : Holds build "meter" meter.table
  unfolding build
  meter_here = refl

  meter_below : meter.Below build
  meter_below =
      bank.has_check build bank_here bank_below
      & frame.has_reply_echo build frame_here frame_below
      & frame.has_reply_error build frame_here frame_below
      & frame.has_reply_read build frame_here frame_below
      & frame.has_taken_apart build frame_here frame_below
      & lookup.has_reached build lookup_here lookup_below
      & one_row.has_in_records build one_row_here one_row_below
      & range.has_inside build range_here range_below
      & range.has_side_of build range_here range_below
      & ring.has_fits build ring_here ring_below
      & rows.has_address_place build rows_here rows_below
      & rows.has_area_count build rows_here rows_below
      & rows.has_bank_words build rows_here rows_below
      & rows.has_clear_address build rows_here rows_below
      & rows.has_functions build rows_here rows_below
      & rows.has_has_records build rows_here rows_below
      & rows.has_item_count build rows_here rows_below
      & rows.has_item_end build rows_here rows_below
      & rows.has_item_place build rows_here rows_below
      & rows.has_item_row build rows_here rows_below
      & rows.has_rate_place build rows_here rows_below
      & rows.has_record_area build rows_here rows_below
      & words.has_byte_at build words_here words_below
      & words.has_store_word build words_here words_below
      & words.has_word_at build words_here words_below
      & tt

  why_here : Holds build "why" why.table
  unfolding build
  why_here = refl

  why_below : why.Below build
  why_below =
      lookup.has_address_of build lookup_here lookup_below
      & lookup.has_reached build lookup_here lookup_below
      & meter.has_judge build meter_here meter_below
      & words.has_byte_at build words_here words_below
      & words.has_word_at build words_here words_below
      & tt

  pub cedarskein_here : Holds build "cedarskein" cedarskein.table
  unfolding build
  cedarskein_here = refl

  pub cedarskein_below : cedarskein.Below build
  cedarskein_below =
      bank.has_check build bank_here bank_below
      & bank.has_fresh build bank_here bank_below
      & bank.has_post build bank_here bank_below
      & bank.has_set_mark build bank_here bank_below
      & check_value.has_check_start build check_value_here check_value_below
      & check_value.has_check_take build check_value_here check_value_below
      & check_value.has_check_value build check_value_here check_value_below
      & check_value.has_value_of build check_value_here check_value_below
      & controller.has_query build controller_here controller_below
      & controller.has_reply build controller_here controller_below
      & meter.has_answer build meter_here meter_below
      & refusals.has_from build refusals_here refusals_below
      & ring.has_add build ring_here ring_below
      & ring.has_check build ring_here ring_below
      & sheet.has_check build sheet_here sheet_below
      & why.has_why build why_here why_below
      & tt

  pub machine : Env
  machine = tie_t (in_world build)

  pub machine_has : (code : Code) → HasT (in_world build) true code → Wired machine code
  unfolding machine
  machine_has code found = has-wired_t (in_world build) machine (tie_t-follows (in_world build)) (tie_t-threads (in_world build)) code found

-- the machine that has the code of the door alone
pub door_machine : Env
door_machine = machine []

has : (code : Code) → HasT (in_world (build [])) true code → Wired door_machine code
unfolding door_machine
has = machine_has []

pub has_check_start : Wired door_machine check_start_code.code
has_check_start = has check_start_code.code (cedarskein.has_cedarskein_check_start (build []) (cedarskein_here []) (cedarskein_below []))

pub has_check_take : Wired door_machine check_take_code.code
has_check_take = has check_take_code.code (cedarskein.has_cedarskein_check_take (build []) (cedarskein_here []) (cedarskein_below []))

pub has_check_value : Wired door_machine check_value_code.code
has_check_value = has check_value_code.code (cedarskein.has_cedarskein_check_value (build []) (cedarskein_here []) (cedarskein_below []))

pub has_sheet_check : Wired door_machine sheet_check_code.code
has_sheet_check = has sheet_check_code.code (cedarskein.has_cedarskein_sheet_check (build []) (cedarskein_here []) (cedarskein_below []))

pub has_bank_check : Wired door_machine bank_check_code.code
has_bank_check = has bank_check_code.code (cedarskein.has_cedarskein_bank_check (build []) (cedarskein_here []) (cedarskein_below []))

pub has_bank_fresh : Wired door_machine bank_fresh_code.code
has_bank_fresh = has bank_fresh_code.code (cedarskein.has_cedarskein_bank_fresh (build []) (cedarskein_here []) (cedarskein_below []))

pub has_post : Wired door_machine post_code.code
has_post = has post_code.code (cedarskein.has_cedarskein_post (build []) (cedarskein_here []) (cedarskein_below []))

pub has_set_mark : Wired door_machine set_mark_code.code
has_set_mark = has set_mark_code.code (cedarskein.has_cedarskein_set_mark (build []) (cedarskein_here []) (cedarskein_below []))

pub has_ring_check : Wired door_machine ring_check_code.code
has_ring_check = has ring_check_code.code (cedarskein.has_cedarskein_ring_check (build []) (cedarskein_here []) (cedarskein_below []))

pub has_add_record : Wired door_machine add_record_code.code
has_add_record = has add_record_code.code (cedarskein.has_cedarskein_add_record (build []) (cedarskein_here []) (cedarskein_below []))

pub has_answer : Wired door_machine answer_code.code
has_answer = has answer_code.code (cedarskein.has_cedarskein_answer (build []) (cedarskein_here []) (cedarskein_below []))

pub has_why : Wired door_machine why_code.code
has_why = has why_code.code (cedarskein.has_cedarskein_why (build []) (cedarskein_here []) (cedarskein_below []))

pub has_query : Wired door_machine query_code.code
has_query = has query_code.code (cedarskein.has_cedarskein_query (build []) (cedarskein_here []) (cedarskein_below []))

pub has_reply : Wired door_machine reply_code.code
has_reply = has reply_code.code (cedarskein.has_cedarskein_reply (build []) (cedarskein_here []) (cedarskein_below []))
