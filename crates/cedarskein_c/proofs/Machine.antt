-- There is a machine that has the code of the exports, so that what `Exports` says of every such machine is said of one: the crate's table stands behind
-- the door's, of which `runs` makes its machine, and an export calls the function of its name there. Assumes nothing.
use mathlib.Core.Path.{refl}
use mathlib.Core.Bool.{true}
use mathlib.Core.List.{[], ◌∷◌}
use lib.Chars.{codes}
use prog.Routine.{Env}
use prog.Wired.{Code, Wired}
use prog.Linked.{World, Holds, in_world}
use prog.LinkedThreads.{HasT}
use Rattle.cedarskein.proofs.Linked as cedarskein
use Rattle.runs.proofs.Machine.{build, cedarskein_here, cedarskein_below, machine, machine_has}
use Rattle.cedarskein_c.proofs.TheLink as own
use Rattle.cedarskein_c.proofs.cedarskein_check_start.Symbol as check_start_code
use Rattle.cedarskein_c.proofs.cedarskein_check_take.Symbol as check_take_code
use Rattle.cedarskein_c.proofs.cedarskein_check_value.Symbol as check_value_code
use Rattle.cedarskein_c.proofs.cedarskein_sheet_check.Symbol as sheet_check_code
use Rattle.cedarskein_c.proofs.cedarskein_bank_check.Symbol as bank_check_code
use Rattle.cedarskein_c.proofs.cedarskein_bank_fresh.Symbol as bank_fresh_code
use Rattle.cedarskein_c.proofs.cedarskein_post.Symbol as post_code
use Rattle.cedarskein_c.proofs.cedarskein_set_mark.Symbol as set_mark_code
use Rattle.cedarskein_c.proofs.cedarskein_ring_check.Symbol as ring_check_code
use Rattle.cedarskein_c.proofs.cedarskein_add_record.Symbol as add_record_code
use Rattle.cedarskein_c.proofs.cedarskein_answer.Symbol as answer_code
use Rattle.cedarskein_c.proofs.cedarskein_why.Symbol as why_code
use Rattle.cedarskein_c.proofs.cedarskein_query.Symbol as query_code
use Rattle.cedarskein_c.proofs.cedarskein_reply.Symbol as reply_code

infixr 5 ◌&◌
abbrev ◌&◌ : {P Q : Type 0} → P → Q → P × Q
p & q = (p, q)

abbrev behind : World
behind = (codes "cedarskein_c", own.table) ∷ []

abbrev whole : World
whole = build behind

exports_here : Holds whole "cedarskein_c" own.table
unfolding build
exports_here = refl

exports_below : own.Below whole
exports_below =
    cedarskein.has_cedarskein_add_record whole (cedarskein_here behind) (cedarskein_below behind)
    & cedarskein.has_cedarskein_answer whole (cedarskein_here behind) (cedarskein_below behind)
    & cedarskein.has_cedarskein_bank_check whole (cedarskein_here behind) (cedarskein_below behind)
    & cedarskein.has_cedarskein_bank_fresh whole (cedarskein_here behind) (cedarskein_below behind)
    & cedarskein.has_cedarskein_check_start whole (cedarskein_here behind) (cedarskein_below behind)
    & cedarskein.has_cedarskein_check_take whole (cedarskein_here behind) (cedarskein_below behind)
    & cedarskein.has_cedarskein_check_value whole (cedarskein_here behind) (cedarskein_below behind)
    & cedarskein.has_cedarskein_post whole (cedarskein_here behind) (cedarskein_below behind)
    & cedarskein.has_cedarskein_query whole (cedarskein_here behind) (cedarskein_below behind)
    & cedarskein.has_cedarskein_reply whole (cedarskein_here behind) (cedarskein_below behind)
    & cedarskein.has_cedarskein_ring_check whole (cedarskein_here behind) (cedarskein_below behind)
    & cedarskein.has_cedarskein_set_mark whole (cedarskein_here behind) (cedarskein_below behind)
    & cedarskein.has_cedarskein_sheet_check whole (cedarskein_here behind) (cedarskein_below behind)
    & cedarskein.has_cedarskein_why whole (cedarskein_here behind) (cedarskein_below behind)
    & tt

pub export_machine : Env
export_machine = machine behind

has : (code : Code) → HasT (in_world whole) true code → Wired export_machine code
unfolding export_machine
has = machine_has behind

pub has_check_start : Wired export_machine check_start_code.code
has_check_start = has check_start_code.code (own.linked-cedarskein_c::cedarskein_check_start whole exports_here exports_below)

pub has_check_take : Wired export_machine check_take_code.code
has_check_take = has check_take_code.code (own.linked-cedarskein_c::cedarskein_check_take whole exports_here exports_below)

pub has_check_value : Wired export_machine check_value_code.code
has_check_value = has check_value_code.code (own.linked-cedarskein_c::cedarskein_check_value whole exports_here exports_below)

pub has_sheet_check : Wired export_machine sheet_check_code.code
has_sheet_check = has sheet_check_code.code (own.linked-cedarskein_c::cedarskein_sheet_check whole exports_here exports_below)

pub has_bank_check : Wired export_machine bank_check_code.code
has_bank_check = has bank_check_code.code (own.linked-cedarskein_c::cedarskein_bank_check whole exports_here exports_below)

pub has_bank_fresh : Wired export_machine bank_fresh_code.code
has_bank_fresh = has bank_fresh_code.code (own.linked-cedarskein_c::cedarskein_bank_fresh whole exports_here exports_below)

pub has_post : Wired export_machine post_code.code
has_post = has post_code.code (own.linked-cedarskein_c::cedarskein_post whole exports_here exports_below)

pub has_set_mark : Wired export_machine set_mark_code.code
has_set_mark = has set_mark_code.code (own.linked-cedarskein_c::cedarskein_set_mark whole exports_here exports_below)

pub has_ring_check : Wired export_machine ring_check_code.code
has_ring_check = has ring_check_code.code (own.linked-cedarskein_c::cedarskein_ring_check whole exports_here exports_below)

pub has_add_record : Wired export_machine add_record_code.code
has_add_record = has add_record_code.code (own.linked-cedarskein_c::cedarskein_add_record whole exports_here exports_below)

pub has_answer : Wired export_machine answer_code.code
has_answer = has answer_code.code (own.linked-cedarskein_c::cedarskein_answer whole exports_here exports_below)

pub has_why : Wired export_machine why_code.code
has_why = has why_code.code (own.linked-cedarskein_c::cedarskein_why whole exports_here exports_below)

pub has_query : Wired export_machine query_code.code
has_query = has query_code.code (own.linked-cedarskein_c::cedarskein_query whole exports_here exports_below)

pub has_reply : Wired export_machine reply_code.code
has_reply = has reply_code.code (own.linked-cedarskein_c::cedarskein_reply whole exports_here exports_below)
