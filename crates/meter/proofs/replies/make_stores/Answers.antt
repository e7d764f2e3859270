-- `meter::replies::make_stores` meets its contract, judgement by judgement. Assumes nothing.
use Rattle.std.proofs.Common.{ℕ, ◌*◌, ap, ◌∙◌}
use Rattle.words.specs.Words.{with_word}
use Rattle.bank_rules.specs.Stores.{stored}
use Rattle.bank_rules.specs.Calls.{lent}
use Rattle.meter_rules.specs.Reply.{stores_of}
use Rattle.meter.proofs.Acting.{stored_by, nothing_stored, rest_storeless, no_stores, run_stores_lem, many_stores}
use Rattle.meter.proofs.replies.make_stores.Goals as goal

pub returns-in-BadItem : goal.returns-in-BadItem
unfolding stores_of
returns-in-BadItem c =
    let a = c.args in
    let told = c.in-BadItem in
    stored_by a.judged (lent a.sheet.now a.bank.now) a.frame.now told.is
    (c.store_run.ensures ∙ ap (stored a.bank.now) (run_stores_lem a.frame.now told.first told.stop c.count_to.result c.count_to.ensures))

pub returns-in-GoodClear : goal.returns-in-GoodClear
unfolding stores_of stored
returns-in-GoodClear c =
    let a = c.args in
    stored_by a.judged (lent a.sheet.now a.bank.now) a.frame.now c.in-GoodClear.is
    (c.store_word.ensures ∙ ap (λ (n : ℕ). with_word a.bank.now (2 * n) 0) c.bank_words.ensures)

pub returns-in-GoodWrite : goal.returns-in-GoodWrite
unfolding stores_of
returns-in-GoodWrite c =
    let a = c.args in
    let told = c.in-GoodWrite in
    stored_by a.judged (lent a.sheet.now a.bank.now) a.frame.now told.is
    (c.store_run-in-GoodWrite.ensures ∙ ap (stored a.bank.now) (many_stores a.frame.now told.first told.many))

pub returns-in_default : goal.returns-in_default
returns-in_default c =
    let a = c.args in
    let rest = rest_storeless a.judged c.in_default.not-BadItem c.in_default.not-GoodClear c.in_default.not-GoodWrite in
    nothing_stored a.judged (lent a.sheet.now a.bank.now) a.frame.now (no_stores a.judged rest)
