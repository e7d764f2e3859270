-- `meter::replies::lay_reply` meets its contract: an error, the reply to a good frame, or none. Assumes nothing.
use Rattle.std.proofs.Common.{refl}
use Rattle.frame.specs.Reply.{read_reply, echo}
use Rattle.meter.proofs.Acting.{answers_error, answers_good, answers_none, rest_silent, no_good_reply, echo_told, echo_reply}
use Rattle.meter.proofs.replies.lay_reply.Goals as goal

pub returns-then-code-ne0 : goal.returns-then-code-ne0
returns-then-code-ne0 c =
    let a = c.args in
    answers_error a.judged a.bank.now a.ring.now a.frame.now a.buffer.now a.rate c.requires c.error_code-code.ensures c.if-code-ne0.true c.reply_error.ensures

pub returns-in-GoodRead : goal.returns-in-GoodRead
returns-in-GoodRead c =
    let a = c.args in
    let told = c.in-GoodRead in
    answers_good a.judged a.bank.now a.ring.now a.frame.now a.buffer.now a.rate c.requires c.error_code-code.ensures
    (read_reply a.bank.now a.frame.now told.first told.many) c.if-code-ne0.false told.is refl c.reply_read-length.ensures

pub returns-in-GoodRecord : goal.returns-in-GoodRecord
returns-in-GoodRecord c =
    let a = c.args in
    let told = c.in-GoodRecord in
    answers_good a.judged a.bank.now a.ring.now a.frame.now a.buffer.now a.rate c.requires c.error_code-code.ensures
    (read_reply a.ring.now a.frame.now told.first told.many) c.if-code-ne0.false told.is refl c.reply_read-length-in-GoodRecord.ensures

pub returns-in-GoodClear : goal.returns-in-GoodClear
returns-in-GoodClear c =
    let a = c.args in
    answers_good a.judged a.bank.now a.ring.now a.frame.now a.buffer.now a.rate c.requires c.error_code-code.ensures (echo a.frame.now) c.if-code-ne0.false
    refl (echo_reply a.judged a.bank.now a.ring.now a.frame.now (echo_told a.judged c.in-GoodClear.is)) c.reply_echo-length.ensures

pub returns-in_default : goal.returns-in_default
returns-in_default c =
    let a = c.args in
    let other = c.in_default in
    let rest = rest_silent a.judged other.not-GoodRead other.not-GoodRecord other.not-GoodClear other.not-GoodWrite in
    answers_none a.judged a.bank.now a.ring.now a.frame.now a.buffer.now a.rate c.error_code-code.ensures c.if-code-ne0.false
    (no_good_reply a.judged a.bank.now a.ring.now a.frame.now rest)
