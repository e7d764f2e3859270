-- `meter::replies::acted` meets its contract: what was stored, and what was laid. Assumes nothing.
use Rattle.std.proofs.Common.{ℕ, ◌*◌, ap, ◌∙◌}
use Rattle.words.specs.Words.{word_at}
use Rattle.bank_rules.specs.Calls.{lent_with}
use Rattle.meter.proofs.Acting.{room_same, acts}
use Rattle.meter.proofs.replies.acted.Goals as goal

pub lay_reply-requires : goal.lay_reply-requires
lay_reply-requires c =
    let a = c.args in
    room_same a.judged (lent_with a.sheet.now a.bank.now a.ring.now) a.frame.now a.buffer.now c.make_stores.ensures c.requires

pub returns : goal.returns
returns c =
    let a = c.args in
    let rate = c.word_at-rate.ensures ∙ ap (λ (n : ℕ). word_at a.bank.now (2 * n)) c.rate_place.ensures in
    acts a.judged (lent_with a.sheet.now a.bank.now a.ring.now) a.frame.now a.buffer.now c.make_stores.ensures rate c.lay_reply.ensures
