-- `frame::reply_error` meets its contract: three bytes and their check, laid one after another. Assumes nothing.
use Rattle.std.proofs.Common.{refl, ◌∙◌, ap, arith, [], ◌∷◌}
use Rattle.std.proofs.Math.ListN.{set}
use Rattle.frame.specs.Frame.{station, function}
use Rattle.frame.specs.Reply.{top_bit_set, error_reply, with_check}
use Rattle.frame.proofs.Laying.{then_byte, then_sealed, lays, lays_none}
use Rattle.frame.proofs.reply_error.Goals as goal

pub returns-then-buffer : goal.returns-then-buffer
unfolding with_check
returns-then-buffer c = lays_none (with_check (error_reply c.args.frame.now c.args.code)) c.args.buffer.now c.if-buffer.true

pub returns : goal.returns
unfolding with_check
returns c =
    let frame = c.args.frame.now in
    let buffer = c.args.buffer.now in
    let one = then_byte buffer [] refl (station frame) (omega arith) (ap (set buffer 0) c.byte_at.ensures) in
    let two = then_byte buffer (station frame ∷ []) one (top_bit_set (function frame)) (omega arith)
    (ap (set (set buffer 0 c.byte_at.result) 1) (c.top_bit_set.ensures ∙ ap top_bit_set c.byte_at-2.ensures)) in
    let three = then_byte buffer (station frame ∷ top_bit_set (function frame) ∷ []) two c.args.code (omega arith) refl in
    lays (with_check (error_reply frame c.args.code)) buffer (omega arith) (omega arith) refl
    (then_sealed buffer (error_reply frame c.args.code) three 3 refl (omega arith) c.seal.ensures)
