-- `frame::reply_echo` meets its contract: two bytes, two words and their check, laid one after another. Assumes nothing.
use Rattle.std.proofs.Common.{refl, ◌∙◌, ap, arith, [], ◌∷◌}
use Rattle.std.proofs.Math.ListN.{set}
use Rattle.words.specs.Words.{with_word, word_bytes}
use Rattle.frame.specs.Frame.{station, function, start, second}
use Rattle.frame.specs.Reply.{echo, with_check}
use Rattle.frame.proofs.Laying.{then_byte, then_word, then_sealed, lays, lays_none}
use Rattle.frame.proofs.reply_echo.Goals as goal

pub returns-then-buffer : goal.returns-then-buffer
unfolding with_check
returns-then-buffer c = lays_none (with_check (echo c.args.frame.now)) c.args.buffer.now c.if-buffer.true

pub returns : goal.returns
unfolding with_check
returns c =
    let frame = c.args.frame.now in
    let buffer = c.args.buffer.now in
    let one = then_byte buffer [] refl (station frame) (omega arith)
    (ap (set buffer 0) c.byte_at.ensures) in
    let two = then_byte buffer (station frame ∷ []) one (function frame) (omega arith)
    (ap (set (set buffer 0 c.byte_at.result) 1) c.byte_at-2.ensures) in
    let three = then_word buffer (station frame ∷ function frame ∷ []) two (start frame) 2 refl (omega arith)
    (c.store_word.ensures ∙ ap (with_word (set (set buffer 0 c.byte_at.result) 1 c.byte_at-2.result) 2) c.word_at.ensures) in
    let four = then_word buffer (station frame ∷ function frame ∷ word_bytes (start frame)) three (second frame) 4 refl (omega arith)
    (c.store_word-2.ensures ∙ ap (with_word c.store_word.new.bytes 4) c.word_at-2.ensures) in
    lays (with_check (echo frame)) buffer (omega arith) (omega arith) refl
    (then_sealed buffer (echo frame) four 6 refl (omega arith) c.seal.ensures)
