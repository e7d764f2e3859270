-- `controller::asked::Framed::lay_head` meets its contract: two bytes and two words, laid one after another. Assumes nothing.
use Rattle.std.proofs.Common.{refl, arith, [], ◌∷◌}
use Rattle.words.specs.Words.{word_bytes}
use Rattle.frame.proofs.Laying.{then_byte, then_word}
use Rattle.controller.proofs.asked.Framed.lay_head.Goals as goal

pub returns : goal.returns
returns c =
    let station = c.args.self.asked.station in
    let wanted = c.args.self.wanted in
    let buffer = c.args.buffer.now in
    let one = then_byte buffer [] refl station (omega arith) c.store_byte.ensures in
    let two = then_byte buffer (station ∷ []) one wanted.function (omega arith) c.store_byte-2.ensures in
    let three = then_word buffer (station ∷ wanted.function ∷ []) two wanted.address 2 refl (omega arith) c.store_word.ensures in
    then_word buffer (station ∷ wanted.function ∷ word_bytes wanted.address) three wanted.second 4 refl (omega arith) c.store_word-2.ensures
