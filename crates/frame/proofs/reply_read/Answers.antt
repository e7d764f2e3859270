-- `frame::reply_read` meets its contract: three bytes, the words and their check, laid one after another. Assumes nothing.
use Rattle.std.proofs.Common.{◌≡◌, ℕ, ◌+◌, ◌*◌, refl, ◌∙◌, sym, ap, arith, List, [], ◌∷◌, ◌++◌, length, take}
use Rattle.std.proofs.Math.ListN.{set}
use Rattle.words.specs.Words.{bytes_of}
use Rattle.frame.specs.Frame.{reads, station}
use Rattle.frame.specs.Reply.{words_from, read_reply, with_check, laid}
use Rattle.frame.proofs.Laying.{then_byte, then_sealed, laid_over, lays, lays_none, lays_no_frame}
use Rattle.frame.proofs.Reading.{read_length, check_length}
use Rattle.frame.proofs.reply_read.Goals as goal

whole_length : (source frame : List ℕ) (first many : ℕ) → length (with_check (read_reply source frame first many)) ≡ 5 + 2 * many
whole_length source frame first many =
    check_length (read_reply source frame first many) ∙ omega (arith, read_length source frame first many)

pub returns-then-many : goal.returns-then-many
returns-then-many c =
    let a = c.args in
    lays_no_frame (with_check (read_reply a.source.now a.frame.now a.first a.many)) a.buffer.now
    (omega (arith, whole_length a.source.now a.frame.now a.first a.many))

pub returns-then-buffer-length : goal.returns-then-buffer-length
returns-then-buffer-length c =
    let a = c.args in
    lays_none (with_check (read_reply a.source.now a.frame.now a.first a.many)) a.buffer.now
    (omega (arith, whole_length a.source.now a.frame.now a.first a.many))

pub returns : goal.returns
returns c =
    let a = c.args in
    let source = a.source.now in
    let frame = a.frame.now in
    let entry = a.buffer.now in
    let reply = read_reply source frame a.first a.many in
    let long = whole_length source frame a.first a.many in
    let one = then_byte entry [] refl (station frame) (omega arith)
    (ap (set entry 0) c.byte_at.ensures) in
    let two = then_byte entry (station frame ∷ []) one reads (omega arith) refl in
    let three = then_byte entry (station frame ∷ reads ∷ []) two (2 * a.many) (omega arith) refl in
    let laid-all = c.lay_words.ensures
    ∙ ap (λ (l : List ℕ). laid (take 3 l ++ bytes_of (words_from source a.first a.many)) l) three
    ∙ laid_over (station frame ∷ reads ∷ (2 * a.many) ∷ []) (bytes_of (words_from source a.first a.many)) entry in
    lays (with_check reply) entry (omega arith) (omega arith) (sym long)
    (then_sealed entry reply laid-all (3 + 2 * a.many) (read_length source frame a.first a.many) (omega arith) c.seal.ensures)
