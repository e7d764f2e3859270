-- `frame::lay_words` meets its contract: each word is laid behind those before it. Assumes nothing.
use Rattle.std.proofs.Common.{◌≡◌, ℕ, ◌+◌, ◌*◌, ◌∙◌, sym, ap, ap₂, arith, List, ◌++◌, append_assoc, append-nil, length, take, length-append}
use Rattle.std.proofs.Math.ListN.{set}
use lib.Seq.{length-take-le}
use Rattle.words.specs.Words.{word_at, upper, lower, word_bytes, bytes_of}
use Rattle.lists.specs.Lists.{up_from}
use Rattle.frame.specs.Reply.{words_from, laid}
use Rattle.frame.proofs.Laying.{laid_two, laid_first}
use Rattle.frame.proofs.Reading.{words_more, words_length}
use Rattle.frame.proofs.lay_words.Goals as goal

pub loop-k-init : goal.loop-k-init
unfolding bytes_of up_from
loop-k-init c =
    let buffer = c.args.buffer.now in
    laid_first 3 buffer (omega arith) ∙ ap (λ (l : List ℕ). laid l buffer) (sym (append-nil (take 3 buffer)))

pub loop-k-preserved : goal.loop-k-preserved
loop-k-preserved c =
    let buffer = c.args.buffer.now in
    let source = c.args.source.now in
    let first = c.args.first in
    let k = c.loop-k.k in
    let at = 3 + 2 * k in
    let words = words_from source first k in
    let word = word_at source (2 * (first + k)) in
    let front = take 3 buffer in
    let long : length (front ++ bytes_of words) ≡ at
    = length-append front (bytes_of words) ∙ ap₂ ◌+◌ (length-take-le 3 buffer (omega arith)) (words_length source first k) in
    ap (λ (w : ℕ). set (set c.loop-k.buffer at (upper w)) (at + 1) (lower w)) c.word_at-word.ensures
    ∙ ap (λ (l : List ℕ). set (set l at (upper word)) (at + 1) (lower word)) c.loop-k.invariant
    ∙ laid_two (front ++ bytes_of words) buffer at (upper word) (lower word) long (omega arith)
    ∙ ap (λ (l : List ℕ). laid l buffer)
    (append_assoc front (bytes_of words) (word_bytes word) ∙ ap (λ (l : List ℕ). front ++ l) (sym (words_more source first k)))
