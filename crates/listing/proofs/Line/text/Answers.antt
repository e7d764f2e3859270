-- `listing::Line::text` meets its contract: each turn takes one byte of what is left, and at the end nothing is left. Assumes nothing.
use Rattle.std.proofs.Common.{◌+◌, drop, ap, ◌∙◌}
use lib.ListN.{drop_of_length-le}
use Rattle.listing.specs.declared.Line.{Line}
use Rattle.listing.specs.Line.{with_text}
use Rattle.listing.proofs.Lines.{text_step}
use Rattle.listing.proofs.Line.text.Goals as goal

pub loop-byte-preserved : goal.loop-byte-preserved
loop-byte-preserved c =
    let text = c.args.text.now in
    let l = c.loop-byte in
    ap (λ (line : Line). with_text line (drop (l.byte-index + 1) text)) c.byte-line.ensures
    ∙ text_step l.line text l.byte-index c.loop-byte-test.true ∙ l.invariant

pub returns : goal.returns
unfolding with_text
returns c = rw (drop_of_length-le c.args.text.now c.loop-byte-test.false) at c.loop-byte.invariant
