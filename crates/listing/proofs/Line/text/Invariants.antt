-- The loop's invariant: the bytes that are left, behind what the line has now, are the whole text behind what it had. Assumes nothing.
use Rattle.std.proofs.Common.{◌≡◌, drop}
use Rattle.listing.specs.Line.{with_text}
use Rattle.listing.proofs.Line.text.Given as goal

abbrev pub invariant-loop-byte : goal.invariant-loop-byte
invariant-loop-byte l = with_text l.line (drop l.byte-index l.text) ≡ with_text l.fn.self l.text
