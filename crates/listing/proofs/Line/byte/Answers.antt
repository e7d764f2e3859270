-- `listing::Line::byte` meets its contract: it stores where there is room, and else nothing. Assumes nothing.
use Rattle.std.proofs.Common.{sym}
use Rattle.listing.proofs.Lines.{byte_inside, byte_full}
use Rattle.listing.proofs.Line.byte.Goals as goal

pub returns-then-at-lt40 : goal.returns-then-at-lt40
returns-then-at-lt40 c = sym (byte_inside c.args.self c.args.byte c.if-at-lt40.true)

pub returns-else-at-lt40 : goal.returns-else-at-lt40
returns-else-at-lt40 c = sym (byte_full c.args.self c.args.byte c.if-at-lt40.false)
