-- `listing::Line::empty` meets its contract: no text, and zeros in the whole room. Assumes nothing.
use Rattle.std.proofs.Common.{refl}
use Rattle.listing.specs.Line.{line_of}
use Rattle.listing.proofs.Line.empty.Goals as goal

pub returns : goal.returns
unfolding line_of
returns c = refl
