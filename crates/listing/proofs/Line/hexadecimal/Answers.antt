-- `listing::Line::hexadecimal` meets its contract: four digits, one after the other. Assumes nothing.
use Rattle.listing.specs.Line.{with_text}
use Rattle.listing.proofs.Line.hexadecimal.Goals as goal

pub returns : goal.returns
unfolding with_text
returns c = cc
