-- `listing::Line::decimal` ends: a tenth of the number is handed on. Assumes nothing.
use Rattle.listing.proofs.Line.+decimal.Given as goal

abbrev pub decreases-decimal : goal.decreases-decimal
decreases-decimal l = l.n
