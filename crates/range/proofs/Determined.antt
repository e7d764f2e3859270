-- Each promise of this crate determines its result. Assumes nothing.
use Rattle.words.proofs.Promise.{Determined, read_off}
use Rattle.range.proofs.number.Kinds as number
use Rattle.range.proofs.number.Reads as number_reads
use Rattle.range.proofs.not_above.Kinds as not_above
use Rattle.range.proofs.not_above.Reads as not_above_reads
use Rattle.range.proofs.side_of.Kinds as side_of
use Rattle.range.proofs.side_of.Reads as side_of_reads
use Rattle.range.proofs.inside.Kinds as inside
use Rattle.range.proofs.inside.Reads as inside_reads
use Rattle.range.proofs.in_range.Kinds as in_range
use Rattle.range.proofs.in_range.Reads as in_range_reads

pub number_determined : Determined 0 number.ps number.r number_reads.Post
number_determined κs a x y = read_off (λ r. (r, x.1))

pub not_above_determined : Determined 0 not_above.ps not_above.r not_above_reads.Post
not_above_determined κs a x y = read_off (λ r. (r, x.1))

pub side_of_determined : Determined 0 side_of.ps side_of.r side_of_reads.Post
side_of_determined κs a x y = read_off (λ r. (r, x.1))

pub inside_determined : Determined 0 inside.ps inside.r inside_reads.Post
inside_determined κs a x y = read_off (λ r. (r, x.1))

pub in_range_determined : Determined 0 in_range.ps in_range.r in_range_reads.Post
in_range_determined κs a x y = read_off (λ r. (r, x.1))
