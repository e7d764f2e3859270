-- The promise of this crate determines its result. Assumes nothing.
use Rattle.words.proofs.Promise.{Determined, read_off}
use Rattle.listing_print.proofs.print.Kinds as print
use Rattle.listing_print.proofs.print.Reads as print_reads

pub print_determined : Determined 1 print.ps print.r print_reads.Post
print_determined κs a x y = read_off (λ r. (r, x.1))
