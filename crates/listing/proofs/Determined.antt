-- Each promise of this crate determines its result. Assumes nothing.
use Rattle.words.proofs.Promise.{Determined, read_off}
use Rattle.listing.proofs.summary.Kinds as summary
use Rattle.listing.proofs.summary.Reads as summary_reads
use Rattle.listing.proofs.item_line.Kinds as item_line
use Rattle.listing.proofs.item_line.Reads as item_line_reads

pub summary_determined : Determined 1 summary.ps summary.r summary_reads.Post
summary_determined κs a x y = read_off (λ r. (r, x.1))

pub item_line_determined : Determined 1 item_line.ps item_line.r item_line_reads.Post
item_line_determined κs a x y = read_off (λ r. (r, x.1))
