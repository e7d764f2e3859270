-- Each promise of this crate determines the answer. Assumes nothing.
use Rattle.words.proofs.Promise.{Determined, read_off}
use Rattle.refusals.proofs.U32FromRefusal.from.Kinds as from
use Rattle.refusals.proofs.U32FromRefusal.from.Reads as from_reads

pub from_determined : Determined 0 from.ps from.r from_reads.Post
from_determined κs a x y = read_off (λ r. (r, x.1))
