-- The promise of this crate determines the answer, and leaves what is lent. Assumes nothing.
use Rattle.words.proofs.Promise.{Determined, read_off}
use Rattle.why.proofs.why.Kinds as why
use Rattle.why.proofs.why.Reads as why_reads

pub why_determined : Determined 4 why.ps why.r why_reads.Post
why_determined κs a x y = read_off (λ e. (e, (tt, (tt, (tt, (tt, tt))))))
