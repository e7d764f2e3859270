-- Each promise of this crate determines its result. Assumes nothing.
use Rattle.words.proofs.Promise.{Determined, read_off}
use Rattle.sheet.proofs.check.Kinds as check
use Rattle.sheet.proofs.check.Reads as check_reads

pub check_determined : Determined 1 check.ps check.r check_reads.Post
check_determined κs a x y = read_off (λ r. (r, x.1))
