-- Each promise of this crate determines its result. Assumes nothing.
use Rattle.words.proofs.Promise.{Determined, read_off}
use Rattle.header.proofs.check.Kinds as check
use Rattle.header.proofs.check.Reads as check_reads
use Rattle.header.proofs.sums_05.Kinds as sums_05
use Rattle.header.proofs.sums_05.Reads as sums_05_reads
use Rattle.header.proofs.clear_sound_without_05.Kinds as clear_sound_without_05
use Rattle.header.proofs.clear_sound_without_05.Reads as clear_sound_without_05_reads

pub check_determined : Determined 1 check.ps check.r check_reads.Post
check_determined κs a x y = read_off (λ r. (r, x.1))

pub sums_05_determined : Determined 0 sums_05.ps sums_05.r sums_05_reads.Post
sums_05_determined κs a x y = read_off (λ r. (r, x.1))

pub clear_sound_without_05_determined : Determined 0 clear_sound_without_05.ps clear_sound_without_05.r clear_sound_without_05_reads.Post
clear_sound_without_05_determined κs a x y = read_off (λ r. (r, x.1))
