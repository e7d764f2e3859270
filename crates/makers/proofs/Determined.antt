-- Each promise of this crate determines its result. Assumes nothing.
use Rattle.words.proofs.Promise.{Determined, read_off}
use Rattle.makers.proofs.ux.Kinds as ux
use Rattle.makers.proofs.ux.Reads as ux_reads
use Rattle.makers.proofs.aswe_40.Kinds as aswe_40
use Rattle.makers.proofs.aswe_40.Reads as aswe_40_reads
use Rattle.makers.proofs.aswe_50.Kinds as aswe_50
use Rattle.makers.proofs.aswe_50.Reads as aswe_50_reads
use Rattle.makers.proofs.aswe_80.Kinds as aswe_80
use Rattle.makers.proofs.aswe_80.Reads as aswe_80_reads

pub ux_determined : Determined 0 ux.ps ux.r ux_reads.Post
ux_determined κs a x y = read_off (λ r. (r, x.1))

pub aswe_40_determined : Determined 0 aswe_40.ps aswe_40.r aswe_40_reads.Post
aswe_40_determined κs a x y = read_off (λ r. (r, x.1))

pub aswe_50_determined : Determined 0 aswe_50.ps aswe_50.r aswe_50_reads.Post
aswe_50_determined κs a x y = read_off (λ r. (r, x.1))

pub aswe_80_determined : Determined 0 aswe_80.ps aswe_80.r aswe_80_reads.Post
aswe_80_determined κs a x y = read_off (λ r. (r, x.1))
