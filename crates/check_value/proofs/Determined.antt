-- Each promise of this crate determines the result and the lent buffer at exit. Assumes nothing.
use Rattle.words.proofs.Promise.{Determined, read_off}
use Rattle.check_value.proofs.Check.start.Kinds as start
use Rattle.check_value.proofs.Check.start.Reads as start_reads
use Rattle.check_value.proofs.Check.take.Kinds as take
use Rattle.check_value.proofs.Check.take.Reads as take_reads
use Rattle.check_value.proofs.Check.value.Kinds as value
use Rattle.check_value.proofs.Check.value.Reads as value_reads
use Rattle.check_value.proofs.value_of.Kinds as value_of
use Rattle.check_value.proofs.value_of.Reads as value_of_reads
use Rattle.check_value.proofs.passes.Kinds as passes
use Rattle.check_value.proofs.passes.Reads as passes_reads
use Rattle.check_value.proofs.seal.Kinds as seal
use Rattle.check_value.proofs.seal.Reads as seal_reads

pub Check_start_determined : Determined 0 start.ps start.r start_reads.Post
Check_start_determined κs a x y = read_off (λ r. (r, x.1))

pub Check_take_determined : Determined 0 take.ps take.r take_reads.Post
Check_take_determined κs a x y = read_off (λ r. (r, x.1))

pub Check_value_determined : Determined 0 value.ps value.r value_reads.Post
Check_value_determined κs a x y = read_off (λ r. (r, x.1))

pub value_of_determined : Determined 1 value_of.ps value_of.r value_of_reads.Post
value_of_determined κs a x y = read_off (λ r. (r, x.1))

pub passes_determined : Determined 1 passes.ps passes.r passes_reads.Post
passes_determined κs a x y = read_off (λ r. (r, x.1))

pub seal_determined : Determined 1 seal.ps seal.r seal_reads.Post
seal_determined κs a x y = read_off (λ o. (tt, (o, (tt, tt))))
