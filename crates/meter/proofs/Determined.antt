-- Each promise of this crate determines the answer and the lent buffers at exit. Assumes nothing.
use Rattle.words.proofs.Promise.{Determined, read_off}
use Rattle.meter.proofs.judge.Kinds as judge
use Rattle.meter.proofs.judge.Reads as judge_reads
use Rattle.meter.proofs.answer.Kinds as answer
use Rattle.meter.proofs.answer.Reads as answer_reads

pub judge_determined : Determined 4 judge.ps judge.r judge_reads.Post
judge_determined κs a x y = read_off (λ j. (j, (tt, (tt, (tt, (tt, tt))))))

pub answer_determined : Determined 5 answer.ps answer.r answer_reads.Post
answer_determined κs a x y = read_off (λ o. (o.answered, (tt, (o.bank, (tt, (tt, (o.buffer, tt)))))))
