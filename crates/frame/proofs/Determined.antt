-- Each promise of this crate determines the answer and the lent buffers at exit. Assumes nothing.
use Rattle.words.proofs.Promise.{Determined, read_off}
use Rattle.frame.proofs.taken_apart.Kinds as taken_apart
use Rattle.frame.proofs.taken_apart.Reads as taken_apart_reads
use Rattle.frame.proofs.top_bit_set.Kinds as top_bit_set
use Rattle.frame.proofs.top_bit_set.Reads as top_bit_set_reads
use Rattle.frame.proofs.reply_error.Kinds as reply_error
use Rattle.frame.proofs.reply_error.Reads as reply_error_reads
use Rattle.frame.proofs.reply_echo.Kinds as reply_echo
use Rattle.frame.proofs.reply_echo.Reads as reply_echo_reads
use Rattle.frame.proofs.reply_read.Kinds as reply_read
use Rattle.frame.proofs.reply_read.Reads as reply_read_reads

pub taken_apart_determined : Determined 1 taken_apart.ps taken_apart.r taken_apart_reads.Post
taken_apart_determined κs a x y = read_off (λ r. (r, x.1))

pub top_bit_set_determined : Determined 0 top_bit_set.ps top_bit_set.r top_bit_set_reads.Post
top_bit_set_determined κs a x y = read_off (λ r. (r, x.1))

pub reply_error_determined : Determined 2 reply_error.ps reply_error.r reply_error_reads.Post
reply_error_determined κs a x y = read_off (λ o. (o.length, (tt, (o.buffer, (tt, tt)))))

pub reply_echo_determined : Determined 2 reply_echo.ps reply_echo.r reply_echo_reads.Post
reply_echo_determined κs a x y = read_off (λ o. (o.length, (tt, (o.buffer, tt))))

pub reply_read_determined : Determined 3 reply_read.ps reply_read.r reply_read_reads.Post
reply_read_determined κs a x y = read_off (λ o. (o.length, (tt, (tt, (o.buffer, (tt, (tt, tt)))))))
