-- Each promise of this crate determines the answer and the lent buffers at exit. Assumes nothing.
use Rattle.words.proofs.Promise.{Determined, read_off}
use Rattle.controller.proofs.query.Kinds as query
use Rattle.controller.proofs.query.Reads as query_reads
use Rattle.controller.proofs.reply.Kinds as reply
use Rattle.controller.proofs.reply.Reads as reply_reads

pub query_determined : Determined 2 query.ps query.r query_reads.Post
query_determined κs a x y = read_off (λ o. (o.built, (tt, (tt, (tt, (o.buffer, tt))))))

pub reply_determined : Determined 3 reply.ps reply.r reply_reads.Post
reply_determined κs a x y = read_off (λ o. (o.reading, (tt, (tt, (tt, (tt, (o.buffer, tt)))))))
