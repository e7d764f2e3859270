-- Each promise of the exports determines what the firmware is handed, and each lent buffer and number at exit. Assumes nothing.
use Rattle.words.proofs.Promise.{Determined, read_off}
use Rattle.cedarskein_c.proofs.cedarskein_check_start.Kinds as cedarskein_check_start
use Rattle.cedarskein_c.proofs.cedarskein_check_start.Reads as cedarskein_check_start_reads
use Rattle.cedarskein_c.proofs.cedarskein_check_take.Kinds as cedarskein_check_take
use Rattle.cedarskein_c.proofs.cedarskein_check_take.Reads as cedarskein_check_take_reads
use Rattle.cedarskein_c.proofs.cedarskein_check_value.Kinds as cedarskein_check_value
use Rattle.cedarskein_c.proofs.cedarskein_check_value.Reads as cedarskein_check_value_reads
use Rattle.cedarskein_c.proofs.cedarskein_sheet_check.Kinds as cedarskein_sheet_check
use Rattle.cedarskein_c.proofs.cedarskein_sheet_check.Reads as cedarskein_sheet_check_reads
use Rattle.cedarskein_c.proofs.cedarskein_bank_check.Kinds as cedarskein_bank_check
use Rattle.cedarskein_c.proofs.cedarskein_bank_check.Reads as cedarskein_bank_check_reads
use Rattle.cedarskein_c.proofs.cedarskein_bank_fresh.Kinds as cedarskein_bank_fresh
use Rattle.cedarskein_c.proofs.cedarskein_bank_fresh.Reads as cedarskein_bank_fresh_reads
use Rattle.cedarskein_c.proofs.cedarskein_post.Kinds as cedarskein_post
use Rattle.cedarskein_c.proofs.cedarskein_post.Reads as cedarskein_post_reads
use Rattle.cedarskein_c.proofs.cedarskein_set_mark.Kinds as cedarskein_set_mark
use Rattle.cedarskein_c.proofs.cedarskein_set_mark.Reads as cedarskein_set_mark_reads
use Rattle.cedarskein_c.proofs.cedarskein_ring_check.Kinds as cedarskein_ring_check
use Rattle.cedarskein_c.proofs.cedarskein_ring_check.Reads as cedarskein_ring_check_reads
use Rattle.cedarskein_c.proofs.cedarskein_add_record.Kinds as cedarskein_add_record
use Rattle.cedarskein_c.proofs.cedarskein_add_record.Reads as cedarskein_add_record_reads
use Rattle.cedarskein_c.proofs.cedarskein_answer.Kinds as cedarskein_answer
use Rattle.cedarskein_c.proofs.cedarskein_answer.Reads as cedarskein_answer_reads
use Rattle.cedarskein_c.proofs.cedarskein_why.Kinds as cedarskein_why
use Rattle.cedarskein_c.proofs.cedarskein_why.Reads as cedarskein_why_reads
use Rattle.cedarskein_c.proofs.cedarskein_query.Kinds as cedarskein_query
use Rattle.cedarskein_c.proofs.cedarskein_query.Reads as cedarskein_query_reads
use Rattle.cedarskein_c.proofs.cedarskein_reply.Kinds as cedarskein_reply
use Rattle.cedarskein_c.proofs.cedarskein_reply.Reads as cedarskein_reply_reads

pub cedarskein_check_start_determined : Determined 0 cedarskein_check_start.ps cedarskein_check_start.r cedarskein_check_start_reads.Post
cedarskein_check_start_determined κs a x y = read_off (λ r. (r, x.1))

pub cedarskein_check_take_determined : Determined 0 cedarskein_check_take.ps cedarskein_check_take.r cedarskein_check_take_reads.Post
cedarskein_check_take_determined κs a x y = read_off (λ r. (r, x.1))

pub cedarskein_check_value_determined : Determined 1 cedarskein_check_value.ps cedarskein_check_value.r cedarskein_check_value_reads.Post
cedarskein_check_value_determined κs a x y = read_off (λ r. (r, x.1))

pub cedarskein_sheet_check_determined : Determined 1 cedarskein_sheet_check.ps cedarskein_sheet_check.r cedarskein_sheet_check_reads.Post
cedarskein_sheet_check_determined κs a x y = read_off (λ r. (r, x.1))

pub cedarskein_bank_check_determined : Determined 2 cedarskein_bank_check.ps cedarskein_bank_check.r cedarskein_bank_check_reads.Post
cedarskein_bank_check_determined κs a x y = read_off (λ r. (r, x.1))

pub cedarskein_bank_fresh_determined : Determined 2 cedarskein_bank_fresh.ps cedarskein_bank_fresh.r cedarskein_bank_fresh_reads.Post
cedarskein_bank_fresh_determined κs a x y = read_off (λ o. (o.number, (tt, (o.bank, tt))))

pub cedarskein_post_determined : Determined 3 cedarskein_post.ps cedarskein_post.r cedarskein_post_reads.Post
cedarskein_post_determined κs a x y = read_off (λ o. (o.number, (tt, (o.bank, (tt, (tt, tt))))))

pub cedarskein_set_mark_determined : Determined 2 cedarskein_set_mark.ps cedarskein_set_mark.r cedarskein_set_mark_reads.Post
cedarskein_set_mark_determined κs a x y = read_off (λ o. (o.number, (tt, (o.bank, (tt, tt)))))

pub cedarskein_ring_check_determined : Determined 2 cedarskein_ring_check.ps cedarskein_ring_check.r cedarskein_ring_check_reads.Post
cedarskein_ring_check_determined κs a x y = read_off (λ r. (r, x.1))

pub cedarskein_add_record_determined : Determined 3 cedarskein_add_record.ps cedarskein_add_record.r cedarskein_add_record_reads.Post
cedarskein_add_record_determined κs a x y = read_off (λ o. (o.number, (tt, (o.ring, (tt, tt)))))

pub cedarskein_answer_determined : Determined 7 cedarskein_answer.ps cedarskein_answer.r cedarskein_answer_reads.Post
cedarskein_answer_determined κs a x y p q =
    read_off (λ o. (o.number, (tt, (o.bank, (tt, (tt, (o.buffer, (o.length, (o.rate, tt))))))))) p.0 q.0

pub cedarskein_why_determined : Determined 7 cedarskein_why.ps cedarskein_why.r cedarskein_why_reads.Post
cedarskein_why_determined κs a x y p q =
    read_off (λ s. (s.number, (tt, (tt, (tt, (tt, (s.reason, (s.address, (s.side, tt))))))))) p.0 q.0

pub cedarskein_query_determined : Determined 3 cedarskein_query.ps cedarskein_query.r cedarskein_query_reads.Post
cedarskein_query_determined κs a x y p q =
    read_off (λ t. (t.number, (tt, (tt, (tt, (tt, (tt, (t.buffer, (t.length, tt))))))))) p.0 q.0

pub cedarskein_reply_determined : Determined 5 cedarskein_reply.ps cedarskein_reply.r cedarskein_reply_reads.Post
cedarskein_reply_determined κs a x y p q =
    read_off (λ t. (t.number, (tt, (tt, (tt, (tt, (tt, (tt, (t.buffer, (t.length, (t.error, tt))))))))))) p.0 q.0
