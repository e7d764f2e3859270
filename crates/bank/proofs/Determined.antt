-- Each promise of this crate determines the answer and the lent bank at exit. Assumes nothing.
use Rattle.words.proofs.Promise.{Determined, read_off}
use Rattle.bank.proofs.check.Kinds as check
use Rattle.bank.proofs.check.Reads as check_reads
use Rattle.bank.proofs.fresh_words.store_fresh.Kinds as store_fresh
use Rattle.bank.proofs.fresh_words.store_fresh.Reads as store_fresh_reads
use Rattle.bank.proofs.post_words.store_posted.Kinds as store_posted
use Rattle.bank.proofs.post_words.store_posted.Reads as store_posted_reads
use Rattle.bank.proofs.fresh.Kinds as fresh
use Rattle.bank.proofs.fresh.Reads as fresh_reads
use Rattle.bank.proofs.post.Kinds as post
use Rattle.bank.proofs.post.Reads as post_reads
use Rattle.bank.proofs.set_mark.Kinds as set_mark
use Rattle.bank.proofs.set_mark.Reads as set_mark_reads

pub check_determined : Determined 2 check.ps check.r check_reads.Post
check_determined κs a x y = read_off (λ r. (r, x.1))

pub fresh_determined : Determined 2 fresh.ps fresh.r fresh_reads.Post
fresh_determined κs a x y = read_off (λ o. (o.answer, (tt, (o.bank, tt))))

pub post_determined : Determined 3 post.ps post.r post_reads.Post
post_determined κs a x y = read_off (λ o. (o.answer, (tt, (o.bank, (tt, (tt, tt))))))

pub set_mark_determined : Determined 2 set_mark.ps set_mark.r set_mark_reads.Post
set_mark_determined κs a x y = read_off (λ o. (o.answer, (tt, (o.bank, (tt, tt)))))

pub store_fresh_determined : Determined 2 store_fresh.ps store_fresh.r store_fresh_reads.Post
store_fresh_determined κs a x y = read_off (λ o. (tt, (tt, (o, tt))))

pub store_posted_determined : Determined 3 store_posted.ps store_posted.r store_posted_reads.Post
store_posted_determined κs a x y = read_off (λ o. (tt, (tt, (o, (tt, (tt, tt))))))
