-- Each promise of this crate determines its result, and the lent bank at exit. Assumes nothing.
use Rattle.words.proofs.Promise.{Determined, read_off}
use Rattle.bank_steps.proofs.check_size.Kinds as check_size
use Rattle.bank_steps.proofs.check_size.Reads as check_size_reads
use Rattle.bank_steps.proofs.value_in.Kinds as value_in
use Rattle.bank_steps.proofs.value_in.Reads as value_in_reads
use Rattle.bank_steps.proofs.store_item.Kinds as store_item
use Rattle.bank_steps.proofs.store_item.Reads as store_item_reads
use Rattle.bank_steps.proofs.zero_words.Kinds as zero_words
use Rattle.bank_steps.proofs.zero_words.Reads as zero_words_reads
use Rattle.bank_steps.proofs.empty_or_odd.Kinds as empty_or_odd
use Rattle.bank_steps.proofs.empty_or_odd.Reads as empty_or_odd_reads
use Rattle.bank_steps.proofs.all_read_only.Kinds as all_read_only
use Rattle.bank_steps.proofs.all_read_only.Reads as all_read_only_reads

pub check_size_determined : Determined 2 check_size.ps check_size.r check_size_reads.Post
check_size_determined κs a x y = read_off (λ r. (r, x.1))

pub value_in_determined : Determined 1 value_in.ps value_in.r value_in_reads.Post
value_in_determined κs a x y = read_off (λ r. (r, x.1))

pub store_item_determined : Determined 1 store_item.ps store_item.r store_item_reads.Post
store_item_determined κs a x y = read_off (λ o. (tt, (o, (tt, (tt, tt)))))

pub zero_words_determined : Determined 1 zero_words.ps zero_words.r zero_words_reads.Post
zero_words_determined κs a x y = read_off (λ o. (tt, (o, (tt, tt))))

pub empty_or_odd_determined : Determined 1 empty_or_odd.ps empty_or_odd.r empty_or_odd_reads.Post
empty_or_odd_determined κs a x y = read_off (λ r. (r, x.1))

pub all_read_only_determined : Determined 1 all_read_only.ps all_read_only.r all_read_only_reads.Post
all_read_only_determined κs a x y = read_off (λ r. (r, x.1))
