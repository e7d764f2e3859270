-- Each promise of this crate determines the answer and the lent ring at exit. Assumes nothing.
use Rattle.words.proofs.Promise.{Determined, read_off}
use Rattle.ring.proofs.sound.Kinds as sound
use Rattle.ring.proofs.sound.Reads as sound_reads
use Rattle.ring.proofs.fits.Kinds as fits
use Rattle.ring.proofs.fits.Reads as fits_reads
use Rattle.ring.proofs.check.Kinds as check
use Rattle.ring.proofs.check.Reads as check_reads
use Rattle.ring.proofs.add.Kinds as add
use Rattle.ring.proofs.add.Reads as add_reads
use Rattle.ring.proofs.record_words.store_record.Kinds as store_record
use Rattle.ring.proofs.record_words.store_record.Reads as store_record_reads

pub sound_determined : Determined 1 sound.ps sound.r sound_reads.Post
sound_determined κs a x y = read_off (λ r. (r, x.1))

pub fits_determined : Determined 2 fits.ps fits.r fits_reads.Post
fits_determined κs a x y = read_off (λ r. (r, x.1))

pub check_determined : Determined 2 check.ps check.r check_reads.Post
check_determined κs a x y = read_off (λ r. (r, x.1))

pub add_determined : Determined 3 add.ps add.r add_reads.Post
add_determined κs a x y = read_off (λ o. (o.answer, (tt, (o.ring, (tt, tt)))))

pub store_record_determined : Determined 2 store_record.ps store_record.r store_record_reads.Post
store_record_determined κs a x y = read_off (λ o. (tt, (tt, (tt, (o, (tt, tt))))))
