-- Each promise of this crate determines the result and the lent bytes at exit. Assumes nothing.
use mathlib.Core.Path.{◌≡◌, ap}
use mathlib.Core.List.{[], ◌∷◌}
use Prim.Native.Nat.{ℕ}
use native.Mathlib.Omega.{arith}
use lib.ListN.{length}
use Rattle.words.proofs.Promise.{Determined, read_off}
use Rattle.words.proofs.byte_at.Kinds as byte_at
use Rattle.words.proofs.byte_at.Reads as byte_at_reads
use Rattle.words.proofs.word_at.Kinds as word_at
use Rattle.words.proofs.word_at.Reads as word_at_reads
use Rattle.words.proofs.store_byte.Kinds as store_byte
use Rattle.words.proofs.store_byte.Reads as store_byte_reads
use Rattle.words.proofs.store_word.Kinds as store_word
use Rattle.words.proofs.store_word.Reads as store_word_reads

pub byte_at_determined : Determined 1 byte_at.ps byte_at.r byte_at_reads.Post
byte_at_determined κs a x y = read_off (λ r. (r, x.1))

pub word_at_determined : Determined 1 word_at.ps word_at.r word_at_reads.Post
word_at_determined κs a x y = read_off (λ r. (r, x.1))

pub store_byte_determined : Determined 1 store_byte.ps store_byte.r store_byte_reads.Post
store_byte_determined κs a x y = read_off (λ o. (tt, (o, (tt, (tt, tt)))))

pub store_word_determined : Determined 1 store_word.ps store_word.r store_word_reads.Post
store_word_determined κs a x y = read_off (λ o. (tt, (o, (tt, (tt, tt)))))

-- a promise that says nothing of a lent buffer does not determine its outcome
pub buffer_left_out : ¬ Determined 1 store_byte.ps store_byte.r (λ κs a r s. Unit {0})
buffer_left_out determined =
    let same : ◌≡◌ {A = ℕ} 0 1 = ap (λ o. length o.1.0) (determined ([], tt) (record { ref_ptr = (0, 0); ghost_name = 0; now = [] }, (0, (0, tt))) (tt, ([], (tt, (tt, tt)))) (tt, (0 ∷ [], (tt, (tt, tt)))) tt tt) in
    omega (arith, same)
