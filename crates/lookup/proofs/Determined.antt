-- Each promise of this crate determines its result. Assumes nothing.
use Rattle.words.proofs.Promise.{Determined, read_off}
use Rattle.lookup.proofs.lies_at.Kinds as lies_at
use Rattle.lookup.proofs.lies_at.Reads as lies_at_reads
use Rattle.lookup.proofs.place_in.Kinds as place_in
use Rattle.lookup.proofs.place_in.Reads as place_in_reads
use Rattle.lookup.proofs.address_of.Kinds as address_of
use Rattle.lookup.proofs.address_of.Reads as address_of_reads
use Rattle.lookup.proofs.reached.Kinds as reached
use Rattle.lookup.proofs.reached.Reads as reached_reads

pub lies_at_determined : Determined 1 lies_at.ps lies_at.r lies_at_reads.Post
lies_at_determined κs a x y = read_off (λ r. (r, x.1))

pub place_in_determined : Determined 0 place_in.ps place_in.r place_in_reads.Post
place_in_determined κs a x y = read_off (λ r. (r, x.1))

pub address_of_determined : Determined 1 address_of.ps address_of.r address_of_reads.Post
address_of_determined κs a x y = read_off (λ r. (r, x.1))

pub reached_determined : Determined 1 reached.ps reached.r reached_reads.Post
reached_determined κs a x y = read_off (λ r. (r, x.1))
