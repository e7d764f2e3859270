-- Each promise of this crate determines its result. Assumes nothing.
use Rattle.words.proofs.Promise.{Determined, read_off}
use Rattle.one_row.proofs.in_area.Kinds as in_area
use Rattle.one_row.proofs.in_area.Reads as in_area_reads
use Rattle.one_row.proofs.length_of.Kinds as length_of
use Rattle.one_row.proofs.length_of.Reads as length_of_reads
use Rattle.one_row.proofs.area_sound.Kinds as area_sound
use Rattle.one_row.proofs.area_sound.Reads as area_sound_reads
use Rattle.one_row.proofs.clear_outside.Kinds as clear_outside
use Rattle.one_row.proofs.clear_outside.Reads as clear_outside_reads
use Rattle.one_row.proofs.item_sound.Kinds as item_sound
use Rattle.one_row.proofs.item_sound.Reads as item_sound_reads
use Rattle.one_row.proofs.size_of.Kinds as size_of
use Rattle.one_row.proofs.size_of.Reads as size_of_reads
use Rattle.one_row.proofs.address_found.Kinds as address_found
use Rattle.one_row.proofs.address_found.Reads as address_found_reads
use Rattle.one_row.proofs.rate_found.Kinds as rate_found
use Rattle.one_row.proofs.rate_found.Reads as rate_found_reads
use Rattle.one_row.proofs.records_sound.Kinds as records_sound
use Rattle.one_row.proofs.records_sound.Reads as records_sound_reads
use Rattle.one_row.proofs.in_records.Kinds as in_records
use Rattle.one_row.proofs.in_records.Reads as in_records_reads
use Rattle.one_row.proofs.apart.Kinds as apart
use Rattle.one_row.proofs.apart.Reads as apart_reads

pub in_area_determined : Determined 0 in_area.ps in_area.r in_area_reads.Post
in_area_determined κs a x y = read_off (λ r. (r, x.1))

pub length_of_determined : Determined 0 length_of.ps length_of.r length_of_reads.Post
length_of_determined κs a x y = read_off (λ r. (r, x.1))

pub area_sound_determined : Determined 0 area_sound.ps area_sound.r area_sound_reads.Post
area_sound_determined κs a x y = read_off (λ r. (r, x.1))

pub clear_outside_determined : Determined 0 clear_outside.ps clear_outside.r clear_outside_reads.Post
clear_outside_determined κs a x y = read_off (λ r. (r, x.1))

pub item_sound_determined : Determined 0 item_sound.ps item_sound.r item_sound_reads.Post
item_sound_determined κs a x y = read_off (λ r. (r, x.1))

pub size_of_determined : Determined 0 size_of.ps size_of.r size_of_reads.Post
size_of_determined κs a x y = read_off (λ r. (r, x.1))

pub address_found_determined : Determined 0 address_found.ps address_found.r address_found_reads.Post
address_found_determined κs a x y = read_off (λ r. (r, x.1))

pub rate_found_determined : Determined 0 rate_found.ps rate_found.r rate_found_reads.Post
rate_found_determined κs a x y = read_off (λ r. (r, x.1))

pub records_sound_determined : Determined 0 records_sound.ps records_sound.r records_sound_reads.Post
records_sound_determined κs a x y = read_off (λ r. (r, x.1))

pub in_records_determined : Determined 0 in_records.ps in_records.r in_records_reads.Post
in_records_determined κs a x y = read_off (λ r. (r, x.1))

pub apart_determined : Determined 0 apart.ps apart.r apart_reads.Post
apart_determined κs a x y = read_off (λ r. (r, x.1))
