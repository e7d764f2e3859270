-- Each promise of this crate determines its result. Assumes nothing.
use Rattle.words.proofs.Promise.{Determined, read_off}
use Rattle.rows.proofs.area_count.Kinds as area_count
use Rattle.rows.proofs.area_count.Reads as area_count_reads
use Rattle.rows.proofs.item_count.Kinds as item_count
use Rattle.rows.proofs.item_count.Reads as item_count_reads
use Rattle.rows.proofs.bank_words.Kinds as bank_words
use Rattle.rows.proofs.bank_words.Reads as bank_words_reads
use Rattle.rows.proofs.functions.Kinds as functions
use Rattle.rows.proofs.functions.Reads as functions_reads
use Rattle.rows.proofs.address_place.Kinds as address_place
use Rattle.rows.proofs.address_place.Reads as address_place_reads
use Rattle.rows.proofs.rate_place.Kinds as rate_place
use Rattle.rows.proofs.rate_place.Reads as rate_place_reads
use Rattle.rows.proofs.clear_address.Kinds as clear_address
use Rattle.rows.proofs.clear_address.Reads as clear_address_reads
use Rattle.rows.proofs.has_records.Kinds as has_records
use Rattle.rows.proofs.has_records.Reads as has_records_reads
use Rattle.rows.proofs.header.Kinds as header
use Rattle.rows.proofs.header.Reads as header_reads
use Rattle.rows.proofs.record_row.Kinds as record_row
use Rattle.rows.proofs.record_row.Reads as record_row_reads
use Rattle.rows.proofs.record_area.Kinds as record_area
use Rattle.rows.proofs.record_area.Reads as record_area_reads
use Rattle.rows.proofs.area_row.Kinds as area_row
use Rattle.rows.proofs.area_row.Reads as area_row_reads
use Rattle.rows.proofs.item_end.Kinds as item_end
use Rattle.rows.proofs.item_end.Reads as item_end_reads
use Rattle.rows.proofs.item_row.Kinds as item_row
use Rattle.rows.proofs.item_row.Reads as item_row_reads
use Rattle.rows.proofs.item_place.Kinds as item_place
use Rattle.rows.proofs.item_place.Reads as item_place_reads

pub area_count_determined : Determined 1 area_count.ps area_count.r area_count_reads.Post
area_count_determined κs a x y = read_off (λ r. (r, x.1))

pub item_count_determined : Determined 1 item_count.ps item_count.r item_count_reads.Post
item_count_determined κs a x y = read_off (λ r. (r, x.1))

pub bank_words_determined : Determined 1 bank_words.ps bank_words.r bank_words_reads.Post
bank_words_determined κs a x y = read_off (λ r. (r, x.1))

pub functions_determined : Determined 1 functions.ps functions.r functions_reads.Post
functions_determined κs a x y = read_off (λ r. (r, x.1))

pub address_place_determined : Determined 1 address_place.ps address_place.r address_place_reads.Post
address_place_determined κs a x y = read_off (λ r. (r, x.1))

pub rate_place_determined : Determined 1 rate_place.ps rate_place.r rate_place_reads.Post
rate_place_determined κs a x y = read_off (λ r. (r, x.1))

pub clear_address_determined : Determined 1 clear_address.ps clear_address.r clear_address_reads.Post
clear_address_determined κs a x y = read_off (λ r. (r, x.1))

pub has_records_determined : Determined 1 has_records.ps has_records.r has_records_reads.Post
has_records_determined κs a x y = read_off (λ r. (r, x.1))

pub header_determined : Determined 1 header.ps header.r header_reads.Post
header_determined κs a x y = read_off (λ r. (r, x.1))

pub area_row_determined : Determined 1 area_row.ps area_row.r area_row_reads.Post
area_row_determined κs a x y = read_off (λ r. (r, x.1))

pub item_end_determined : Determined 0 item_end.ps item_end.r item_end_reads.Post
item_end_determined κs a x y = read_off (λ r. (r, x.1))

pub item_row_determined : Determined 1 item_row.ps item_row.r item_row_reads.Post
item_row_determined κs a x y = read_off (λ r. (r, x.1))

pub item_place_determined : Determined 1 item_place.ps item_place.r item_place_reads.Post
item_place_determined κs a x y = read_off (λ r. (r, x.1))

pub record_row_determined : Determined 1 record_row.ps record_row.r record_row_reads.Post
record_row_determined κs a x y = read_off (λ r. (r, x.1))

pub record_area_determined : Determined 1 record_area.ps record_area.r record_area_reads.Post
record_area_determined κs a x y = read_off (λ r. (r, x.1))
