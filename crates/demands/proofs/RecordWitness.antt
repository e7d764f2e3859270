-- What the statements about records suppose is met: on a sheet with three records, a full ring and a fresh bank, calls that read each record, one
-- beyond what is stored, and two at once; an addition after which the read of record 1 sends what was added; a damaged read; and for each refusal
-- number of the two calls on a ring, and for 8 of the two with a frame, an input that gets it. Assumes nothing.
use mathlib.Core.Path.{◌≡◌, refl}
use mathlib.Core.List.{List, [], ◌∷◌, ◌++◌, map}
use Prim.Native.Nat.{ℕ}
use native.Mathlib.Omega.{arith}
use lib.ListN.{take, drop, replicate}
use Rattle.words.specs.Words.{Bytes, word_at, with_word, bytes_of}
use Rattle.words.proofs.Small.{tested_bytes}
use Rattle.check_value.specs.Check.{value_of}
use Rattle.check_value.specs.Frame.{passes}
use Rattle.range.specs.Range.{in_range}
use Rattle.sheet_rules.specs.Rows.{areas, items, record_area}
use Rattle.sheet_rules.specs.Rules.{sound, header_sound, areas_sound, items_sound, settings_sound, records_sound, item_places, covered_places, places_follow, areas_ascend, lengths_sum}
use Rattle.lists.specs.Cases.{first_case}
use Rattle.lists.specs.Lists.{each, some, up_from, same_places}
use Rattle.sheet_rules.specs.Lookup.{lies_in}
use Rattle.sheet_rules.specs.Runs.{all_open}
use Rattle.refusals.specs.Answers.{answer_number}
use Rattle.bank_rules.specs.Stores.{stored}
use Rattle.bank_rules.specs.Bank.{bank_sound, good_by}
use Rattle.bank_rules.specs.Calls.{Lent, lent_with}
use Rattle.ring_rules.specs.Ring.{ring_sound, add_stores}
use Rattle.ring_rules.specs.Calls.{ring_fits, ring_answer, add_answer, add_outcome}
use Rattle.meter_rules.specs.Judgement.{lent_answer}
use Rattle.meter_rules.specs.Write.{bad_item, some_bad, stop_in, stop_place, run_stores}
use Rattle.meter_rules.specs.Steps.{judged_frame}
use Rattle.meter_rules.specs.Reply.{reply_to, stores_of}
use Rattle.frame.specs.Reply.{with_check}
use Rattle.meter_rules.specs.Answer.{frame_check, acted_on, answer_outcome}
use Rattle.meter_rules.proofs.FrameLimits.{small}
use Rattle.meter_rules.proofs.RecordLimits.{history, fresh_bank, ring_of, full, part_full}
use Rattle.why_rules.specs.Facts.{first_shut}
use Rattle.why_rules.specs.Reasons.{reason_of, explanation}
use Rattle.cedarskein.specs.Door.{Handed, handed, handed_of, ring_told_of, said_of}
use Rattle.demands.specs.Seen.{Accepted}
use Rattle.demands.proofs.Calls.{Answers, some_answer}

abbrev sheet : List ℕ
sheet = bytes_of history

abbrev bank : List ℕ
bank = bytes_of fresh_bank

abbrev given : Lent
given = lent_with sheet bank (bytes_of full)

abbrev answer_buffer : List ℕ
answer_buffer = replicate 100 0xA5

pub accepted : Accepted given answer_buffer
unfolding ring_fits ring_sound record_area bytes_of first_case bank_sound good_by sound header_sound areas_sound items_sound settings_sound records_sound each some up_from same_places item_places covered_places places_follow areas_ascend lengths_sum areas items word_at with_word in_range
accepted = record { sheet_sound = refl; bank_fits = refl; bank_whole = refl; ring_goes = refl; buffer_long = omega arith }

-- a read of each record, of two at once, and the first of them with a bit changed
abbrev reads : List (List ℕ)
reads =
    (0x01 ∷ 0x03 ∷ 0x00 ∷ 0x04 ∷ 0x00 ∷ 0x01 ∷ 0xC5 ∷ 0xCB ∷ [])
    ∷ (0x01 ∷ 0x03 ∷ 0x00 ∷ 0x05 ∷ 0x00 ∷ 0x01 ∷ 0x94 ∷ 0x0B ∷ [])
    ∷ (0x01 ∷ 0x03 ∷ 0x00 ∷ 0x06 ∷ 0x00 ∷ 0x01 ∷ 0x64 ∷ 0x0B ∷ [])
    ∷ (0x01 ∷ 0x03 ∷ 0x00 ∷ 0x04 ∷ 0x00 ∷ 0x02 ∷ 0x85 ∷ 0xCA ∷ [])
    ∷ (0x01 ∷ 0x03 ∷ 0x00 ∷ 0x04 ∷ 0x00 ∷ 0x01 ∷ 0xC5 ∷ 0xCA ∷ [])
    ∷ []

abbrev answer_to : List ℕ → List ℕ → Handed
answer_to ring frame = handed_of (answer_outcome (lent_with sheet bank ring) frame answer_buffer)

abbrev sends : List ℕ → Handed
sends reply = handed 0 7 1 bank (reply ++ drop 7 answer_buffer)

abbrev errs : List ℕ → Handed
errs reply = handed 0 5 1 bank (reply ++ drop 5 answer_buffer)

pub called : (frame : List ℕ) → Bytes frame → Answers given frame answer_buffer (answer_to (bytes_of full) frame)
unfolding bytes_of
called frame frame_bytes =
    some_answer given frame answer_buffer (tested_bytes sheet tt) (tested_bytes bank tt) (tested_bytes (bytes_of full) tt) frame_bytes (tested_bytes answer_buffer tt)

pub full_answers : map (answer_to (bytes_of full)) reads
    ≡ sends (0x01 ∷ 0x03 ∷ 0x02 ∷ 0x22 ∷ 0x22 ∷ 0x20 ∷ 0xFD ∷ [])
    ∷ sends (0x01 ∷ 0x03 ∷ 0x02 ∷ 0x11 ∷ 0x11 ∷ 0x74 ∷ 0x18 ∷ [])
    ∷ sends (0x01 ∷ 0x03 ∷ 0x02 ∷ 0x33 ∷ 0x33 ∷ 0xEC ∷ 0xA1 ∷ [])
    ∷ errs (0x01 ∷ 0x83 ∷ 0x03 ∷ 0x01 ∷ 0x31 ∷ [])
    ∷ handed 1 0 0 bank answer_buffer
    ∷ []
unfolding all_open answer_outcome frame_check ring_fits ring_sound record_area acted_on judged_frame reply_to stores_of with_check run_stores stop_place stop_in bad_item some_bad stored passes value_of lies_in bytes_of first_case bank_sound good_by sound header_sound areas_sound items_sound settings_sound records_sound each some up_from same_places item_places covered_places places_follow areas_ascend lengths_sum areas items word_at with_word in_range
full_answers = refl

-- two are stored: the third is beyond them
pub beyond_answers : map (answer_to (bytes_of part_full)) (take 3 reads)
    ≡ sends (0x01 ∷ 0x03 ∷ 0x02 ∷ 0x22 ∷ 0x22 ∷ 0x20 ∷ 0xFD ∷ [])
    ∷ sends (0x01 ∷ 0x03 ∷ 0x02 ∷ 0x11 ∷ 0x11 ∷ 0x74 ∷ 0x18 ∷ [])
    ∷ errs (0x01 ∷ 0x83 ∷ 0x02 ∷ 0xC0 ∷ 0xF1 ∷ [])
    ∷ []
unfolding all_open answer_outcome frame_check ring_fits ring_sound record_area acted_on judged_frame reply_to stores_of with_check run_stores stop_place stop_in bad_item some_bad stored passes value_of lies_in bytes_of first_case bank_sound good_by sound header_sound areas_sound items_sound settings_sound records_sound each some up_from same_places item_places covered_places places_follow areas_ascend lengths_sum areas items word_at with_word in_range
beyond_answers = refl

-- 4444 is added: then the reads send 4444, 2222 and 1111
abbrev after : List ℕ
after = (add_outcome sheet (bytes_of full) (0x44 ∷ 0x44 ∷ [])).ring

pub added_answers : map (answer_to after) (take 3 reads)
    ≡ sends (0x01 ∷ 0x03 ∷ 0x02 ∷ 0x44 ∷ 0x44 ∷ 0x8B ∷ 0x77 ∷ [])
    ∷ sends (0x01 ∷ 0x03 ∷ 0x02 ∷ 0x22 ∷ 0x22 ∷ 0x20 ∷ 0xFD ∷ [])
    ∷ sends (0x01 ∷ 0x03 ∷ 0x02 ∷ 0x11 ∷ 0x11 ∷ 0x74 ∷ 0x18 ∷ [])
    ∷ []
unfolding add_outcome add_answer add_stores all_open answer_outcome frame_check ring_fits ring_sound record_area acted_on judged_frame reply_to stores_of with_check run_stores stop_place stop_in bad_item some_bad stored passes value_of lies_in bytes_of first_case bank_sound good_by sound header_sound areas_sound items_sound settings_sound records_sound each some up_from same_places item_places covered_places places_follow areas_ascend lengths_sum areas items word_at with_word in_range
added_answers = refl

-- ---- demand 1: an input for each refusal of the calls on a ring, for 8 of those with a frame, and one that is not refused

abbrev other_version : List ℕ
other_version = with_word sheet 0 3

abbrev ring_calls : List ℕ
ring_calls =
    answer_number (ring_answer other_version (bytes_of full))
    ∷ answer_number (ring_answer sheet [])
    ∷ answer_number (ring_answer sheet (bytes_of full))
    ∷ answer_number (ring_answer (bytes_of small.sheet) []) ∷ []

pub ring_numbers : ring_calls ≡ 2 ∷ 8 ∷ 0 ∷ 0 ∷ []
unfolding ring_answer ring_fits ring_sound record_area bytes_of first_case sound header_sound areas_sound items_sound settings_sound records_sound each some up_from same_places item_places covered_places places_follow areas_ascend lengths_sum areas items word_at with_word in_range
ring_numbers = refl

abbrev add_calls : List ℕ
add_calls =
    (ring_told_of (add_outcome other_version (bytes_of full) (0 ∷ 1 ∷ []))).number
    ∷ (ring_told_of (add_outcome (bytes_of small.sheet) [] (0 ∷ 1 ∷ []))).number
    ∷ (ring_told_of (add_outcome sheet (bytes_of (ring_of 3 3)) (0 ∷ 1 ∷ []))).number
    ∷ (ring_told_of (add_outcome sheet (bytes_of full) (0 ∷ []))).number
    ∷ (ring_told_of (add_outcome sheet (bytes_of full) (0 ∷ 1 ∷ []))).number ∷ []

pub add_numbers : add_calls ≡ 2 ∷ 2 ∷ 8 ∷ 7 ∷ 0 ∷ []
unfolding add_outcome add_answer add_stores stored ring_fits ring_sound record_area bytes_of first_case sound header_sound areas_sound items_sound settings_sound records_sound each some up_from same_places item_places covered_places places_follow areas_ascend lengths_sum areas items word_at with_word in_range
add_numbers = refl

abbrev frame_calls : List ℕ
frame_calls =
    map (λ ring. (handed_of (answer_outcome (lent_with sheet bank ring) (0x01 ∷ []) answer_buffer)).number) ([] ∷ bytes_of full ∷ [])
    ++ map (λ ring. (said_of (explanation (lent_with sheet bank ring) (0x01 ∷ []))).number) ([] ∷ bytes_of full ∷ [])

pub frame_numbers : frame_calls ≡ 8 ∷ 1 ∷ 8 ∷ 0 ∷ []
unfolding explanation lent_answer reason_of first_shut all_open answer_outcome frame_check ring_fits ring_sound record_area acted_on judged_frame reply_to stores_of with_check run_stores stop_place stop_in bad_item some_bad stored passes value_of lies_in bytes_of first_case bank_sound good_by sound header_sound areas_sound items_sound settings_sound records_sound each some up_from same_places item_places covered_places places_follow areas_ascend lengths_sum areas items word_at with_word in_range
frame_numbers = refl
