-- What the statements of the demands suppose is met: on the UX sheet and a fresh bank, one frame for each sort of damage, and one undamaged
-- frame that gets a reply; a frame that stops at each step, and good ones; and for each refusal number of each call an input that gets it.
-- There is a call with each frame of bytes there (that there is one for all bytes that are lent: `Calls`). Assumes nothing.
use mathlib.Core.Path.{◌≡◌, refl, ap}
use mathlib.Core.Bool.{true}
use mathlib.Core.List.{List, [], ◌∷◌, ◌++◌, map}
use Prim.Native.Nat.{ℕ}
use native.Mathlib.Omega.{arith}
use lib.ListN.{take, drop, replicate}
use Rattle.words.specs.Words.{Bytes, word_at, with_word, bytes_of}
use Rattle.words.proofs.Small.{tested_bytes}
use Rattle.check_value.specs.Check.{value_of}
use Rattle.check_value.specs.Frame.{passes}
use Rattle.check_value.proofs.Witness.{frame_sent, frames_received, AllDamaged, sent_passes, received_damaged}
use Rattle.range.specs.declared.Side.TheVariants.{TooLow, TooHigh}
use Rattle.range.specs.Range.{in_range}
use Rattle.sheet_rules.specs.Rows.{areas, items, record_area}
use Rattle.ring_rules.specs.Calls.{ring_fits}
use Rattle.meter_rules.specs.Judgement.{lent_answer}
use Rattle.sheet_rules.specs.Rules.{sound, header_sound, areas_sound, items_sound, settings_sound, records_sound, item_places, covered_places, places_follow, areas_ascend, lengths_sum, sheet_answer}
use Rattle.lists.specs.Lists.{each, some, up_from, same_places}
use Rattle.sheet_rules.specs.Lookup.{lies_in, address_of}
use Rattle.makers.specs.Maps.{ux}
use Rattle.makers.specs.Sheets.{sheet_of}
use Rattle.bank_rules.specs.Stores.{stored}
use Rattle.bank_rules.specs.Bank.{bank_sound, good_by, low_stores, fresh_stores, post_stores, all_read_only}
use Rattle.lists.specs.Cases.{first_case}
use Rattle.refusals.specs.Answers.{answer_number}
use Rattle.bank_rules.specs.Calls.{lent, check_answer, fresh_answer, post_answer, mark_answer, fresh_outcome, post_outcome, mark_outcome}
use Rattle.meter_rules.specs.declared.Judged.TheVariants.{FailsCheck, OtherStation, FunctionNotAllowed, WrongLength, WrongCount, WrongAddress, WrongValue, BadItem, GoodRead, GoodClear, GoodWrite}
use Rattle.sheet_rules.specs.Runs.{all_open}
use Rattle.meter_rules.specs.Write.{bad_item, some_bad, stop_in, stop_place, stop_side, run_stores}
use Rattle.meter_rules.specs.Steps.{judged_frame}
use Rattle.meter_rules.specs.Reply.{reply_to, stores_of}
use Rattle.frame.specs.Reply.{with_check}
use Rattle.meter_rules.specs.Answer.{frame_check, acted_on, answer_outcome}
use Rattle.meter_rules.proofs.CaseSet.{ux_meter, ux_fresh_made}
use Rattle.why_rules.specs.Facts.{first_shut}
use Rattle.why_rules.specs.Reasons.{reason_of, explanation}
use Rattle.cedarskein.specs.Door.{Handed, handed, handed_of, told_of, said, said_of}
use Rattle.demands.specs.Seen.{Accepted}
use Rattle.demands.proofs.Calls.{Answers, Explains, some_answer, some_why}

abbrev ux_sheet : List ℕ
ux_sheet = sheet_of ux

-- the words of a fresh UX bank, as case set P has them
abbrev fresh_bank : List ℕ
fresh_bank = bytes_of ux_meter.fresh

abbrev answer_buffer : List ℕ
answer_buffer = replicate 100 0xA5

-- it is what the call for a fresh bank makes of 70 bytes, here of FF
pub fresh_bank_made : (told_of (fresh_outcome (lent ux_sheet (replicate 70 0xFF)))).bank ≡ fresh_bank
fresh_bank_made = ap (λ o. (told_of o).bank) ux_fresh_made

pub accepted : Accepted (lent ux_sheet fresh_bank) answer_buffer
unfolding ring_fits record_area bytes_of first_case bank_sound good_by sound header_sound areas_sound items_sound settings_sound records_sound each some up_from same_places item_places covered_places places_follow areas_ascend lengths_sum areas items word_at with_word in_range sheet_of
accepted = record { sheet_sound = refl; bank_fits = refl; bank_whole = refl; ring_goes = refl; buffer_long = omega arith }

-- ---- demand 3: one bit, two, three far apart, and sixteen in a run over three bytes

pub damage : AllDamaged frame_sent frames_received
damage = received_damaged

pub undamaged_passes : passes frame_sent ≡ true
undamaged_passes = sent_passes

-- what the meter answers
abbrev answer_to : List ℕ → Handed
answer_to frame = handed_of (answer_outcome (lent ux_sheet fresh_bank) frame answer_buffer)

pub called : (frame : List ℕ) → Bytes frame → Answers (lent ux_sheet fresh_bank) frame answer_buffer (answer_to frame)
unfolding sheet_of bytes_of
called frame frame_bytes =
    some_answer (lent ux_sheet fresh_bank) frame answer_buffer (tested_bytes ux_sheet tt) (tested_bytes fresh_bank tt) (tested_bytes [] tt) frame_bytes (tested_bytes answer_buffer tt)

pub damaged_answers : map answer_to frames_received ≡ map (λ frame. handed 1 0 0 fresh_bank answer_buffer) frames_received
unfolding all_open answer_outcome frame_check ring_fits record_area acted_on judged_frame reply_to stores_of with_check run_stores stop_place stop_in bad_item some_bad stored passes value_of lies_in bytes_of first_case bank_sound good_by sound header_sound areas_sound items_sound settings_sound records_sound each some up_from same_places item_places covered_places places_follow areas_ascend lengths_sum areas items word_at with_word in_range sheet_of
damaged_answers = refl

pub undamaged_answer : answer_to frame_sent ≡ handed 0 9 1 fresh_bank ((0x01 ∷ 0x03 ∷ 0x04 ∷ 0x00 ∷ 0x00 ∷ 0x00 ∷ 0x00 ∷ 0xFA ∷ 0x33 ∷ []) ++ drop 9 answer_buffer)
unfolding all_open answer_outcome frame_check ring_fits record_area acted_on judged_frame reply_to stores_of with_check run_stores stop_place stop_in bad_item some_bad stored passes value_of lies_in bytes_of first_case bank_sound good_by sound header_sound areas_sound items_sound settings_sound records_sound each some up_from same_places item_places covered_places places_follow areas_ascend lengths_sum areas items word_at with_word in_range sheet_of
undamaged_answer = refl

-- ---- rule D25: the read that station 1 answers, for 0, F8 and FF, with right checks

abbrev kept_back_frames : List (List ℕ)
kept_back_frames =
    (0x00 ∷ 0x03 ∷ 0x01 ∷ 0x01 ∷ 0x00 ∷ 0x02 ∷ 0x95 ∷ 0xE6 ∷ [])
    ∷ (0xF8 ∷ 0x03 ∷ 0x01 ∷ 0x01 ∷ 0x00 ∷ 0x02 ∷ 0x80 ∷ 0x5E ∷ [])
    ∷ (0xFF ∷ 0x03 ∷ 0x01 ∷ 0x01 ∷ 0x00 ∷ 0x02 ∷ 0x81 ∷ 0xE9 ∷ [])
    ∷ []

pub kept_back_pass : map passes kept_back_frames ≡ true ∷ true ∷ true ∷ []
unfolding passes value_of
kept_back_pass = refl

pub kept_back_answers : map answer_to kept_back_frames ≡ map (λ frame. handed 1 0 0 fresh_bank answer_buffer) kept_back_frames
unfolding all_open answer_outcome frame_check ring_fits record_area acted_on judged_frame reply_to stores_of with_check run_stores stop_place stop_in bad_item some_bad stored passes value_of lies_in bytes_of first_case bank_sound good_by sound header_sound areas_sound items_sound settings_sound records_sound each some up_from same_places item_places covered_places places_follow areas_ascend lengths_sum areas items word_at with_word in_range sheet_of
kept_back_answers = refl

-- ---- demand 2: a frame for each step, and good ones

abbrev judged_frames : List (List ℕ)
judged_frames =
    -- step 1: two bits changed
    (0x00 ∷ 0x03 ∷ 0x01 ∷ 0x01 ∷ 0x00 ∷ 0x02 ∷ 0x94 ∷ 0xB7 ∷ [])
    -- step 2: another station
    ∷ (0x02 ∷ 0x03 ∷ 0x01 ∷ 0x01 ∷ 0x00 ∷ 0x02 ∷ 0x94 ∷ 0x04 ∷ [])
    -- step 3: function 04
    ∷ (0x01 ∷ 0x04 ∷ 0x01 ∷ 0x01 ∷ 0x00 ∷ 0x02 ∷ 0x21 ∷ 0xF7 ∷ [])
    -- step 4: a 03 of 9 bytes
    ∷ (0x01 ∷ 0x03 ∷ 0x01 ∷ 0x01 ∷ 0x00 ∷ 0x02 ∷ 0x00 ∷ 0x36 ∷ 0xAF ∷ [])
    -- step 5: count 0
    ∷ (0x01 ∷ 0x03 ∷ 0x01 ∷ 0x01 ∷ 0x00 ∷ 0x00 ∷ 0x15 ∷ 0xF6 ∷ [])
    -- step 6: 020B lies in no area
    ∷ (0x01 ∷ 0x03 ∷ 0x02 ∷ 0x00 ∷ 0x00 ∷ 0x0C ∷ 0x44 ∷ 0x77 ∷ [])
    -- step 7: a clear with another value than 0
    ∷ (0x01 ∷ 0x05 ∷ 0x03 ∷ 0x00 ∷ 0xFF ∷ 0x00 ∷ 0x8C ∷ 0x7E ∷ [])
    -- step 7: station 0 is out of its range
    ∷ (0x01 ∷ 0x06 ∷ 0x01 ∷ 0x0E ∷ 0x00 ∷ 0x00 ∷ 0xE9 ∷ 0xF5 ∷ [])
    -- step 7: 0101 is stored, 0102 is out of its range
    ∷ (0x01 ∷ 0x10 ∷ 0x01 ∷ 0x01 ∷ 0x00 ∷ 0x03 ∷ 0x06 ∷ 0x00 ∷ 0x04 ∷ 0x00 ∷ 0x02 ∷ 0x00 ∷ 0x00 ∷ 0xE3 ∷ 0xB9 ∷ [])
    -- a read
    ∷ (0x01 ∷ 0x03 ∷ 0x01 ∷ 0x01 ∷ 0x00 ∷ 0x02 ∷ 0x94 ∷ 0x37 ∷ [])
    -- a write
    ∷ (0x01 ∷ 0x06 ∷ 0x01 ∷ 0x0E ∷ 0x00 ∷ 0x02 ∷ 0x68 ∷ 0x34 ∷ [])
    -- a clear
    ∷ (0x01 ∷ 0x05 ∷ 0x03 ∷ 0x00 ∷ 0x00 ∷ 0x00 ∷ 0xCD ∷ 0x8E ∷ [])
    ∷ []

pub steps_met : map (judged_frame (lent ux_sheet fresh_bank)) judged_frames
    ≡ FailsCheck
    ∷ OtherStation
    ∷ FunctionNotAllowed
    ∷ WrongLength
    ∷ WrongCount
    ∷ WrongAddress
    ∷ WrongValue
    ∷ BadItem 14 14 TooLow
    ∷ BadItem 1 2 TooHigh
    ∷ GoodRead 1 2
    ∷ GoodWrite 14 1
    ∷ GoodClear
    ∷ []
unfolding all_open answer_outcome frame_check ring_fits record_area acted_on judged_frame reply_to stores_of with_check run_stores stop_place stop_side stop_in bad_item some_bad stored passes value_of lies_in bytes_of first_case bank_sound good_by sound header_sound areas_sound items_sound settings_sound records_sound each some up_from same_places item_places covered_places places_follow areas_ascend lengths_sum areas items word_at with_word in_range sheet_of
steps_met = refl

-- the reasons that are told of them, each with its address and its side
pub reasons_told : map (λ frame. said_of (explanation (lent ux_sheet fresh_bank) frame)) judged_frames
    ≡ said 0 3 0 0
    ∷ said 0 4 0 0
    ∷ said 0 5 0 0
    ∷ said 0 6 0 0
    ∷ said 0 7 0 0
    ∷ said 0 8 0x020B 0
    ∷ said 0 9 0 0
    ∷ said 0 10 0x010E 1
    ∷ said 0 10 0x0102 2
    ∷ said 0 0 0 0
    ∷ said 0 0 0 0
    ∷ said 0 0 0 0
    ∷ []
unfolding explanation lent_answer ring_fits record_area reason_of first_shut all_open address_of stop_place stop_side stop_in bad_item some_bad value_of lies_in bytes_of first_case bank_sound good_by sound header_sound areas_sound items_sound settings_sound records_sound each some up_from same_places item_places covered_places places_follow areas_ascend lengths_sum areas items word_at with_word in_range sheet_of
reasons_told = refl

pub asked : (frame : List ℕ) → Bytes frame → Explains (lent ux_sheet fresh_bank) frame (said_of (explanation (lent ux_sheet fresh_bank) frame))
unfolding sheet_of bytes_of
asked frame frame_bytes = some_why (lent ux_sheet fresh_bank) frame (tested_bytes ux_sheet tt) (tested_bytes fresh_bank tt) (tested_bytes [] tt) frame_bytes

-- ---- demand 1: an input for each refusal of each call, and one that is not refused

-- the UX sheet, but of version 3
abbrev other_version : List ℕ
other_version = with_word ux_sheet 0 3

-- a bank without its last byte, and one whose mark is 2
abbrev short_bank : List ℕ
short_bank = take 69 fresh_bank

abbrev unsound_bank : List ℕ
unsound_bank = with_word fresh_bank 68 2

pub sheet_check_numbers : map (λ sheet. answer_number (sheet_answer sheet)) ([] ∷ other_version ∷ take 255 ux_sheet ∷ ux_sheet ∷ []) ≡ 2 ∷ 2 ∷ 2 ∷ 0 ∷ []
unfolding bytes_of first_case bank_sound good_by sound header_sound areas_sound items_sound settings_sound records_sound each some up_from same_places item_places covered_places places_follow areas_ascend lengths_sum areas items word_at with_word in_range sheet_of
sheet_check_numbers = refl

abbrev bank_checks : List ℕ
bank_checks =
    answer_number (check_answer (lent other_version fresh_bank)) ∷ answer_number (check_answer (lent ux_sheet short_bank)) ∷ answer_number (check_answer (lent ux_sheet unsound_bank))
    ∷ answer_number (check_answer (lent ux_sheet fresh_bank)) ∷ []

pub bank_check_numbers : bank_checks ≡ 2 ∷ 3 ∷ 4 ∷ 0 ∷ []
unfolding check_answer bytes_of first_case bank_sound good_by sound header_sound areas_sound items_sound settings_sound records_sound each some up_from same_places item_places covered_places places_follow areas_ascend lengths_sum areas items word_at with_word in_range sheet_of
bank_check_numbers = refl

abbrev fresh_calls : List ℕ
fresh_calls =
    (told_of (fresh_outcome (lent other_version fresh_bank))).number ∷ (told_of (fresh_outcome (lent ux_sheet short_bank))).number ∷ (told_of (fresh_outcome (lent ux_sheet unsound_bank))).number ∷ []

pub fresh_numbers : fresh_calls ≡ 2 ∷ 3 ∷ 0 ∷ []
unfolding fresh_outcome fresh_answer fresh_stores low_stores stored bytes_of first_case bank_sound good_by sound header_sound areas_sound items_sound settings_sound records_sound each some up_from same_places item_places covered_places places_follow areas_ascend lengths_sum areas items word_at with_word in_range sheet_of
fresh_numbers = refl

abbrev post_calls : List ℕ
post_calls =
    (told_of (post_outcome (lent other_version fresh_bank) 0x0200 (0 ∷ 1 ∷ []))).number
    ∷ (told_of (post_outcome (lent ux_sheet short_bank) 0x0200 (0 ∷ 1 ∷ []))).number
    ∷ (told_of (post_outcome (lent ux_sheet unsound_bank) 0x0200 (0 ∷ 1 ∷ []))).number
    ∷ (told_of (post_outcome (lent ux_sheet fresh_bank) 0x0200 [])).number
    ∷ (told_of (post_outcome (lent ux_sheet fresh_bank) 0x0100 (0 ∷ []))).number
    ∷ (told_of (post_outcome (lent ux_sheet fresh_bank) 0x0100 (0 ∷ 1 ∷ []))).number
    ∷ (told_of (post_outcome (lent ux_sheet fresh_bank) 0x0200 (0 ∷ 1 ∷ []))).number ∷ []

pub post_numbers : post_calls ≡ 2 ∷ 3 ∷ 4 ∷ 7 ∷ 7 ∷ 6 ∷ 0 ∷ []
unfolding post_outcome post_answer post_stores all_read_only lies_in bytes_of first_case bank_sound good_by sound header_sound areas_sound items_sound settings_sound records_sound each some up_from same_places item_places covered_places places_follow areas_ascend lengths_sum areas items word_at with_word in_range sheet_of
post_numbers = refl

abbrev mark_calls : List ℕ
mark_calls =
    (told_of (mark_outcome (lent other_version fresh_bank) 1)).number ∷ (told_of (mark_outcome (lent ux_sheet short_bank) 1)).number
    ∷ (told_of (mark_outcome (lent ux_sheet unsound_bank) 1)).number ∷ (told_of (mark_outcome (lent ux_sheet fresh_bank) 2)).number
    ∷ (told_of (mark_outcome (lent ux_sheet fresh_bank) 1)).number ∷ []

pub mark_numbers : mark_calls ≡ 2 ∷ 3 ∷ 4 ∷ 7 ∷ 0 ∷ []
unfolding mark_outcome mark_answer bytes_of first_case bank_sound good_by sound header_sound areas_sound items_sound settings_sound records_sound each some up_from same_places item_places covered_places places_follow areas_ascend lengths_sum areas items word_at with_word in_range sheet_of
mark_numbers = refl

abbrev frame_calls : List ℕ
frame_calls =
    (handed_of (answer_outcome (lent other_version fresh_bank) frame_sent answer_buffer)).number
    ∷ (handed_of (answer_outcome (lent ux_sheet short_bank) frame_sent answer_buffer)).number
    ∷ (handed_of (answer_outcome (lent ux_sheet unsound_bank) frame_sent answer_buffer)).number
    ∷ (handed_of (answer_outcome (lent ux_sheet fresh_bank) frame_sent (replicate 99 0))).number
    ∷ (handed_of (answer_outcome (lent ux_sheet fresh_bank) [] answer_buffer)).number
    ∷ (handed_of (answer_outcome (lent ux_sheet fresh_bank) frame_sent answer_buffer)).number ∷ []

pub frame_numbers : frame_calls ≡ 2 ∷ 3 ∷ 4 ∷ 5 ∷ 1 ∷ 0 ∷ []
unfolding all_open answer_outcome frame_check ring_fits record_area acted_on judged_frame reply_to stores_of with_check run_stores stop_place stop_in bad_item some_bad stored passes value_of lies_in bytes_of first_case bank_sound good_by sound header_sound areas_sound items_sound settings_sound records_sound each some up_from same_places item_places covered_places places_follow areas_ascend lengths_sum areas items word_at with_word in_range sheet_of
frame_numbers = refl

abbrev why_calls : List ℕ
why_calls =
    (said_of (explanation (lent other_version fresh_bank) frame_sent)).number
    ∷ (said_of (explanation (lent ux_sheet short_bank) frame_sent)).number
    ∷ (said_of (explanation (lent ux_sheet unsound_bank) frame_sent)).number
    ∷ (said_of (explanation (lent ux_sheet fresh_bank) frame_sent)).number ∷ []

pub why_numbers : why_calls ≡ 2 ∷ 3 ∷ 4 ∷ 0 ∷ []
unfolding explanation lent_answer ring_fits record_area bytes_of first_case bank_sound good_by sound header_sound areas_sound items_sound settings_sound records_sound each some up_from same_places item_places covered_places places_follow areas_ascend lengths_sum areas items word_at with_word in_range sheet_of
why_numbers = refl
