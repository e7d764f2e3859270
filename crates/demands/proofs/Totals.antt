-- The presets of AS-WE 40 over the calls themselves: a 06 to a half of a preset pair is always taken, and its word is then in the bank as sent, whatever the
-- other half is; and what the statements on access 2 suppose is met, by a write of all presets that no read sees. Assumes nothing.
use mathlib.Core.Path.{◌≡◌, refl, sym, ap, subst, ◌∙◌}
use mathlib.Core.Bool.{true}
use mathlib.Core.List.{List, [], ◌∷◌, ◌++◌}
use mathlib.Core.Logic.{inl, inr}
use Prim.Native.Nat.{ℕ, ◌+◌, ◌-◌, ◌*◌, ◌≤◌, ◌<◌}
use native.Mathlib.Omega.{arith}
use lib.ListN.{drop, replicate}
use Rattle.words.specs.Words.{word_at, with_word, bytes_of}
use Rattle.words.proofs.Small.{tested_bytes}
use Rattle.check_value.specs.Check.{value_of}
use Rattle.check_value.specs.Frame.{passes}
use Rattle.range.specs.Range.{in_range}
use Rattle.lists.specs.Cases.{first_case}
use Rattle.lists.specs.Lists.{each, some, up_from, same_places}
use Rattle.lists.proofs.Among.{Among, here, there, among_left, among_right}
use Rattle.sheet_rules.specs.declared.Area.{Area}
use Rattle.sheet_rules.specs.Rows.{areas, items, record_area}
use Rattle.sheet_rules.specs.Rules.{sound, header_sound, areas_sound, items_sound, settings_sound, records_sound, item_places, covered_places, places_follow, areas_ascend, lengths_sum}
use Rattle.sheet_rules.specs.Lookup.{lies_in, found_at}
use Rattle.sheet_rules.proofs.Addresses.{lies_there}
use Rattle.sheet_rules.proofs.Sound.{sound_areas}
use Rattle.makers.specs.Maps.{Row, aswe_rows_in_front, aswe_rows_behind, bore40, presets, aswe40, preset, pair}
use Rattle.makers.specs.Sheets.{sheet_of}
use Rattle.makers.proofs.Sheets.{aswe_40, access_in, sheet_sound_lem, areas_printed_lem}
use Rattle.bank_rules.specs.Stores.{stored}
use Rattle.bank_rules.specs.Bank.{bank_sound, good_by}
use Rattle.bank_rules.specs.Calls.{Lent, lent, lent_with}
use Rattle.ring_rules.specs.Calls.{ring_fits}
use Rattle.sheet_rules.specs.Runs.{all_open}
use Rattle.meter_rules.specs.Write.{bad_item, some_bad, stop_in, stop_place, run_stores}
use Rattle.meter_rules.specs.Steps.{judged_frame}
use Rattle.meter_rules.specs.Reply.{reply_to, stores_of}
use Rattle.frame.specs.Reply.{with_check}
use Rattle.meter_rules.specs.Answer.{frame_check, acted_on, answer_outcome}
use Rattle.meter_rules.proofs.CaseSet.{aswe_meter}
use Rattle.plain.specs.Numbers.{Bytes, word}
use Rattle.plain.specs.Sheet.{WritableAt}
use Rattle.plain.specs.Alike.{AgreeOutside}
use Rattle.plain.specs.Frame.{good, Within, address}
use Rattle.plain.specs.Registers.{write_one, TakenWithin, AsPrinted}
use Rattle.plain.proofs.Rows.{plain_lies, writable_plain}
use Rattle.plain.proofs.Printed.{as_printed}
use Rattle.plain.proofs.Registers.{sent_same}
use Rattle.plain.proofs.FullPairs.{word_small}
use Rattle.cedarskein.specs.Door.{Handed, handed, handed_of}
use Rattle.demands.specs.Seen.{Accepted, Replied}
use Rattle.demands.proofs.Calls.{Answers, answers_bytes, some_answer}
use Rattle.demands.proofs.Frames.{taken_echoed}
use Rattle.demands.proofs.Reasons.{seen_gets}
use Rattle.demands.proofs.Presets.{written_as_sent, hidden_write}

-- the halves of the two preset pairs, by address and place
pub data Half : ℕ → ℕ → Type 0 where
  second_upper : Half 0x011B 23
  second_lower : Half 0x011C 24
  reverse_upper : Half 0x011D 25
  reverse_lower : Half 0x011E 26

abbrev aswe_sheet : List ℕ
aswe_sheet = sheet_of aswe40

-- where each half lies
half_lies : {at place : ℕ} → Half at place → lies_in (areas aswe_sheet) at ≡ found_at place 2
unfolding lies_in sheet_of areas word_at
half_lies second_upper = refl
half_lies second_lower = refl
half_lies reverse_upper = refl
half_lies reverse_lower = refl

aswe_sound : sound aswe_sheet ≡ true
aswe_sound = sheet_sound_lem aswe_40

half_writable : {at place : ℕ} → Half at place → WritableAt aswe_sheet at place
half_writable half = writable_plain aswe_sheet aswe_sound (half_lies half) refl

abbrev second : Row
second = preset (pair 0x011B 0x0 0xFFFFFFFF)

abbrev reverse : Row
reverse = preset (pair 0x011D 0x0 0xFFFFFFFF)

-- any two words make a value that is within
whole_range : {upper lower : ℕ} → upper < 65536 → lower < 65536 → Within 2 0 0xFFFFFFFF (65536 * upper + lower)
whole_range upper lower = record { plain = λ unsigned. (omega arith, omega (arith, upper, lower)); signed = λ e. absurd (omega (arith, e)) }

module _ (bank ring : List ℕ) (bank-bytes : Bytes bank) where
  abbrev given : Lent
  given = lent_with aswe_sheet bank ring

  second_printed : AsPrinted given second
  second_printed =
      let m : Among second presets = there (there (there here)) in
      as_printed aswe_40 given refl second (among_right (aswe_rows_in_front bore40) (among_left aswe_rows_behind m))

  reverse_printed : AsPrinted given reverse
  reverse_printed =
      let m : Among reverse presets = there (there (there (there here))) in
      as_printed aswe_40 given refl reverse (among_right (aswe_rows_in_front bore40) (among_left aswe_rows_behind m))

  -- a 06 to a half is good exactly if a value is within bounds, and it is
  pub record AlwaysTaken (at v : ℕ) : Type 0 where
    pub value : ℕ
    pub taken : TakenWithin given at v 2 0 0xFFFFFFFF value
    pub inside : Within 2 0 0xFFFFFFFF value

  -- of either half of such a pair, with the other one as the bank has it
  module _ (first place v : ℕ) (printed : AsPrinted given (preset (pair first 0x0 0xFFFFFFFF))) (small : v < 65536) where
    upper_taken : WritableAt aswe_sheet (first + 1) (place + 1) → AlwaysTaken first v
    upper_taken next =
        record {
          value = 65536 * v + word bank (2 * (place + 1));
          taken = printed.of_upper refl v (place + 1) small next;
          inside = whole_range small (word_small bank bank-bytes (2 * (place + 1)));
        }

    lower_taken : WritableAt aswe_sheet first place → AlwaysTaken (first + 1) v
    lower_taken front =
        record {
          value = 65536 * word bank (2 * place) + v;
          taken = printed.of_lower refl v place small front;
          inside = whole_range (word_small bank bank-bytes (2 * place)) small;
        }

  half_taken : {at place : ℕ} (v : ℕ) → Half at place → v < 65536 → AlwaysTaken at v
  half_taken v second_upper small = upper_taken 0x011B 23 v second_printed small (half_writable second_lower)
  half_taken v second_lower small = lower_taken 0x011B 23 v second_printed small (half_writable second_upper)
  half_taken v reverse_upper small = upper_taken 0x011D 25 v reverse_printed small (half_writable reverse_lower)
  half_taken v reverse_lower small = lower_taken 0x011D 25 v reverse_printed small (half_writable reverse_upper)

  -- the address of such a 06
  half_address : {at place : ℕ} (v : ℕ) → Half at place → address (write_one given at v) 0 ≡ at
  half_address v second_upper = refl
  half_address v second_lower = refl
  half_address v reverse_upper = refl
  half_address v reverse_lower = refl

  half_small : {at place : ℕ} → Half at place → at ≤ 0xFFFF
  half_small second_upper = omega arith
  half_small second_lower = omega arith
  half_small reverse_upper = omega arith
  half_small reverse_lower = omega arith

-- a 06 to a half gets its echo, and its word is in the bank as sent, whatever the bank holds
module _ (bank ring buffer : List ℕ) (accepted : Accepted (lent_with aswe_sheet bank ring) buffer) {at place : ℕ} (v : ℕ) (half : Half at place) (small : v < 65536)
    {left : Handed} (call : Answers (lent_with aswe_sheet bank ring) (write_one (lent_with aswe_sheet bank ring) at v) buffer left) where
  abbrev lent_to : Lent
  lent_to = lent_with aswe_sheet bank ring

  abbrev frame : List ℕ
  frame = write_one lent_to at v

  always : AlwaysTaken bank ring (answers_bytes call).1 at v
  always = half_taken bank ring (answers_bytes call).1 v half small

  pub half_replied : Replied left
  half_replied = (seen_gets lent_to frame buffer accepted call good).1 (always.taken.taken.1 always.inside)

  pub half_echoed : left.length ≡ 8
  half_echoed = (taken_echoed lent_to frame buffer accepted call always.taken refl).1 always.inside

  pub half_kept : word left.bank (2 * place) ≡ v
  half_kept =
      written_as_sent lent_to frame buffer accepted call (inl refl) half_replied 0 place (omega arith)
      (subst (λ (n : ℕ). WritableAt aswe_sheet n place) (sym (half_address bank ring (answers_bytes call).1 v half)) (half_writable half))
      ∙ sent_same lent_to at v (half_small bank ring (answers_bytes call).1 half) small

-- ---- a write of all presets that no read sees: what the statements on access 2 suppose is met

-- the words of a fresh bank, as case set P has them, and of one with every preset at its high bound
abbrev fresh_bank : List ℕ
fresh_bank = bytes_of aswe_meter.fresh

abbrev preset_bank : List ℕ
preset_bank =
    bytes_of
    (0 ∷ 0 ∷ 0 ∷ 0 ∷ 0 ∷ 0 ∷ 0x0001 ∷ 0x0320 ∷ 0x0001 ∷ 0x0001 ∷ 0 ∷ 0x01F4 ∷ 0 ∷ 0x0001 ∷ 0x0001 ∷ 0 ∷ 0 ∷ 0x0001 ∷ 0 ∷ 0x0001 ∷ 0x0009 ∷ 0x270F ∷ 0x270F ∷ 0xFFFF ∷ 0xFFFF ∷ 0xFFFF ∷ 0xFFFF ∷ 0xFF9C ∷ 0 ∷ 0 ∷ 0 ∷ 0 ∷ 0 ∷ 0 ∷ 0 ∷ 0 ∷ 0 ∷ 0 ∷ 0 ∷ 0 ∷ 0 ∷ 0 ∷ 0 ∷ 0 ∷ 0 ∷ 0 ∷ [])

abbrev answer_buffer : List ℕ
answer_buffer = replicate 100 0xA5

pub accepted_fresh : Accepted (lent aswe_sheet fresh_bank) answer_buffer
unfolding ring_fits record_area bytes_of first_case bank_sound good_by sound header_sound areas_sound items_sound settings_sound records_sound each some up_from same_places item_places covered_places places_follow areas_ascend lengths_sum areas items word_at with_word in_range sheet_of
accepted_fresh = record { sheet_sound = refl; bank_fits = refl; bank_whole = refl; ring_goes = refl; buffer_long = omega arith }

pub accepted_preset : Accepted (lent aswe_sheet preset_bank) answer_buffer
unfolding ring_fits record_area bytes_of first_case bank_sound good_by sound header_sound areas_sound items_sound settings_sound records_sound each some up_from same_places item_places covered_places places_follow areas_ascend lengths_sum areas items word_at with_word in_range sheet_of
accepted_preset = record { sheet_sound = refl; bank_fits = refl; bank_whole = refl; ring_goes = refl; buffer_long = omega arith }

abbrev answer_to : List ℕ → List ℕ → Handed
answer_to bank frame = handed_of (answer_outcome (lent aswe_sheet bank) frame answer_buffer)

called : (bank frame : List ℕ) → Bytes bank → Bytes frame → Answers (lent aswe_sheet bank) frame answer_buffer (answer_to bank frame)
unfolding sheet_of bytes_of
called bank frame bank-bytes frame_bytes =
    some_answer (lent aswe_sheet bank) frame answer_buffer (tested_bytes aswe_sheet tt) bank-bytes (tested_bytes [] tt) frame_bytes (tested_bytes answer_buffer tt)

-- a 10 that writes all seven words from 0118 on
abbrev preset_frame : List ℕ
preset_frame = 0x01 ∷ 0x10 ∷ 0x01 ∷ 0x18 ∷ 0x00 ∷ 0x07 ∷ 0x0E ∷ 0x00 ∷ 0x09 ∷ 0x27 ∷ 0x0F ∷ 0x27 ∷ 0x0F ∷ 0xFF ∷ 0xFF ∷ 0xFF ∷ 0xFF ∷ 0xFF ∷ 0xFF ∷ 0xFF ∷ 0xFF ∷ 0x57 ∷ 0x59 ∷ []

pub presets_written : answer_to fresh_bank preset_frame ≡ handed 0 8 1 preset_bank ((0x01 ∷ 0x10 ∷ 0x01 ∷ 0x18 ∷ 0x00 ∷ 0x07 ∷ 0x00 ∷ 0x30 ∷ []) ++ drop 8 answer_buffer)
unfolding all_open answer_outcome frame_check ring_fits record_area acted_on judged_frame reply_to stores_of with_check run_stores stop_place stop_in bad_item some_bad stored passes value_of lies_in bytes_of first_case bank_sound good_by sound header_sound areas_sound items_sound settings_sound records_sound each some up_from same_places item_places covered_places places_follow areas_ascend lengths_sum areas items word_at with_word in_range sheet_of
presets_written = refl

-- each of its addresses lies in the area of access 2
abbrev preset_area : Area
preset_area = record { first = 0x0118; last = 0x011E; place = 20; access = 2 }

preset_lies : (k : ℕ) → k < 7 → lies_in (areas aswe_sheet) (0x0118 + k) ≡ found_at (20 + (0x0118 + k - 0x0118)) 2
preset_lies k less =
    lies_there (0x0118 + k) (subst (Among preset_area) (sym (areas_printed_lem aswe_40)) (there (there (there here)))) (sound_areas aswe_sheet aswe_sound).ascend
    (omega arith) (omega (arith, less))

-- so no read tells the two banks apart
pub presets_hidden : AgreeOutside (lent aswe_sheet fresh_bank) preset_bank
unfolding sheet_of bytes_of word_at
presets_hidden =
    hidden_write (lent aswe_sheet fresh_bank) preset_frame answer_buffer accepted_fresh
    (subst (Answers (lent aswe_sheet fresh_bank) preset_frame answer_buffer) presets_written
    (called fresh_bank preset_frame (tested_bytes fresh_bank tt) (tested_bytes preset_frame tt)))
    (inr refl) (λ k place access less lies. ap access_in (sym (plain_lies aswe_sheet aswe_sound lies) ∙ preset_lies k less)) refl refl

-- the settings in front of the presets are read alike, and a preset is not read from either
abbrev front_frame : List ℕ
front_frame = 0x01 ∷ 0x03 ∷ 0x01 ∷ 0x15 ∷ 0x00 ∷ 0x02 ∷ 0xD4 ∷ 0x33 ∷ []

abbrev preset_read : List ℕ
preset_read = 0x01 ∷ 0x03 ∷ 0x01 ∷ 0x18 ∷ 0x00 ∷ 0x01 ∷ 0x05 ∷ 0xF1 ∷ []

pub presets_unread : (answer_to fresh_bank front_frame ∷ answer_to preset_bank front_frame ∷ answer_to fresh_bank preset_read ∷ answer_to preset_bank preset_read ∷ [])
    ≡ handed 0 9 1 fresh_bank ((0x01 ∷ 0x03 ∷ 0x04 ∷ 0x00 ∷ 0x00 ∷ 0x00 ∷ 0x01 ∷ 0x3B ∷ 0xF3 ∷ []) ++ drop 9 answer_buffer)
    ∷ handed 0 9 1 preset_bank ((0x01 ∷ 0x03 ∷ 0x04 ∷ 0x00 ∷ 0x00 ∷ 0x00 ∷ 0x01 ∷ 0x3B ∷ 0xF3 ∷ []) ++ drop 9 answer_buffer)
    ∷ handed 0 5 1 fresh_bank ((0x01 ∷ 0x83 ∷ 0x02 ∷ 0xC0 ∷ 0xF1 ∷ []) ++ drop 5 answer_buffer)
    ∷ handed 0 5 1 preset_bank ((0x01 ∷ 0x83 ∷ 0x02 ∷ 0xC0 ∷ 0xF1 ∷ []) ++ drop 5 answer_buffer)
    ∷ []
unfolding all_open answer_outcome frame_check ring_fits record_area acted_on judged_frame reply_to stores_of with_check run_stores stop_place stop_in bad_item some_bad stored passes value_of lies_in bytes_of first_case bank_sound good_by sound header_sound areas_sound items_sound settings_sound records_sound each some up_from same_places item_places covered_places places_follow areas_ascend lengths_sum areas items word_at with_word in_range sheet_of
presets_unread = refl
