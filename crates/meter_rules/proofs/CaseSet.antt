-- Case set P, rules P0 to P12, as one table under one statement. Frames and replies are typed from document 01, with their checks behind
-- them; the words that change are typed from it at their addresses. Assumes nothing.
use mathlib.Core.Path.{◌≡◌, refl}
use mathlib.Core.Bool.{Bool, true, ◌&&◌}
use mathlib.Core.List.{List, [], ◌∷◌, ◌++◌}
use Prim.Native.Nat.{ℕ}
use lib.Dec.{eqb}
use lib.ListN.{length, drop, replicate}
use Rattle.words.specs.Words.{word_at, with_word, bytes_of}
use Rattle.words.specs.Changes.{Change, at, changed}
use Rattle.check_value.specs.Check.{value_of}
use Rattle.check_value.specs.Frame.{passes}
use Rattle.range.specs.Range.{in_range}
use Rattle.sheet_rules.specs.Rows.{areas, items, record_area}
use Rattle.ring_rules.specs.Calls.{ring_fits}
use Rattle.sheet_rules.specs.Rules.{sound, header_sound, areas_sound, items_sound, settings_sound, records_sound, item_places, covered_places, places_follow, areas_ascend, lengths_sum}
use Rattle.lists.specs.Lists.{each, some, up_from, same_places}
use Rattle.sheet_rules.specs.Lookup.{lies_in}
use Rattle.makers.specs.Maps.{ux, aswe40}
use Rattle.makers.specs.Sheets.{sheet_of}
use Rattle.bank_rules.specs.Stores.{stored}
use Rattle.bank_rules.specs.Bank.{bank_sound, good_by, low_stores, fresh_stores}
use Rattle.bank_rules.specs.Calls.{bank_outcome, fresh_answer, fresh_outcome, lent}
use Rattle.lists.specs.Cases.{first_case}
use Rattle.sheet_rules.specs.Runs.{all_open}
use Rattle.meter_rules.specs.Write.{bad_item, some_bad, stop_in, stop_place, run_stores}
use Rattle.meter_rules.specs.Steps.{judged_frame}
use Rattle.meter_rules.specs.Reply.{reply_to, stores_of}
use Rattle.frame.specs.Reply.{with_check}
use Rattle.meter_rules.specs.Answer.{Outcome, answered_number, length_in, rate_in, frame_check, acted_on, answer_outcome}
use Rattle.refusals.specs.Answers.{call_done}

-- ---- the two meters of the table

-- a meter: its sheet, its first address, and the words of its fresh bank from there on, the mark last
pub record Meter : Type 0 where
  pub sheet : List ℕ
  pub origin : ℕ
  pub fresh : List ℕ

abbrev pub ux_meter : Meter
ux_meter =
    record {
      sheet = sheet_of ux;
      origin = 0x0100;
      fresh = 0xFFF6 ∷ 0 ∷ 0 ∷ 0 ∷ 0 ∷ 0 ∷ 0 ∷ 0 ∷ 0 ∷ 0x0001 ∷ 0 ∷ 0 ∷ 0 ∷ 0x0001 ∷ 0x0001 ∷ 0 ∷ 0 ∷ 0 ∷ 0 ∷ 0 ∷ 0 ∷ 0 ∷ 0 ∷ 0 ∷ 0 ∷ 0 ∷ 0 ∷ 0 ∷ 0 ∷ 0 ∷ 0 ∷ 0 ∷ 0 ∷ 0 ∷ 0 ∷ [];
    }

abbrev pub aswe_meter : Meter
aswe_meter =
    record {
      sheet = sheet_of aswe40;
      origin = 0x00FF;
      fresh = 0 ∷ 0 ∷ 0 ∷ 0 ∷ 0 ∷ 0 ∷ 0x0001 ∷ 0x0320 ∷ 0x0001 ∷ 0x0001 ∷ 0 ∷ 0x01F4 ∷ 0 ∷ 0x0001 ∷ 0x0001 ∷ 0 ∷ 0 ∷ 0x0001 ∷ 0 ∷ 0x0001 ∷ 0 ∷ 0 ∷ 0 ∷ 0 ∷ 0 ∷ 0 ∷ 0 ∷ 0xFF9C ∷ 0 ∷ 0 ∷ 0 ∷ 0 ∷ 0 ∷ 0 ∷ 0 ∷ 0 ∷ 0 ∷ 0 ∷ 0 ∷ 0 ∷ 0 ∷ 0 ∷ 0 ∷ 0 ∷ 0 ∷ 0 ∷ [];
    }

-- the fresh words are what the call for a fresh bank makes of that many bytes, here of FF
pub ux_fresh_made : fresh_outcome (lent ux_meter.sheet (replicate 70 0xFF)) ≡ bank_outcome call_done (bytes_of ux_meter.fresh)
unfolding bytes_of fresh_outcome fresh_answer fresh_stores low_stores stored first_case sound header_sound areas_sound items_sound settings_sound records_sound each some up_from same_places item_places covered_places places_follow areas_ascend lengths_sum areas items word_at with_word in_range sheet_of
ux_fresh_made = refl

pub aswe_fresh_made : fresh_outcome (lent aswe_meter.sheet (replicate 92 0xFF)) ≡ bank_outcome call_done (bytes_of aswe_meter.fresh)
unfolding bytes_of fresh_outcome fresh_answer fresh_stores low_stores stored first_case sound header_sound areas_sound items_sound settings_sound records_sound each some up_from same_places item_places covered_places places_follow areas_ascend lengths_sum areas items word_at with_word in_range sheet_of
aswe_fresh_made = refl

-- ---- the rows

-- a frame to a meter: the words of its bank that are not fresh, the frame, the reply, and the words that the frame changes; or the check
-- value of some bytes
pub data Row : Type 0 where
  asked : Meter → List Change → List ℕ → List ℕ → List Change → Row
  valued : List ℕ → ℕ → Row

-- the answer buffer, of 101 bytes that no reply has in a row
abbrev buffer : List ℕ
buffer = replicate 101 0xA5

-- an outcome is a reply, at the rate before the frame, with the bank as it should be
abbrev pub is_reply : Outcome → List ℕ → List ℕ → Bool
is_reply outcome reply bank =
    eqb (answered_number outcome.answered) 0 && eqb (length_in outcome.answered) (length reply) && eqb (rate_in outcome.answered) 1
    && same_places outcome.buffer (reply ++ drop (length reply) buffer) && same_places outcome.bank bank

unfoldable pub right : Row → Bool
right (asked meter before frame reply after) =
    is_reply
    (answer_outcome (lent meter.sheet (bytes_of (changed meter.origin meter.fresh before))) frame buffer)
    reply
    (bytes_of (changed meter.origin (changed meter.origin meter.fresh before) after))
right (valued bytes value) = eqb (value_of bytes) value

pub table : List Row
table =
    -- P1
    asked ux_meter (at 0x0101 0x0001 ∷ at 0x0102 0x0000 ∷ []) (0x01 ∷ 0x03 ∷ 0x01 ∷ 0x01 ∷ 0x00 ∷ 0x02 ∷ 0x94 ∷ 0x37 ∷ []) (0x01 ∷ 0x03 ∷ 0x04 ∷ 0x00 ∷ 0x01 ∷ 0x00 ∷ 0x00 ∷ 0xAB ∷ 0xF3 ∷ []) []
    -- P2
    ∷ asked ux_meter [] (0x01 ∷ 0x10 ∷ 0x01 ∷ 0x0F ∷ 0x00 ∷ 0x02 ∷ 0x04 ∷ 0x00 ∷ 0x01 ∷ 0x13 ∷ 0x88 ∷ 0xE2 ∷ 0xE9 ∷ []) (0x01 ∷ 0x10 ∷ 0x01 ∷ 0x0F ∷ 0x00 ∷ 0x02 ∷ 0x70 ∷ 0x37 ∷ []) (at 0x010F 0x0001 ∷ at 0x0110 0x1388 ∷ [])
    -- P3
    ∷ asked ux_meter [] (0x01 ∷ 0x06 ∷ 0x01 ∷ 0x0E ∷ 0x00 ∷ 0x02 ∷ 0x68 ∷ 0x34 ∷ []) (0x01 ∷ 0x06 ∷ 0x01 ∷ 0x0E ∷ 0x00 ∷ 0x02 ∷ 0x68 ∷ 0x34 ∷ []) (at 0x010E 0x0002 ∷ [])
    -- P4
    ∷ asked ux_meter (at 0x0103 0x0000 ∷ at 0x0104 0x9876 ∷ []) (0x01 ∷ 0x06 ∷ 0x01 ∷ 0x03 ∷ 0x00 ∷ 0x01 ∷ 0xB9 ∷ 0xF6 ∷ []) (0x01 ∷ 0x86 ∷ 0x03 ∷ 0x02 ∷ 0x61 ∷ []) []
    -- P5, in range
    ∷ asked ux_meter (at 0x0103 0x0000 ∷ at 0x0104 0x9876 ∷ []) (0x01 ∷ 0x10 ∷ 0x01 ∷ 0x03 ∷ 0x00 ∷ 0x02 ∷ 0x04 ∷ 0x00 ∷ 0x01 ∷ 0x86 ∷ 0x9F ∷ 0xCD ∷ 0xE2 ∷ []) (0x01 ∷ 0x10 ∷ 0x01 ∷ 0x03 ∷ 0x00 ∷ 0x02 ∷ 0xB0 ∷ 0x34 ∷ []) (at 0x0103 0x0001 ∷ at 0x0104 0x869F ∷ [])
    -- P5, above
    ∷ asked ux_meter (at 0x0103 0x0000 ∷ at 0x0104 0x9876 ∷ []) (0x01 ∷ 0x10 ∷ 0x01 ∷ 0x03 ∷ 0x00 ∷ 0x02 ∷ 0x04 ∷ 0x00 ∷ 0x01 ∷ 0x86 ∷ 0xA0 ∷ 0x8D ∷ 0xF2 ∷ []) (0x01 ∷ 0x90 ∷ 0x03 ∷ 0x0C ∷ 0x01 ∷ []) []
    -- P6
    ∷ asked ux_meter [] (0x01 ∷ 0x10 ∷ 0x01 ∷ 0x01 ∷ 0x00 ∷ 0x03 ∷ 0x06 ∷ 0x00 ∷ 0x04 ∷ 0x00 ∷ 0x02 ∷ 0x00 ∷ 0x00 ∷ 0xE3 ∷ 0xB9 ∷ []) (0x01 ∷ 0x90 ∷ 0x03 ∷ 0x0C ∷ 0x01 ∷ []) (at 0x0101 0x0004 ∷ [])
    -- P7
    ∷ asked ux_meter [] (0x01 ∷ 0x10 ∷ 0x01 ∷ 0x0E ∷ 0x00 ∷ 0x02 ∷ 0x04 ∷ 0x00 ∷ 0x02 ∷ 0x00 ∷ 0x02 ∷ 0x5F ∷ 0xB2 ∷ []) (0x01 ∷ 0x90 ∷ 0x03 ∷ 0x0C ∷ 0x01 ∷ []) (at 0x010E 0x0002 ∷ [])
    -- P8, lowest
    ∷ asked ux_meter [] (0x01 ∷ 0x06 ∷ 0x01 ∷ 0x00 ∷ 0xFF ∷ 0xF6 ∷ 0x49 ∷ 0x80 ∷ []) (0x01 ∷ 0x06 ∷ 0x01 ∷ 0x00 ∷ 0xFF ∷ 0xF6 ∷ 0x49 ∷ 0x80 ∷ []) (at 0x0100 0xFFF6 ∷ [])
    -- P8, highest
    ∷ asked ux_meter [] (0x01 ∷ 0x06 ∷ 0x01 ∷ 0x00 ∷ 0x00 ∷ 0x3C ∷ 0x88 ∷ 0x27 ∷ []) (0x01 ∷ 0x06 ∷ 0x01 ∷ 0x00 ∷ 0x00 ∷ 0x3C ∷ 0x88 ∷ 0x27 ∷ []) (at 0x0100 0x003C ∷ [])
    -- P8, below
    ∷ asked ux_meter [] (0x01 ∷ 0x06 ∷ 0x01 ∷ 0x00 ∷ 0xFF ∷ 0xF5 ∷ 0x09 ∷ 0x81 ∷ []) (0x01 ∷ 0x86 ∷ 0x03 ∷ 0x02 ∷ 0x61 ∷ []) []
    -- P8, above
    ∷ asked ux_meter [] (0x01 ∷ 0x06 ∷ 0x01 ∷ 0x00 ∷ 0x00 ∷ 0x3D ∷ 0x49 ∷ 0xE7 ∷ []) (0x01 ∷ 0x86 ∷ 0x03 ∷ 0x02 ∷ 0x61 ∷ []) []
    -- P9, 23
    ∷ asked ux_meter [] (0x01 ∷ 0x03 ∷ 0x01 ∷ 0x00 ∷ 0x00 ∷ 0x17 ∷ 0x04 ∷ 0x38 ∷ []) (0x01 ∷ 0x03 ∷ 0x2E ∷ 0xFF ∷ 0xF6 ∷ 0x00 ∷ 0x00 ∷ 0x00 ∷ 0x00 ∷ 0x00 ∷ 0x00 ∷ 0x00 ∷ 0x00 ∷ 0x00 ∷ 0x00 ∷ 0x00 ∷ 0x00 ∷ 0x00 ∷ 0x00 ∷ 0x00 ∷ 0x00 ∷ 0x00 ∷ 0x01 ∷ 0x00 ∷ 0x00 ∷ 0x00 ∷ 0x00 ∷ 0x00 ∷ 0x00 ∷ 0x00 ∷ 0x01 ∷ 0x00 ∷ 0x01 ∷ 0x00 ∷ 0x00 ∷ 0x00 ∷ 0x00 ∷ 0x00 ∷ 0x00 ∷ 0x00 ∷ 0x00 ∷ 0x00 ∷ 0x00 ∷ 0x00 ∷ 0x00 ∷ 0x00 ∷ 0x00 ∷ 0x00 ∷ 0x00 ∷ 0x79 ∷ 0x8C ∷ []) []
    -- P9, 24
    ∷ asked ux_meter [] (0x01 ∷ 0x03 ∷ 0x01 ∷ 0x00 ∷ 0x00 ∷ 0x18 ∷ 0x44 ∷ 0x3C ∷ []) (0x01 ∷ 0x83 ∷ 0x02 ∷ 0xC0 ∷ 0xF1 ∷ []) []
    -- P9, 0
    ∷ asked ux_meter [] (0x01 ∷ 0x03 ∷ 0x01 ∷ 0x00 ∷ 0x00 ∷ 0x00 ∷ 0x44 ∷ 0x36 ∷ []) (0x01 ∷ 0x83 ∷ 0x03 ∷ 0x01 ∷ 0x31 ∷ []) []
    -- P10, clear
    ∷ asked ux_meter [] (0x01 ∷ 0x05 ∷ 0x03 ∷ 0x00 ∷ 0x00 ∷ 0x00 ∷ 0xCD ∷ 0x8E ∷ []) (0x01 ∷ 0x05 ∷ 0x03 ∷ 0x00 ∷ 0x00 ∷ 0x00 ∷ 0xCD ∷ 0x8E ∷ []) []
    -- P10, value
    ∷ asked ux_meter [] (0x01 ∷ 0x05 ∷ 0x03 ∷ 0x00 ∷ 0x00 ∷ 0x01 ∷ 0x0C ∷ 0x4E ∷ []) (0x01 ∷ 0x85 ∷ 0x03 ∷ 0x02 ∷ 0x91 ∷ []) []
    -- P10, address
    ∷ asked ux_meter [] (0x01 ∷ 0x05 ∷ 0x03 ∷ 0x01 ∷ 0x00 ∷ 0x01 ∷ 0x5D ∷ 0x8E ∷ []) (0x01 ∷ 0x85 ∷ 0x02 ∷ 0xC3 ∷ 0x51 ∷ []) []
    -- P10, AS-WE
    ∷ asked aswe_meter [] (0x01 ∷ 0x05 ∷ 0x03 ∷ 0x00 ∷ 0x00 ∷ 0x00 ∷ 0xCD ∷ 0x8E ∷ []) (0x01 ∷ 0x85 ∷ 0x01 ∷ 0x83 ∷ 0x50 ∷ []) []
    -- P11, stored
    ∷ asked aswe_meter [] (0x01 ∷ 0x06 ∷ 0x01 ∷ 0x09 ∷ 0x00 ∷ 0x10 ∷ 0x59 ∷ 0xF8 ∷ []) (0x01 ∷ 0x06 ∷ 0x01 ∷ 0x09 ∷ 0x00 ∷ 0x10 ∷ 0x59 ∷ 0xF8 ∷ []) (at 0x0109 0x0010 ∷ [])
    -- P11, above
    ∷ asked aswe_meter [] (0x01 ∷ 0x06 ∷ 0x01 ∷ 0x09 ∷ 0x00 ∷ 0x11 ∷ 0x98 ∷ 0x38 ∷ []) (0x01 ∷ 0x86 ∷ 0x03 ∷ 0x02 ∷ 0x61 ∷ []) []
    -- P12, the nine characters 123456789
    ∷ valued (0x31 ∷ 0x32 ∷ 0x33 ∷ 0x34 ∷ 0x35 ∷ 0x36 ∷ 0x37 ∷ 0x38 ∷ 0x39 ∷ []) 0x4B37
    ∷ []

-- every row is right
pub case_set_P : each right table ≡ true
unfolding all_open table right changed bytes_of answer_outcome frame_check ring_fits record_area acted_on judged_frame first_case reply_to stores_of with_check run_stores stop_place stop_in bad_item some_bad good_by bank_sound stored passes value_of sound header_sound areas_sound items_sound settings_sound records_sound each some up_from same_places item_places covered_places places_follow areas_ascend lengths_sum areas items lies_in word_at with_word in_range sheet_of
case_set_P = refl
