-- The reasons for reads, writes and clears at and about a record area, and the ring's refusal, as one table under one statement: the sheet and
-- the rings of the meter's own table, a frame, the reason and its address. What is expected is typed from 02. Assumes nothing.
use mathlib.Core.Path.{◌≡◌, refl}
use mathlib.Core.Bool.{Bool, true}
use mathlib.Core.List.{List, [], ◌∷◌}
use Prim.Native.Nat.{ℕ}
use lib.ListN.{take}
use Rattle.words.specs.Words.{word_at, with_word, bytes_of}
use Rattle.words.specs.Changes.{at, changed}
use Rattle.check_value.specs.Check.{value_of}
use Rattle.range.specs.Range.{in_range}
use Rattle.lists.specs.Cases.{first_case}
use Rattle.lists.specs.Lists.{each, some, up_from, same_places}
use Rattle.sheet_rules.specs.Rows.{areas, items, record_area}
use Rattle.sheet_rules.specs.Rules.{sound, header_sound, areas_sound, items_sound, settings_sound, records_sound, item_places, covered_places, places_follow, areas_ascend, lengths_sum}
use Rattle.sheet_rules.specs.Lookup.{lies_in, address_of}
use Rattle.sheet_rules.specs.Runs.{all_open}
use Rattle.bank_rules.specs.Bank.{bank_sound, good_by}
use Rattle.bank_rules.specs.Calls.{lent_with}
use Rattle.ring_rules.specs.Ring.{ring_sound}
use Rattle.ring_rules.specs.Calls.{ring_fits}
use Rattle.meter_rules.specs.Judgement.{lent_answer}
use Rattle.meter_rules.specs.Write.{bad_item, some_bad, stop_in, stop_place, stop_side}
use Rattle.meter_rules.proofs.FrameLimits.{small}
use Rattle.meter_rules.proofs.RecordLimits.{history, fresh_bank, preset_history, preset_history_bank, ring_of, full, part_full, empty}
use Rattle.why_rules.specs.Facts.{first_shut}
use Rattle.why_rules.specs.Reasons.{reason_of, explanation}
use Rattle.why_rules.proofs.ReasonCases.{tells_so}

pub record Row : Type 0 where
  pub sheet : List ℕ
  pub bank : List ℕ
  pub ring : List ℕ
  pub frame : List ℕ
  pub number : ℕ
  pub reason : ℕ
  pub address : ℕ
  pub side : ℕ

-- number 0: the sheet and the bank, the words of the ring, the frame, the reason, the address and the side
abbrev tells : List ℕ → List ℕ → List ℕ → List ℕ → ℕ → ℕ → ℕ → Row
tells sheet bank ring frame reason address side =
    record {
      sheet = sheet;
      bank = bank;
      ring = bytes_of ring;
      frame = frame;
      number = 0;
      reason = reason;
      address = address;
      side = side;
    }

-- at the sheet with the history; no side
abbrev says : List ℕ → List ℕ → ℕ → ℕ → Row
says ring frame reason address = tells (bytes_of history) (bytes_of fresh_bank) ring frame reason address 0

-- a refusal: zeros
abbrev refuses : ℕ → List ℕ → List ℕ → List ℕ → List ℕ → Row
refuses number sheet bank ring frame =
    record { sheet = sheet; bank = bank; ring = ring; frame = frame; number = number; reason = 0; address = 0; side = 0 }

unfoldable pub right : Row → Bool
unfolding tells_so
right row =
    tells_so (explanation (lent_with row.sheet row.bank row.ring) row.frame) row.number row.reason row.address row.side

pub table : List Row
table =
    -- record 1, the newest, at place 1
    says full (0x01 ∷ 0x03 ∷ 0x00 ∷ 0x04 ∷ 0x00 ∷ 0x01 ∷ 0xC5 ∷ 0xCB ∷ []) 0 0x0000
    -- record 2, at place 0
    ∷ says full (0x01 ∷ 0x03 ∷ 0x00 ∷ 0x05 ∷ 0x00 ∷ 0x01 ∷ 0x94 ∷ 0x0B ∷ []) 0 0x0000
    -- record 3, the oldest, round the end at place 2
    ∷ says full (0x01 ∷ 0x03 ∷ 0x00 ∷ 0x06 ∷ 0x00 ∷ 0x01 ∷ 0x64 ∷ 0x0B ∷ []) 0 0x0000
    -- a record, count 0
    ∷ says full (0x01 ∷ 0x03 ∷ 0x00 ∷ 0x04 ∷ 0x00 ∷ 0x00 ∷ 0x04 ∷ 0x0B ∷ []) 7 0x0000
    -- count 2
    ∷ says full (0x01 ∷ 0x03 ∷ 0x00 ∷ 0x04 ∷ 0x00 ∷ 0x02 ∷ 0x85 ∷ 0xCA ∷ []) 7 0x0000
    -- the last record, count 2
    ∷ says full (0x01 ∷ 0x03 ∷ 0x00 ∷ 0x06 ∷ 0x00 ∷ 0x02 ∷ 0x24 ∷ 0x0A ∷ []) 7 0x0000
    -- count 3, as many as there are
    ∷ says full (0x01 ∷ 0x03 ∷ 0x00 ∷ 0x04 ∷ 0x00 ∷ 0x03 ∷ 0x44 ∷ 0x0A ∷ []) 7 0x0000
    -- count 47
    ∷ says full (0x01 ∷ 0x03 ∷ 0x00 ∷ 0x04 ∷ 0x00 ∷ 0x2F ∷ 0x45 ∷ 0xD7 ∷ []) 7 0x0000
    -- count 48: error 03, not 02
    ∷ says full (0x01 ∷ 0x03 ∷ 0x00 ∷ 0x04 ∷ 0x00 ∷ 0x30 ∷ 0x04 ∷ 0x1F ∷ []) 7 0x0000
    -- count FFFF
    ∷ says full (0x01 ∷ 0x03 ∷ 0x00 ∷ 0x04 ∷ 0xFF ∷ 0xFF ∷ 0x05 ∷ 0xBB ∷ []) 7 0x0000
    -- the last record, count 48
    ∷ says full (0x01 ∷ 0x03 ∷ 0x00 ∷ 0x06 ∷ 0x00 ∷ 0x30 ∷ 0xA5 ∷ 0xDF ∷ []) 7 0x0000
    -- the register in front of the records
    ∷ says full (0x01 ∷ 0x03 ∷ 0x00 ∷ 0x03 ∷ 0x00 ∷ 0x01 ∷ 0x74 ∷ 0x0A ∷ []) 0 0x0000
    -- from the register in front into the records
    ∷ says full (0x01 ∷ 0x03 ∷ 0x00 ∷ 0x03 ∷ 0x00 ∷ 0x02 ∷ 0x34 ∷ 0x0B ∷ []) 8 0x0004
    -- from the first register into them
    ∷ says full (0x01 ∷ 0x03 ∷ 0x00 ∷ 0x00 ∷ 0x00 ∷ 0x05 ∷ 0x85 ∷ 0xC9 ∷ []) 8 0x0004
    -- over them and behind
    ∷ says full (0x01 ∷ 0x03 ∷ 0x00 ∷ 0x02 ∷ 0x00 ∷ 0x08 ∷ 0xE5 ∷ 0xCC ∷ []) 8 0x0004
    -- behind the last record
    ∷ says full (0x01 ∷ 0x03 ∷ 0x00 ∷ 0x07 ∷ 0x00 ∷ 0x01 ∷ 0x35 ∷ 0xCB ∷ []) 8 0x0007
    -- behind it, count 2
    ∷ says full (0x01 ∷ 0x03 ∷ 0x00 ∷ 0x07 ∷ 0x00 ∷ 0x02 ∷ 0x75 ∷ 0xCA ∷ []) 8 0x0007
    -- behind the last record, count 0
    ∷ says full (0x01 ∷ 0x03 ∷ 0x00 ∷ 0x07 ∷ 0x00 ∷ 0x00 ∷ 0xF4 ∷ 0x0B ∷ []) 7 0x0000
    -- behind the last record, count 48
    ∷ says full (0x01 ∷ 0x03 ∷ 0x00 ∷ 0x07 ∷ 0x00 ∷ 0x30 ∷ 0xF4 ∷ 0x1F ∷ []) 7 0x0000
    -- in front of the records, count 48
    ∷ says full (0x01 ∷ 0x03 ∷ 0x00 ∷ 0x03 ∷ 0x00 ∷ 0x30 ∷ 0xB5 ∷ 0xDE ∷ []) 7 0x0000
    -- past FFFF
    ∷ says full (0x01 ∷ 0x03 ∷ 0xFF ∷ 0xFF ∷ 0x00 ∷ 0x02 ∷ 0xC4 ∷ 0x2F ∷ []) 8 0x10000
    -- a write of one at a record
    ∷ says full (0x01 ∷ 0x06 ∷ 0x00 ∷ 0x04 ∷ 0x00 ∷ 0x01 ∷ 0x09 ∷ 0xCB ∷ []) 8 0x0004
    -- at the last record
    ∷ says full (0x01 ∷ 0x06 ∷ 0x00 ∷ 0x06 ∷ 0x00 ∷ 0x01 ∷ 0xA8 ∷ 0x0B ∷ []) 8 0x0006
    -- a write of several at a record
    ∷ says full (0x01 ∷ 0x10 ∷ 0x00 ∷ 0x04 ∷ 0x00 ∷ 0x01 ∷ 0x02 ∷ 0x00 ∷ 0x01 ∷ 0x66 ∷ 0x14 ∷ []) 8 0x0004
    -- from the registers into the records
    ∷ says full (0x01 ∷ 0x10 ∷ 0x00 ∷ 0x03 ∷ 0x00 ∷ 0x02 ∷ 0x04 ∷ 0x00 ∷ 0x01 ∷ 0x00 ∷ 0x01 ∷ 0x23 ∷ 0xBA ∷ []) 8 0x0003
    -- a clear at a record
    ∷ says full (0x01 ∷ 0x05 ∷ 0x00 ∷ 0x04 ∷ 0x00 ∷ 0x00 ∷ 0x8C ∷ 0x0B ∷ []) 8 0x0004
    -- a clear at a record, with a value
    ∷ says full (0x01 ∷ 0x05 ∷ 0x00 ∷ 0x04 ∷ 0x00 ∷ 0x01 ∷ 0x4D ∷ 0xCB ∷ []) 8 0x0004
    -- record 3 is beyond what is stored
    ∷ says part_full (0x01 ∷ 0x03 ∷ 0x00 ∷ 0x06 ∷ 0x00 ∷ 0x01 ∷ 0x64 ∷ 0x0B ∷ []) 8 0x0006
    -- beyond what is stored, count 2
    ∷ says part_full (0x01 ∷ 0x03 ∷ 0x00 ∷ 0x06 ∷ 0x00 ∷ 0x02 ∷ 0x24 ∷ 0x0A ∷ []) 7 0x0000
    -- beyond what is stored, count 48
    ∷ says part_full (0x01 ∷ 0x03 ∷ 0x00 ∷ 0x06 ∷ 0x00 ∷ 0x30 ∷ 0xA5 ∷ 0xDF ∷ []) 7 0x0000
    -- none is stored
    ∷ says empty (0x01 ∷ 0x03 ∷ 0x00 ∷ 0x04 ∷ 0x00 ∷ 0x01 ∷ 0xC5 ∷ 0xCB ∷ []) 8 0x0004
    -- none is stored, count 2
    ∷ says empty (0x01 ∷ 0x03 ∷ 0x00 ∷ 0x04 ∷ 0x00 ∷ 0x02 ∷ 0x85 ∷ 0xCA ∷ []) 7 0x0000
    -- as adding never makes it, record 2
    ∷ says (ring_of 2 1) (0x01 ∷ 0x03 ∷ 0x00 ∷ 0x05 ∷ 0x00 ∷ 0x01 ∷ 0x94 ∷ 0x0B ∷ []) 8 0x0005
    -- a ring of one byte less: refused, whatever the frame
    ∷ refuses 8 (bytes_of history) (bytes_of fresh_bank) (take 9 (bytes_of full)) (0x01 ∷ 0x03 ∷ 0x00 ∷ 0x04 ∷ 0x00 ∷ 0x01 ∷ 0xC5 ∷ 0xCB ∷ [])
    -- no ring, and an empty frame
    ∷ refuses 8 (bytes_of history) (bytes_of fresh_bank) [] []
    -- a place that is none
    ∷ refuses 8 (bytes_of history) (bytes_of fresh_bank) (bytes_of (ring_of 3 3)) (0x01 ∷ 0x03 ∷ 0x00 ∷ 0x04 ∷ 0x00 ∷ 0x01 ∷ 0xC5 ∷ 0xCB ∷ [])
    -- a number above the records
    ∷ refuses 8 (bytes_of history) (bytes_of fresh_bank) (bytes_of (ring_of 0 4)) (0x01 ∷ 0x03 ∷ 0x00 ∷ 0x04 ∷ 0x00 ∷ 0x01 ∷ 0xC5 ∷ 0xCB ∷ [])
    -- none stored, and the place is 1
    ∷ refuses 8 (bytes_of history) (bytes_of fresh_bank) (bytes_of (ring_of 1 0)) (0x01 ∷ 0x03 ∷ 0x00 ∷ 0x04 ∷ 0x00 ∷ 0x01 ∷ 0xC5 ∷ 0xCB ∷ [])
    -- a mark of 2 and a bad ring: the bank first
    ∷ refuses 4 (bytes_of history) (bytes_of (changed 0 fresh_bank (at 5 2 ∷ []))) [] (0x01 ∷ 0x03 ∷ 0x00 ∷ 0x04 ∷ 0x00 ∷ 0x01 ∷ 0xC5 ∷ 0xCB ∷ [])
    -- a short bank and a bad ring
    ∷ refuses 3 (bytes_of history) (take 11 (bytes_of fresh_bank)) [] (0x01 ∷ 0x03 ∷ 0x00 ∷ 0x04 ∷ 0x00 ∷ 0x01 ∷ 0xC5 ∷ 0xCB ∷ [])
    -- a sheet of version 3 and a bad ring
    ∷ refuses 2 (bytes_of (changed 0 history (at 0 3 ∷ []))) (bytes_of fresh_bank) [] (0x01 ∷ 0x03 ∷ 0x00 ∷ 0x04 ∷ 0x00 ∷ 0x01 ∷ 0xC5 ∷ 0xCB ∷ [])
    -- without a record area, and one byte of a ring
    ∷ refuses 8 (bytes_of small.sheet) (bytes_of small.bank) (0 ∷ []) (0x01 ∷ 0x03 ∷ 0x00 ∷ 0x04 ∷ 0x00 ∷ 0x01 ∷ 0xC5 ∷ 0xCB ∷ [])
    -- beside a preset, in version 2: record 1
    ∷ tells (bytes_of preset_history) (bytes_of preset_history_bank) full (0x01 ∷ 0x03 ∷ 0x00 ∷ 0x03 ∷ 0x00 ∷ 0x01 ∷ 0x74 ∷ 0x0A ∷ []) 0 0x0000 0
    -- record 3
    ∷ tells (bytes_of preset_history) (bytes_of preset_history_bank) full (0x01 ∷ 0x03 ∷ 0x00 ∷ 0x05 ∷ 0x00 ∷ 0x01 ∷ 0x94 ∷ 0x0B ∷ []) 0 0x0000 0
    -- a read of the preset
    ∷ tells (bytes_of preset_history) (bytes_of preset_history_bank) full (0x01 ∷ 0x03 ∷ 0x00 ∷ 0x02 ∷ 0x00 ∷ 0x01 ∷ 0x25 ∷ 0xCA ∷ []) 8 0x0002 0
    -- and on into the records
    ∷ tells (bytes_of preset_history) (bytes_of preset_history_bank) full (0x01 ∷ 0x03 ∷ 0x00 ∷ 0x02 ∷ 0x00 ∷ 0x02 ∷ 0x65 ∷ 0xCB ∷ []) 8 0x0002 0
    -- a write from the preset on into the records
    ∷ tells (bytes_of preset_history) (bytes_of preset_history_bank) full (0x01 ∷ 0x10 ∷ 0x00 ∷ 0x02 ∷ 0x00 ∷ 0x02 ∷ 0x04 ∷ 0x00 ∷ 0x09 ∷ 0x00 ∷ 0x09 ∷ 0x62 ∷ 0x72 ∷ []) 8 0x0003 0
    -- a write to a record
    ∷ tells (bytes_of preset_history) (bytes_of preset_history_bank) full (0x01 ∷ 0x06 ∷ 0x00 ∷ 0x03 ∷ 0x00 ∷ 0x00 ∷ 0x79 ∷ 0xCA ∷ []) 8 0x0003 0
    -- a preset that is too high
    ∷ tells (bytes_of preset_history) (bytes_of preset_history_bank) full (0x01 ∷ 0x06 ∷ 0x00 ∷ 0x02 ∷ 0x00 ∷ 0x0A ∷ 0xA8 ∷ 0x0D ∷ []) 10 0x0002 2
    -- the same sheet in version 1
    ∷ refuses 2 (bytes_of (changed 0 preset_history (at 0 1 ∷ []))) (bytes_of preset_history_bank) (bytes_of full) (0x01 ∷ 0x03 ∷ 0x00 ∷ 0x03 ∷ 0x00 ∷ 0x01 ∷ 0x74 ∷ 0x0A ∷ [])
    ∷ []

-- every row is right
pub record_reasons : each right table ≡ true
unfolding table right changed bytes_of explanation lent_answer ring_fits ring_sound record_area reason_of first_case first_shut all_open address_of stop_place stop_side stop_in bad_item some_bad good_by bank_sound value_of sound header_sound areas_sound items_sound settings_sound records_sound each some up_from same_places item_places covered_places places_follow areas_ascend lengths_sum areas items lies_in word_at with_word in_range
record_reasons = refl
