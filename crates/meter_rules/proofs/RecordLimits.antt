-- Both sides of every limit of a read in the record area, and of the ring's refusal, as one table under one statement: a sheet with a record
-- area, a ring, a frame, and what is handed back and written. What is expected is typed from 02 and 01, frames and replies with their checks behind
-- them. Assumes nothing.
use mathlib.Core.Path.{◌≡◌, refl}
use mathlib.Core.Bool.{Bool, true, ◌&&◌}
use mathlib.Core.List.{List, [], ◌∷◌, ◌++◌}
use Prim.Native.Nat.{ℕ, ◌*◌}
use lib.Dec.{eqb}
use lib.ListN.{length, take, drop, replicate}
use Rattle.words.specs.Words.{word_at, with_word, bytes_of}
use Rattle.words.specs.Changes.{at, changed}
use Rattle.check_value.specs.Check.{value_of}
use Rattle.check_value.specs.Frame.{passes}
use Rattle.range.specs.Range.{in_range}
use Rattle.sheet_rules.specs.Rows.{areas, items, record_area}
use Rattle.ring_rules.specs.Ring.{ring_sound}
use Rattle.ring_rules.specs.Calls.{ring_fits}
use Rattle.sheet_rules.specs.Rules.{sound, header_sound, areas_sound, items_sound, settings_sound, records_sound, item_places, covered_places, places_follow, areas_ascend, lengths_sum}
use Rattle.lists.specs.Lists.{each, some, up_from, same_places}
use Rattle.sheet_rules.specs.Lookup.{lies_in}
use Rattle.bank_rules.specs.Stores.{stored}
use Rattle.bank_rules.specs.Bank.{bank_sound, good_by}
use Rattle.lists.specs.Cases.{first_case}
use Rattle.sheet_rules.specs.Runs.{all_open}
use Rattle.meter_rules.specs.Write.{bad_item, some_bad, stop_in, stop_place, run_stores}
use Rattle.meter_rules.specs.Steps.{judged_frame}
use Rattle.frame.specs.Reply.{with_check}
use Rattle.meter_rules.specs.Reply.{reply_to, stores_of}
use Rattle.bank_rules.specs.Calls.{lent_with}
use Rattle.meter_rules.specs.Answer.{Outcome, answered_number, length_in, rate_in, frame_check, acted_on, answer_outcome}
use Rattle.meter_rules.proofs.FrameLimits.{small, buffer}

-- ---- the sheet of the table

-- 0000 is the address and 0001 the rate, 0002 and 0003 have access 1, and so has FFFF; all functions are allowed, the clear address is 0300. With a record
-- area: its first address, how many records and how many words of each
abbrev pub recorded : ℕ → ℕ → ℕ → List ℕ
recorded first records words =
    0x0001 ∷ 3 ∷ 12 ∷ 2 ∷ 24 ∷ 5 ∷ 15 ∷ 39 ∷ 0 ∷ 1 ∷ 0x0300 ∷ 0x0001
    ∷ 0x0000 ∷ 0x0001 ∷ 0 ∷ 3
    ∷ 0x0002 ∷ 0x0003 ∷ 2 ∷ 1
    ∷ 0xFFFF ∷ 0xFFFF ∷ 4 ∷ 1
    ∷ 0 ∷ 0 ∷ 0x0000 ∷ 0x0001 ∷ 0x0000 ∷ 0x00F7
    ∷ 0 ∷ 1 ∷ 0x0000 ∷ 0x0000 ∷ 0x0000 ∷ 0x0001
    ∷ first ∷ records ∷ words ∷ []

-- three records of one word, 0004 to 0006, right behind the registers
abbrev pub history : List ℕ
history = recorded 0x0004 3 1

abbrev pub fresh_bank : List ℕ
fresh_bank = 0x0001 ∷ 0x0001 ∷ 0x0A01 ∷ 0x0A02 ∷ 0x0A03 ∷ 0x0000 ∷ []

-- records from 0000 on, in front of the address at 0003 and the rate at 0004; 05 is not allowed
abbrev early : List ℕ
early =
    0x0001 ∷ 1 ∷ 12 ∷ 2 ∷ 16 ∷ 2 ∷ 13 ∷ 31 ∷ 0 ∷ 1 ∷ 0x0000 ∷ 0x0001
    ∷ 0x0003 ∷ 0x0004 ∷ 0 ∷ 3
    ∷ 0 ∷ 0 ∷ 0x0000 ∷ 0x0001 ∷ 0x0000 ∷ 0x00F7
    ∷ 0 ∷ 1 ∷ 0x0000 ∷ 0x0000 ∷ 0x0000 ∷ 0x0001
    ∷ 0x0000 ∷ 3 ∷ 1 ∷ []

abbrev early_bank : List ℕ
early_bank = 0x0001 ∷ 0x0001 ∷ 0x0000 ∷ []

-- 0000 is the address and 0001 the rate, of access 3; 0002 is a word of 0 to 9, of access 2; 0003 to 0005 are three records of one word
abbrev pub preset_history : List ℕ
preset_history =
    0x0002 ∷ 2 ∷ 12 ∷ 3 ∷ 20 ∷ 3 ∷ 13 ∷ 41 ∷ 0 ∷ 1 ∷ 0x0000 ∷ 0x0001
    ∷ 0x0000 ∷ 0x0001 ∷ 0 ∷ 3
    ∷ 0x0002 ∷ 0x0002 ∷ 2 ∷ 2
    ∷ 0 ∷ 0 ∷ 0x0000 ∷ 0x0001 ∷ 0x0000 ∷ 0x00F7
    ∷ 0 ∷ 1 ∷ 0x0000 ∷ 0x0000 ∷ 0x0000 ∷ 0x0001
    ∷ 0 ∷ 2 ∷ 0x0000 ∷ 0x0000 ∷ 0x0000 ∷ 0x0009
    ∷ 0x0003 ∷ 3 ∷ 1 ∷ []

abbrev pub preset_history_bank : List ℕ
preset_history_bank = 0x0001 ∷ 0x0001 ∷ 0x0007 ∷ 0x0000 ∷ []

-- the words of a ring of three records of one word: the newest's place, how many are stored, and at the places 0, 1 and 2 the records 1111, 2222, 3333
abbrev pub ring_of : ℕ → ℕ → List ℕ
ring_of place count = place ∷ count ∷ 0x1111 ∷ 0x2222 ∷ 0x3333 ∷ []

abbrev pub full : List ℕ
full = ring_of 1 3

abbrev pub part_full : List ℕ
part_full = ring_of 1 2

abbrev pub empty : List ℕ
empty = ring_of 0 0

-- a full ring of 6600 records of 22 words, the newest at place 0
abbrev history_ring : List ℕ
history_ring = bytes_of (0 ∷ 6600 ∷ up_from 0x0C01 22) ++ replicate (44 * 6599) 0

-- ---- the rows

-- what is lent, with an answer buffer of so many bytes; what is handed back, and the reply in the first bytes of the buffer. No row changes the bank.
pub record Row : Type 0 where
  pub sheet : List ℕ
  pub bank : List ℕ
  pub ring : List ℕ
  pub frame : List ℕ
  pub room : ℕ
  pub number : ℕ
  pub length : ℕ
  pub rate : ℕ
  pub reply : List ℕ

-- number 0, a reply at rate 1: the sheet, the bank, the ring, the frame, the length and the reply
abbrev answered : List ℕ → List ℕ → List ℕ → List ℕ → ℕ → List ℕ → Row
answered sheet bank ring frame length reply =
    record { sheet = sheet; bank = bank; ring = ring; frame = frame; room = 101; number = 0; length = length; rate = 1; reply = reply }

abbrev replies : List ℕ → List ℕ → ℕ → List ℕ → Row
replies ring frame length reply = answered (bytes_of history) (bytes_of fresh_bank) (bytes_of ring) frame length reply

-- silence and refusals: length and rate 0, nothing written
abbrev refused : ℕ → List ℕ → List ℕ → List ℕ → ℕ → List ℕ → Row
refused number sheet bank ring room frame =
    record { sheet = sheet; bank = bank; ring = ring; frame = frame; room = room; number = number; length = 0; rate = 0; reply = [] }

-- an outcome is what a row says; beyond the reply the buffer is as before, and so is the bank
abbrev is_outcome : Outcome → Row → Bool
is_outcome outcome row =
    eqb (answered_number outcome.answered) row.number && eqb (length_in outcome.answered) row.length
    && eqb (rate_in outcome.answered) row.rate
    && same_places outcome.buffer (row.reply ++ drop (length row.reply) (buffer row.room))
    && same_places outcome.bank row.bank

unfoldable pub right : Row → Bool
right row = is_outcome (answer_outcome (lent_with row.sheet row.bank row.ring) row.frame (buffer row.room)) row

pub table : List Row
table =
    -- record 1, the newest, at place 1
    replies full (0x01 ∷ 0x03 ∷ 0x00 ∷ 0x04 ∷ 0x00 ∷ 0x01 ∷ 0xC5 ∷ 0xCB ∷ []) 7 (0x01 ∷ 0x03 ∷ 0x02 ∷ 0x22 ∷ 0x22 ∷ 0x20 ∷ 0xFD ∷ [])
    -- record 2, at place 0
    ∷ replies full (0x01 ∷ 0x03 ∷ 0x00 ∷ 0x05 ∷ 0x00 ∷ 0x01 ∷ 0x94 ∷ 0x0B ∷ []) 7 (0x01 ∷ 0x03 ∷ 0x02 ∷ 0x11 ∷ 0x11 ∷ 0x74 ∷ 0x18 ∷ [])
    -- record 3, the oldest, round the end at place 2
    ∷ replies full (0x01 ∷ 0x03 ∷ 0x00 ∷ 0x06 ∷ 0x00 ∷ 0x01 ∷ 0x64 ∷ 0x0B ∷ []) 7 (0x01 ∷ 0x03 ∷ 0x02 ∷ 0x33 ∷ 0x33 ∷ 0xEC ∷ 0xA1 ∷ [])
    -- a record, count 0
    ∷ replies full (0x01 ∷ 0x03 ∷ 0x00 ∷ 0x04 ∷ 0x00 ∷ 0x00 ∷ 0x04 ∷ 0x0B ∷ []) 5 (0x01 ∷ 0x83 ∷ 0x03 ∷ 0x01 ∷ 0x31 ∷ [])
    -- count 2
    ∷ replies full (0x01 ∷ 0x03 ∷ 0x00 ∷ 0x04 ∷ 0x00 ∷ 0x02 ∷ 0x85 ∷ 0xCA ∷ []) 5 (0x01 ∷ 0x83 ∷ 0x03 ∷ 0x01 ∷ 0x31 ∷ [])
    -- the last record, count 2
    ∷ replies full (0x01 ∷ 0x03 ∷ 0x00 ∷ 0x06 ∷ 0x00 ∷ 0x02 ∷ 0x24 ∷ 0x0A ∷ []) 5 (0x01 ∷ 0x83 ∷ 0x03 ∷ 0x01 ∷ 0x31 ∷ [])
    -- count 3, as many as there are
    ∷ replies full (0x01 ∷ 0x03 ∷ 0x00 ∷ 0x04 ∷ 0x00 ∷ 0x03 ∷ 0x44 ∷ 0x0A ∷ []) 5 (0x01 ∷ 0x83 ∷ 0x03 ∷ 0x01 ∷ 0x31 ∷ [])
    -- count 47
    ∷ replies full (0x01 ∷ 0x03 ∷ 0x00 ∷ 0x04 ∷ 0x00 ∷ 0x2F ∷ 0x45 ∷ 0xD7 ∷ []) 5 (0x01 ∷ 0x83 ∷ 0x03 ∷ 0x01 ∷ 0x31 ∷ [])
    -- count 48: error 03, not 02
    ∷ replies full (0x01 ∷ 0x03 ∷ 0x00 ∷ 0x04 ∷ 0x00 ∷ 0x30 ∷ 0x04 ∷ 0x1F ∷ []) 5 (0x01 ∷ 0x83 ∷ 0x03 ∷ 0x01 ∷ 0x31 ∷ [])
    -- count FFFF
    ∷ replies full (0x01 ∷ 0x03 ∷ 0x00 ∷ 0x04 ∷ 0xFF ∷ 0xFF ∷ 0x05 ∷ 0xBB ∷ []) 5 (0x01 ∷ 0x83 ∷ 0x03 ∷ 0x01 ∷ 0x31 ∷ [])
    -- the last record, count 48
    ∷ replies full (0x01 ∷ 0x03 ∷ 0x00 ∷ 0x06 ∷ 0x00 ∷ 0x30 ∷ 0xA5 ∷ 0xDF ∷ []) 5 (0x01 ∷ 0x83 ∷ 0x03 ∷ 0x01 ∷ 0x31 ∷ [])
    -- the register in front of the records
    ∷ replies full (0x01 ∷ 0x03 ∷ 0x00 ∷ 0x03 ∷ 0x00 ∷ 0x01 ∷ 0x74 ∷ 0x0A ∷ []) 7 (0x01 ∷ 0x03 ∷ 0x02 ∷ 0x0A ∷ 0x02 ∷ 0x3F ∷ 0x25 ∷ [])
    -- the registers up to the records
    ∷ replies full (0x01 ∷ 0x03 ∷ 0x00 ∷ 0x00 ∷ 0x00 ∷ 0x04 ∷ 0x44 ∷ 0x09 ∷ []) 13 (0x01 ∷ 0x03 ∷ 0x08 ∷ 0x00 ∷ 0x01 ∷ 0x00 ∷ 0x01 ∷ 0x0A ∷ 0x01 ∷ 0x0A ∷ 0x02 ∷ 0x6D ∷ 0xAE ∷ [])
    -- from the register in front into the records
    ∷ replies full (0x01 ∷ 0x03 ∷ 0x00 ∷ 0x03 ∷ 0x00 ∷ 0x02 ∷ 0x34 ∷ 0x0B ∷ []) 5 (0x01 ∷ 0x83 ∷ 0x02 ∷ 0xC0 ∷ 0xF1 ∷ [])
    -- from the first register into them
    ∷ replies full (0x01 ∷ 0x03 ∷ 0x00 ∷ 0x00 ∷ 0x00 ∷ 0x05 ∷ 0x85 ∷ 0xC9 ∷ []) 5 (0x01 ∷ 0x83 ∷ 0x02 ∷ 0xC0 ∷ 0xF1 ∷ [])
    -- over them and behind
    ∷ replies full (0x01 ∷ 0x03 ∷ 0x00 ∷ 0x02 ∷ 0x00 ∷ 0x08 ∷ 0xE5 ∷ 0xCC ∷ []) 5 (0x01 ∷ 0x83 ∷ 0x02 ∷ 0xC0 ∷ 0xF1 ∷ [])
    -- behind the last record
    ∷ replies full (0x01 ∷ 0x03 ∷ 0x00 ∷ 0x07 ∷ 0x00 ∷ 0x01 ∷ 0x35 ∷ 0xCB ∷ []) 5 (0x01 ∷ 0x83 ∷ 0x02 ∷ 0xC0 ∷ 0xF1 ∷ [])
    -- behind it, count 2
    ∷ replies full (0x01 ∷ 0x03 ∷ 0x00 ∷ 0x07 ∷ 0x00 ∷ 0x02 ∷ 0x75 ∷ 0xCA ∷ []) 5 (0x01 ∷ 0x83 ∷ 0x02 ∷ 0xC0 ∷ 0xF1 ∷ [])
    -- behind the last record, count 0
    ∷ replies full (0x01 ∷ 0x03 ∷ 0x00 ∷ 0x07 ∷ 0x00 ∷ 0x00 ∷ 0xF4 ∷ 0x0B ∷ []) 5 (0x01 ∷ 0x83 ∷ 0x03 ∷ 0x01 ∷ 0x31 ∷ [])
    -- behind the last record, count 48: error 02
    ∷ replies full (0x01 ∷ 0x03 ∷ 0x00 ∷ 0x07 ∷ 0x00 ∷ 0x30 ∷ 0xF4 ∷ 0x1F ∷ []) 5 (0x01 ∷ 0x83 ∷ 0x02 ∷ 0xC0 ∷ 0xF1 ∷ [])
    -- in front of the records, count 48
    ∷ replies full (0x01 ∷ 0x03 ∷ 0x00 ∷ 0x03 ∷ 0x00 ∷ 0x30 ∷ 0xB5 ∷ 0xDE ∷ []) 5 (0x01 ∷ 0x83 ∷ 0x02 ∷ 0xC0 ∷ 0xF1 ∷ [])
    -- the area at FFFF behind the records
    ∷ replies full (0x01 ∷ 0x03 ∷ 0xFF ∷ 0xFF ∷ 0x00 ∷ 0x01 ∷ 0x84 ∷ 0x2E ∷ []) 7 (0x01 ∷ 0x03 ∷ 0x02 ∷ 0x0A ∷ 0x03 ∷ 0xFE ∷ 0xE5 ∷ [])
    -- and past it
    ∷ replies full (0x01 ∷ 0x03 ∷ 0xFF ∷ 0xFF ∷ 0x00 ∷ 0x02 ∷ 0xC4 ∷ 0x2F ∷ []) 5 (0x01 ∷ 0x83 ∷ 0x02 ∷ 0xC0 ∷ 0xF1 ∷ [])
    -- a write of one at a record
    ∷ replies full (0x01 ∷ 0x06 ∷ 0x00 ∷ 0x04 ∷ 0x00 ∷ 0x01 ∷ 0x09 ∷ 0xCB ∷ []) 5 (0x01 ∷ 0x86 ∷ 0x02 ∷ 0xC3 ∷ 0xA1 ∷ [])
    -- at the last record
    ∷ replies full (0x01 ∷ 0x06 ∷ 0x00 ∷ 0x06 ∷ 0x00 ∷ 0x01 ∷ 0xA8 ∷ 0x0B ∷ []) 5 (0x01 ∷ 0x86 ∷ 0x02 ∷ 0xC3 ∷ 0xA1 ∷ [])
    -- a write of several at a record
    ∷ replies full (0x01 ∷ 0x10 ∷ 0x00 ∷ 0x04 ∷ 0x00 ∷ 0x01 ∷ 0x02 ∷ 0x00 ∷ 0x01 ∷ 0x66 ∷ 0x14 ∷ []) 5 (0x01 ∷ 0x90 ∷ 0x02 ∷ 0xCD ∷ 0xC1 ∷ [])
    -- from the registers into the records
    ∷ replies full (0x01 ∷ 0x10 ∷ 0x00 ∷ 0x03 ∷ 0x00 ∷ 0x02 ∷ 0x04 ∷ 0x00 ∷ 0x01 ∷ 0x00 ∷ 0x01 ∷ 0x23 ∷ 0xBA ∷ []) 5 (0x01 ∷ 0x90 ∷ 0x02 ∷ 0xCD ∷ 0xC1 ∷ [])
    -- a clear at a record
    ∷ replies full (0x01 ∷ 0x05 ∷ 0x00 ∷ 0x04 ∷ 0x00 ∷ 0x00 ∷ 0x8C ∷ 0x0B ∷ []) 5 (0x01 ∷ 0x85 ∷ 0x02 ∷ 0xC3 ∷ 0x51 ∷ [])
    -- a clear at a record, with a value
    ∷ replies full (0x01 ∷ 0x05 ∷ 0x00 ∷ 0x04 ∷ 0x00 ∷ 0x01 ∷ 0x4D ∷ 0xCB ∷ []) 5 (0x01 ∷ 0x85 ∷ 0x02 ∷ 0xC3 ∷ 0x51 ∷ [])
    -- the clear, with records beside it
    ∷ replies full (0x01 ∷ 0x05 ∷ 0x03 ∷ 0x00 ∷ 0x00 ∷ 0x00 ∷ 0xCD ∷ 0x8E ∷ []) 8 (0x01 ∷ 0x05 ∷ 0x03 ∷ 0x00 ∷ 0x00 ∷ 0x00 ∷ 0xCD ∷ 0x8E ∷ [])
    -- two are stored: record 1
    ∷ replies part_full (0x01 ∷ 0x03 ∷ 0x00 ∷ 0x04 ∷ 0x00 ∷ 0x01 ∷ 0xC5 ∷ 0xCB ∷ []) 7 (0x01 ∷ 0x03 ∷ 0x02 ∷ 0x22 ∷ 0x22 ∷ 0x20 ∷ 0xFD ∷ [])
    -- record 2
    ∷ replies part_full (0x01 ∷ 0x03 ∷ 0x00 ∷ 0x05 ∷ 0x00 ∷ 0x01 ∷ 0x94 ∷ 0x0B ∷ []) 7 (0x01 ∷ 0x03 ∷ 0x02 ∷ 0x11 ∷ 0x11 ∷ 0x74 ∷ 0x18 ∷ [])
    -- record 3 is beyond what is stored: error 02
    ∷ replies part_full (0x01 ∷ 0x03 ∷ 0x00 ∷ 0x06 ∷ 0x00 ∷ 0x01 ∷ 0x64 ∷ 0x0B ∷ []) 5 (0x01 ∷ 0x83 ∷ 0x02 ∷ 0xC0 ∷ 0xF1 ∷ [])
    -- beyond what is stored with count 2: error 03
    ∷ replies part_full (0x01 ∷ 0x03 ∷ 0x00 ∷ 0x06 ∷ 0x00 ∷ 0x02 ∷ 0x24 ∷ 0x0A ∷ []) 5 (0x01 ∷ 0x83 ∷ 0x03 ∷ 0x01 ∷ 0x31 ∷ [])
    -- beyond what is stored with count 48: error 03
    ∷ replies part_full (0x01 ∷ 0x03 ∷ 0x00 ∷ 0x06 ∷ 0x00 ∷ 0x30 ∷ 0xA5 ∷ 0xDF ∷ []) 5 (0x01 ∷ 0x83 ∷ 0x03 ∷ 0x01 ∷ 0x31 ∷ [])
    -- none is stored: record 1
    ∷ replies empty (0x01 ∷ 0x03 ∷ 0x00 ∷ 0x04 ∷ 0x00 ∷ 0x01 ∷ 0xC5 ∷ 0xCB ∷ []) 5 (0x01 ∷ 0x83 ∷ 0x02 ∷ 0xC0 ∷ 0xF1 ∷ [])
    -- none is stored: count 2
    ∷ replies empty (0x01 ∷ 0x03 ∷ 0x00 ∷ 0x04 ∷ 0x00 ∷ 0x02 ∷ 0x85 ∷ 0xCA ∷ []) 5 (0x01 ∷ 0x83 ∷ 0x03 ∷ 0x01 ∷ 0x31 ∷ [])
    -- none is stored: a register
    ∷ replies empty (0x01 ∷ 0x03 ∷ 0x00 ∷ 0x03 ∷ 0x00 ∷ 0x01 ∷ 0x74 ∷ 0x0A ∷ []) 7 (0x01 ∷ 0x03 ∷ 0x02 ∷ 0x0A ∷ 0x02 ∷ 0x3F ∷ 0x25 ∷ [])
    -- as adding never makes it, one at place 2: record 1
    ∷ replies (ring_of 2 1) (0x01 ∷ 0x03 ∷ 0x00 ∷ 0x04 ∷ 0x00 ∷ 0x01 ∷ 0xC5 ∷ 0xCB ∷ []) 7 (0x01 ∷ 0x03 ∷ 0x02 ∷ 0x33 ∷ 0x33 ∷ 0xEC ∷ 0xA1 ∷ [])
    -- record 2
    ∷ replies (ring_of 2 1) (0x01 ∷ 0x03 ∷ 0x00 ∷ 0x05 ∷ 0x00 ∷ 0x01 ∷ 0x94 ∷ 0x0B ∷ []) 5 (0x01 ∷ 0x83 ∷ 0x02 ∷ 0xC0 ∷ 0xF1 ∷ [])
    -- two, the newest at place 0: record 1
    ∷ replies (ring_of 0 2) (0x01 ∷ 0x03 ∷ 0x00 ∷ 0x04 ∷ 0x00 ∷ 0x01 ∷ 0xC5 ∷ 0xCB ∷ []) 7 (0x01 ∷ 0x03 ∷ 0x02 ∷ 0x11 ∷ 0x11 ∷ 0x74 ∷ 0x18 ∷ [])
    -- record 2, round the end
    ∷ replies (ring_of 0 2) (0x01 ∷ 0x03 ∷ 0x00 ∷ 0x05 ∷ 0x00 ∷ 0x01 ∷ 0x94 ∷ 0x0B ∷ []) 7 (0x01 ∷ 0x03 ∷ 0x02 ∷ 0x33 ∷ 0x33 ∷ 0xEC ∷ 0xA1 ∷ [])
    -- record 3
    ∷ replies (ring_of 0 2) (0x01 ∷ 0x03 ∷ 0x00 ∷ 0x06 ∷ 0x00 ∷ 0x01 ∷ 0x64 ∷ 0x0B ∷ []) 5 (0x01 ∷ 0x83 ∷ 0x02 ∷ 0xC0 ∷ 0xF1 ∷ [])
    -- another station's frame at a record
    ∷ refused 1 (bytes_of history) (bytes_of fresh_bank) (bytes_of full) 101 (0x02 ∷ 0x03 ∷ 0x00 ∷ 0x04 ∷ 0x00 ∷ 0x01 ∷ 0xC5 ∷ 0xF8 ∷ [])
    -- a ring of one byte less
    ∷ refused 8 (bytes_of history) (bytes_of fresh_bank) (take 9 (bytes_of full)) 101 (0x01 ∷ 0x03 ∷ 0x00 ∷ 0x04 ∷ 0x00 ∷ 0x01 ∷ 0xC5 ∷ 0xCB ∷ [])
    -- a ring of one word less
    ∷ refused 8 (bytes_of history) (bytes_of fresh_bank) (take 8 (bytes_of full)) 101 (0x01 ∷ 0x03 ∷ 0x00 ∷ 0x04 ∷ 0x00 ∷ 0x01 ∷ 0xC5 ∷ 0xCB ∷ [])
    -- a ring of one byte more
    ∷ refused 8 (bytes_of history) (bytes_of fresh_bank) (bytes_of full ++ (0 ∷ [])) 101 (0x01 ∷ 0x03 ∷ 0x00 ∷ 0x04 ∷ 0x00 ∷ 0x01 ∷ 0xC5 ∷ 0xCB ∷ [])
    -- a ring of one word more
    ∷ refused 8 (bytes_of history) (bytes_of fresh_bank) (bytes_of full ++ (0 ∷ 0 ∷ [])) 101 (0x01 ∷ 0x03 ∷ 0x00 ∷ 0x04 ∷ 0x00 ∷ 0x01 ∷ 0xC5 ∷ 0xCB ∷ [])
    -- no ring
    ∷ refused 8 (bytes_of history) (bytes_of fresh_bank) [] 101 (0x01 ∷ 0x03 ∷ 0x00 ∷ 0x04 ∷ 0x00 ∷ 0x01 ∷ 0xC5 ∷ 0xCB ∷ [])
    -- a place that is none
    ∷ refused 8 (bytes_of history) (bytes_of fresh_bank) (bytes_of (ring_of 3 3)) 101 (0x01 ∷ 0x03 ∷ 0x00 ∷ 0x04 ∷ 0x00 ∷ 0x01 ∷ 0xC5 ∷ 0xCB ∷ [])
    -- a number above the records
    ∷ refused 8 (bytes_of history) (bytes_of fresh_bank) (bytes_of (ring_of 0 4)) 101 (0x01 ∷ 0x03 ∷ 0x00 ∷ 0x04 ∷ 0x00 ∷ 0x01 ∷ 0xC5 ∷ 0xCB ∷ [])
    -- none stored, and the place is 1
    ∷ refused 8 (bytes_of history) (bytes_of fresh_bank) (bytes_of (ring_of 1 0)) 101 (0x01 ∷ 0x03 ∷ 0x00 ∷ 0x04 ∷ 0x00 ∷ 0x01 ∷ 0xC5 ∷ 0xCB ∷ [])
    -- a bad ring, and a frame for another station
    ∷ refused 8 (bytes_of history) (bytes_of fresh_bank) [] 101 (0x02 ∷ 0x03 ∷ 0x00 ∷ 0x04 ∷ 0x00 ∷ 0x01 ∷ 0xC5 ∷ 0xF8 ∷ [])
    -- a bad ring, and a frame of registers
    ∷ refused 8 (bytes_of history) (bytes_of fresh_bank) [] 101 (0x01 ∷ 0x03 ∷ 0x00 ∷ 0x00 ∷ 0x00 ∷ 0x02 ∷ 0xC4 ∷ 0x0B ∷ [])
    -- a bad ring and a small buffer: the ring first
    ∷ refused 8 (bytes_of history) (bytes_of fresh_bank) [] 99 (0x01 ∷ 0x03 ∷ 0x00 ∷ 0x04 ∷ 0x00 ∷ 0x01 ∷ 0xC5 ∷ 0xCB ∷ [])
    -- a good ring and a small buffer
    ∷ refused 5 (bytes_of history) (bytes_of fresh_bank) (bytes_of full) 99 (0x01 ∷ 0x03 ∷ 0x00 ∷ 0x04 ∷ 0x00 ∷ 0x01 ∷ 0xC5 ∷ 0xCB ∷ [])
    -- a mark of 2 and a bad ring: the bank first
    ∷ refused 4 (bytes_of history) (bytes_of (changed 0 fresh_bank (at 5 2 ∷ []))) [] 101 (0x01 ∷ 0x03 ∷ 0x00 ∷ 0x04 ∷ 0x00 ∷ 0x01 ∷ 0xC5 ∷ 0xCB ∷ [])
    -- a short bank and a bad ring: the bank first
    ∷ refused 3 (bytes_of history) (take 11 (bytes_of fresh_bank)) [] 101 (0x01 ∷ 0x03 ∷ 0x00 ∷ 0x04 ∷ 0x00 ∷ 0x01 ∷ 0xC5 ∷ 0xCB ∷ [])
    -- a sheet of version 3 and a bad ring: the sheet first
    ∷ refused 2 (bytes_of (changed 0 history (at 0 3 ∷ []))) (bytes_of fresh_bank) [] 101 (0x01 ∷ 0x03 ∷ 0x00 ∷ 0x04 ∷ 0x00 ∷ 0x01 ∷ 0xC5 ∷ 0xCB ∷ [])
    -- without a record area, and one byte of a ring
    ∷ refused 8 (bytes_of small.sheet) (bytes_of small.bank) (0 ∷ []) 101 (0x01 ∷ 0x03 ∷ 0x00 ∷ 0x00 ∷ 0x00 ∷ 0x01 ∷ 0x84 ∷ 0x0A ∷ [])
    -- without a record area, and a ring of zeros
    ∷ refused 8 (bytes_of small.sheet) (bytes_of small.bank) (0 ∷ 0 ∷ 0 ∷ 0 ∷ []) 101 (0x01 ∷ 0x03 ∷ 0x00 ∷ 0x00 ∷ 0x00 ∷ 0x01 ∷ 0x84 ∷ 0x0A ∷ [])
    -- the longest record, of 47 words: 99 bytes
    ∷ answered (bytes_of (recorded 0x0004 1 47)) (bytes_of fresh_bank) (bytes_of (0x0000 ∷ 1 ∷ up_from 0x0B01 47)) (0x01 ∷ 0x03 ∷ 0x00 ∷ 0x04 ∷ 0x00 ∷ 0x01 ∷ 0xC5 ∷ 0xCB ∷ []) 99
    ((0x01 ∷ 0x03 ∷ 0x5E ∷ []) ++ bytes_of (up_from 0x0B01 47) ++ (0x27 ∷ 0x0D ∷ []))
    -- a ring of one record, of one word
    ∷ answered (bytes_of (recorded 0x0004 1 1)) (bytes_of fresh_bank) (bytes_of (0x0000 ∷ 1 ∷ 0x4444 ∷ [])) (0x01 ∷ 0x03 ∷ 0x00 ∷ 0x04 ∷ 0x00 ∷ 0x01 ∷ 0xC5 ∷ 0xCB ∷ []) 7 (0x01 ∷ 0x03 ∷ 0x02 ∷ 0x44 ∷ 0x44 ∷ 0x8B ∷ 0x77 ∷ [])
    -- and the address behind it
    ∷ answered (bytes_of (recorded 0x0004 1 1)) (bytes_of fresh_bank) (bytes_of (0x0000 ∷ 1 ∷ 0x4444 ∷ [])) (0x01 ∷ 0x03 ∷ 0x00 ∷ 0x05 ∷ 0x00 ∷ 0x01 ∷ 0x94 ∷ 0x0B ∷ []) 5 (0x01 ∷ 0x83 ∷ 0x02 ∷ 0xC0 ∷ 0xF1 ∷ [])
    -- 004's shape, 6600 records of 22 words from 0400 on: record 1, at place 0
    ∷ answered (bytes_of (recorded 0x0400 6600 22)) (bytes_of fresh_bank) history_ring (0x01 ∷ 0x03 ∷ 0x04 ∷ 0x00 ∷ 0x00 ∷ 0x01 ∷ 0x85 ∷ 0x3A ∷ []) 49
    ((0x01 ∷ 0x03 ∷ 0x2C ∷ []) ++ bytes_of (up_from 0x0C01 22) ++ (0x76 ∷ 0xA8 ∷ []))
    -- record 6600, at 1DC7, round the end at place 1
    ∷ answered (bytes_of (recorded 0x0400 6600 22)) (bytes_of fresh_bank) history_ring (0x01 ∷ 0x03 ∷ 0x1D ∷ 0xC7 ∷ 0x00 ∷ 0x01 ∷ 0x33 ∷ 0x9B ∷ []) 49
    ((0x01 ∷ 0x03 ∷ 0x2C ∷ []) ++ replicate 44 0 ++ (0x78 ∷ 0x59 ∷ []))
    -- the address behind it
    ∷ answered (bytes_of (recorded 0x0400 6600 22)) (bytes_of fresh_bank) history_ring (0x01 ∷ 0x03 ∷ 0x1D ∷ 0xC8 ∷ 0x00 ∷ 0x01 ∷ 0x03 ∷ 0x98 ∷ []) 5 (0x01 ∷ 0x83 ∷ 0x02 ∷ 0xC0 ∷ 0xF1 ∷ [])
    -- where 03 is not allowed, a record
    ∷ answered (bytes_of (changed 0 history (at 6 14 ∷ []))) (bytes_of fresh_bank) (bytes_of full) (0x01 ∷ 0x03 ∷ 0x00 ∷ 0x04 ∷ 0x00 ∷ 0x01 ∷ 0xC5 ∷ 0xCB ∷ []) 5 (0x01 ∷ 0x83 ∷ 0x01 ∷ 0x80 ∷ 0xF0 ∷ [])
    -- where 05 is not allowed, records from 0000 on
    ∷ answered (bytes_of early) (bytes_of early_bank) (bytes_of full) (0x01 ∷ 0x03 ∷ 0x00 ∷ 0x01 ∷ 0x00 ∷ 0x01 ∷ 0xD5 ∷ 0xCA ∷ []) 7 (0x01 ∷ 0x03 ∷ 0x02 ∷ 0x11 ∷ 0x11 ∷ 0x74 ∷ 0x18 ∷ [])
    -- and from the last of them into the registers, count 2: error 03
    ∷ answered (bytes_of early) (bytes_of early_bank) (bytes_of full) (0x01 ∷ 0x03 ∷ 0x00 ∷ 0x02 ∷ 0x00 ∷ 0x02 ∷ 0x65 ∷ 0xCB ∷ []) 5 (0x01 ∷ 0x83 ∷ 0x03 ∷ 0x01 ∷ 0x31 ∷ [])
    -- beside a preset, in version 2: record 1
    ∷ answered (bytes_of preset_history) (bytes_of preset_history_bank) (bytes_of full) (0x01 ∷ 0x03 ∷ 0x00 ∷ 0x03 ∷ 0x00 ∷ 0x01 ∷ 0x74 ∷ 0x0A ∷ []) 7 (0x01 ∷ 0x03 ∷ 0x02 ∷ 0x22 ∷ 0x22 ∷ 0x20 ∷ 0xFD ∷ [])
    -- record 3
    ∷ answered (bytes_of preset_history) (bytes_of preset_history_bank) (bytes_of full) (0x01 ∷ 0x03 ∷ 0x00 ∷ 0x05 ∷ 0x00 ∷ 0x01 ∷ 0x94 ∷ 0x0B ∷ []) 7 (0x01 ∷ 0x03 ∷ 0x02 ∷ 0x33 ∷ 0x33 ∷ 0xEC ∷ 0xA1 ∷ [])
    -- a read of the preset
    ∷ answered (bytes_of preset_history) (bytes_of preset_history_bank) (bytes_of full) (0x01 ∷ 0x03 ∷ 0x00 ∷ 0x02 ∷ 0x00 ∷ 0x01 ∷ 0x25 ∷ 0xCA ∷ []) 5 (0x01 ∷ 0x83 ∷ 0x02 ∷ 0xC0 ∷ 0xF1 ∷ [])
    -- and on into the records
    ∷ answered (bytes_of preset_history) (bytes_of preset_history_bank) (bytes_of full) (0x01 ∷ 0x03 ∷ 0x00 ∷ 0x02 ∷ 0x00 ∷ 0x02 ∷ 0x65 ∷ 0xCB ∷ []) 5 (0x01 ∷ 0x83 ∷ 0x02 ∷ 0xC0 ∷ 0xF1 ∷ [])
    -- a write from the preset on into the records
    ∷ answered (bytes_of preset_history) (bytes_of preset_history_bank) (bytes_of full) (0x01 ∷ 0x10 ∷ 0x00 ∷ 0x02 ∷ 0x00 ∷ 0x02 ∷ 0x04 ∷ 0x00 ∷ 0x09 ∷ 0x00 ∷ 0x09 ∷ 0x62 ∷ 0x72 ∷ []) 5 (0x01 ∷ 0x90 ∷ 0x02 ∷ 0xCD ∷ 0xC1 ∷ [])
    -- a write to a record
    ∷ answered (bytes_of preset_history) (bytes_of preset_history_bank) (bytes_of full) (0x01 ∷ 0x06 ∷ 0x00 ∷ 0x03 ∷ 0x00 ∷ 0x00 ∷ 0x79 ∷ 0xCA ∷ []) 5 (0x01 ∷ 0x86 ∷ 0x02 ∷ 0xC3 ∷ 0xA1 ∷ [])
    -- a preset that is too high
    ∷ answered (bytes_of preset_history) (bytes_of preset_history_bank) (bytes_of full) (0x01 ∷ 0x06 ∷ 0x00 ∷ 0x02 ∷ 0x00 ∷ 0x0A ∷ 0xA8 ∷ 0x0D ∷ []) 5 (0x01 ∷ 0x86 ∷ 0x03 ∷ 0x02 ∷ 0x61 ∷ [])
    -- the same sheet in version 1
    ∷ refused 2 (bytes_of (changed 0 preset_history (at 0 1 ∷ []))) (bytes_of preset_history_bank) (bytes_of full) 101 (0x01 ∷ 0x03 ∷ 0x00 ∷ 0x03 ∷ 0x00 ∷ 0x01 ∷ 0x74 ∷ 0x0A ∷ [])
    ∷ []

-- every row is right
pub record_limits : each right table ≡ true
unfolding all_open table right changed bytes_of answer_outcome frame_check ring_fits ring_sound record_area acted_on judged_frame first_case reply_to stores_of with_check run_stores stop_place stop_in bad_item some_bad good_by bank_sound stored passes value_of sound header_sound areas_sound items_sound settings_sound records_sound each some up_from same_places item_places covered_places places_follow areas_ascend lengths_sum areas items lies_in word_at with_word in_range
record_limits = refl
