-- What the statements on exchanges suppose is met: for every order that has a frame there is an exchange with every meter that refuses nothing; and at the
-- UX15/25 and the AS-WE 40 with fresh banks, and at a meter with three records, every order is done once, and every error is heard. The stations that an order
-- can have are those of meters. Assumes nothing.
use mathlib.Core.Path.{◌≡◌, refl, sym, ap, subst}
use mathlib.Core.Bool.{false}
use mathlib.Core.List.{List, [], ◌∷◌, ◌++◌, map}
use Prim.Native.Nat.{ℕ, ◌≤◌}
use lib.ListN.{length, drop, replicate}
use borrow.Author.Tests.{le-ltb}
use Rattle.lists.specs.Cases.{first_case}
use Rattle.lists.specs.Lists.{each, some, up_from, same_places}
use Rattle.words.specs.Words.{Bytes, word_at, with_word, bytes_of}
use Rattle.check_value.specs.Check.{value_of}
use Rattle.check_value.specs.Frame.{passes}
use Rattle.range.specs.Range.{in_range}
use Rattle.sheet_rules.specs.Rows.{areas, items, record_area}
use Rattle.sheet_rules.specs.Rules.{lowest_station, highest_station, sound, header_sound, areas_sound, items_sound, settings_sound, records_sound, item_places, covered_places, places_follow, areas_ascend, lengths_sum}
use Rattle.sheet_rules.specs.Lookup.{lies_in}
use Rattle.sheet_rules.specs.Runs.{all_open}
use Rattle.makers.specs.Maps.{ux, aswe40}
use Rattle.makers.specs.Sheets.{sheet_of}
use Rattle.bank_rules.specs.Stores.{stored}
use Rattle.bank_rules.specs.Bank.{bank_sound, good_by}
use Rattle.bank_rules.specs.Calls.{Lent, lent, lent_with}
use Rattle.ring_rules.specs.Ring.{ring_sound}
use Rattle.ring_rules.specs.Calls.{ring_fits}
use Rattle.frame.specs.Reply.{least_buffer, with_check}
use Rattle.meter_rules.specs.Write.{bad_item, some_bad, stop_in, stop_place, run_stores}
use Rattle.meter_rules.specs.Steps.{judged_frame}
use Rattle.meter_rules.specs.Reply.{reply_to, stores_of}
use Rattle.meter_rules.specs.Answer.{frame_check, acted_on, answer_outcome}
use Rattle.meter_rules.proofs.Bytes.{answer_bytes}
use Rattle.meter_rules.proofs.CaseSet.{ux_meter, aswe_meter}
use Rattle.meter_rules.proofs.RecordLimits.{history, fresh_bank, full}
use Rattle.controller_rules.specs.Order.{Asked, asked_by, least_station, most_station, no_frame}
use Rattle.controller_rules.specs.Query.{QueryOutcome, query, built_number, build_outcome}
use Rattle.controller_rules.specs.Reading.{reading_of, reading_outcome}
use Rattle.controller_rules.proofs.Outcomes.{built_is, take_bytes}
use Rattle.controller_rules.proofs.Queries.{query_bytes}
use Rattle.cedarskein.specs.Door.{Handed, ReplyTold, handed_of, query_told_of, reply_told, reply_told_of}
use Rattle.demands.specs.Seen.{Accepted}
use Rattle.demands.proofs.Calls.{Answers, some_query, some_answer, some_reply}
use Rattle.exchange.specs.Sent.{reply_in}
use Rattle.exchange.proofs.Built.{sent_is}
use Rattle.exchange.proofs.Heard.{Exchanged}

-- rule Q11: the stations of an order are those that rule S63 lets a meter have
pub same_stations : (least_station ≡ lowest_station) × (most_station ≡ highest_station)
same_stations = (refl, refl)

-- ---- there is an exchange for every order

module _ (given : Lent) (buffer out : List ℕ) (accepted : Accepted given buffer) (large : 100 ≤ length out) (sheet_bytes : Bytes given.sheet)
    (bank-bytes : Bytes given.bank) (ring-bytes : Bytes given.ring) (buffer-bytes : Bytes buffer) (out-bytes : Bytes out)
    (kind station address number : ℕ) (values : List ℕ) (values-bytes : Bytes values)
    (has : no_frame (asked_by kind station address number values) ≡ false) where
  abbrev asked : Asked
  asked = asked_by kind station address number values

  abbrev left : Handed
  left = handed_of (answer_outcome given (query asked) buffer)

  frame_bytes : Bytes (query asked)
  frame_bytes = query_bytes asked has values-bytes

  left_bytes : Bytes left.buffer
  left_bytes = (answer_bytes given (query asked) buffer bank-bytes ring-bytes frame_bytes buffer-bytes).1

  built : built_number (build_outcome asked buffer).built ≡ 0
  built = ap (λ (o : QueryOutcome). built_number o.built) (built_is asked buffer has (le-ltb (length buffer) least_buffer accepted.buffer_long))

  pub some_exchange : Exchanged given asked left (reply_told_of (reading_outcome asked (reply_in left) out))
  some_exchange =
      let asking = some_query kind station address number values values-bytes buffer buffer-bytes in
      record {
        room = buffer;
        told = query_told_of (build_outcome asked buffer);
        asking = asking;
        built = built;
        buffer = buffer;
        accepted = accepted;
        answering =
            subst (λ (f : List ℕ). Answers given f buffer left) (sym (sent_is asked buffer asking built))
            (some_answer given (query asked) buffer sheet_bytes bank-bytes ring-bytes frame_bytes buffer-bytes);
        out = out;
        large = large;
        reading = some_reply kind station address number values values-bytes (reply_in left) out (take_bytes left.length left.buffer left_bytes) out-bytes;
      }

-- ---- exchanges with two meters

abbrev room : List ℕ
room = replicate 100 0xA5

-- what is heard of an order, by its numbers
abbrev hears : Lent → Asked → ReplyTold
hears given asked = reply_told_of (reading_outcome asked (reply_in (handed_of (answer_outcome given (query asked) room))) room)

abbrev told : ℕ → List ℕ → ReplyTold
told error values = reply_told 0 (length values) error (values ++ drop (length values) room)

-- at the UX15/25, fresh, at station 1: the register of the station; a register and several that are written; a clear; a value that is too high; an address in no area
abbrev ux_orders : List Asked
ux_orders =
    asked_by 0 1 0x010E 1 []
    ∷ asked_by 2 1 0x010E 0x0002 []
    ∷ asked_by 3 1 0x0101 0 (0x00 ∷ 0x04 ∷ 0x00 ∷ 0x01 ∷ [])
    ∷ asked_by 4 1 0x0300 0 []
    ∷ asked_by 3 1 0x0101 0 (0x00 ∷ 0x04 ∷ 0x00 ∷ 0x02 ∷ [])
    ∷ asked_by 0 1 0x0200 12 []
    ∷ []

pub ux_heard : map (hears (lent (sheet_of ux) (bytes_of ux_meter.fresh))) ux_orders
    ≡ told 0 (0x00 ∷ 0x01 ∷ []) ∷ told 0 [] ∷ told 0 [] ∷ told 0 [] ∷ told 3 [] ∷ told 2 [] ∷ []
unfolding query reading_outcome reading_of no_frame all_open answer_outcome frame_check ring_fits record_area acted_on judged_frame reply_to stores_of with_check run_stores stop_place stop_in bad_item some_bad stored passes value_of lies_in bytes_of first_case bank_sound good_by sound header_sound areas_sound items_sound settings_sound records_sound each some up_from same_places item_places covered_places places_follow areas_ascend lengths_sum areas items word_at with_word in_range sheet_of
ux_heard = refl

-- at the AS-WE 40, fresh, at station 1: all presets written; one of them read, and one that is too high; the settings in front of them; and a clear, which it does
-- not take
abbrev aswe_orders : List Asked
aswe_orders =
    asked_by 3 1 0x0118 0 (0x00 ∷ 0x09 ∷ 0x27 ∷ 0x0F ∷ 0x27 ∷ 0x0F ∷ 0xFF ∷ 0xFF ∷ 0xFF ∷ 0xFF ∷ 0xFF ∷ 0xFF ∷ 0xFF ∷ 0xFF ∷ [])
    ∷ asked_by 0 1 0x0118 1 []
    ∷ asked_by 2 1 0x0118 0x000A []
    ∷ asked_by 0 1 0x0115 2 []
    ∷ asked_by 4 1 0x0300 0 []
    ∷ []

pub aswe_heard : map (hears (lent (sheet_of aswe40) (bytes_of aswe_meter.fresh))) aswe_orders
    ≡ told 0 [] ∷ told 2 [] ∷ told 3 [] ∷ told 0 (0x00 ∷ 0x00 ∷ 0x00 ∷ 0x01 ∷ []) ∷ told 1 [] ∷ []
unfolding query reading_outcome reading_of no_frame all_open answer_outcome frame_check ring_fits record_area acted_on judged_frame reply_to stores_of with_check run_stores stop_place stop_in bad_item some_bad stored passes value_of lies_in bytes_of first_case bank_sound good_by sound header_sound areas_sound items_sound settings_sound records_sound each some up_from same_places item_places covered_places places_follow areas_ascend lengths_sum areas items word_at with_word in_range sheet_of
aswe_heard = refl

-- at the meter with three records of one word, all stored: records 1 and 3, and what is behind them
abbrev record_orders : List Asked
record_orders = asked_by 1 1 0x0004 1 [] ∷ asked_by 1 1 0x0006 1 [] ∷ asked_by 1 1 0x0007 1 [] ∷ []

pub records_heard : map (hears (lent_with (bytes_of history) (bytes_of fresh_bank) (bytes_of full))) record_orders
    ≡ told 0 (0x22 ∷ 0x22 ∷ []) ∷ told 0 (0x33 ∷ 0x33 ∷ []) ∷ told 2 [] ∷ []
unfolding query reading_outcome reading_of no_frame all_open answer_outcome frame_check ring_fits ring_sound record_area acted_on judged_frame reply_to stores_of with_check run_stores stop_place stop_in bad_item some_bad stored passes value_of lies_in bytes_of first_case bank_sound good_by sound header_sound areas_sound items_sound settings_sound records_sound each some up_from same_places item_places covered_places places_follow areas_ascend lengths_sum areas items word_at with_word in_range
records_heard = refl
