-- Over the calls: what a meter hands back and leaves of a built query is what it makes of the order; and the words of the query that the meter judges and
-- stores are the order's. Assumes nothing.
use mathlib.Core.Path.{◌≡◌, sym, ap, ◌∙◌}
use mathlib.Core.Bool.{true, false}
use mathlib.Core.List.{List}
use Prim.Native.Nat.{ℕ, ◌*◌, ◌<◌}
use lib.ListN.{length}
use borrow.Author.Tests.{le-ltb}
use Rattle.lists.specs.Cases.{first_case}
use Rattle.sheet_rules.specs.Rows.{areas}
use Rattle.sheet_rules.specs.Lookup.{lies_in, place_in}
use Rattle.bank_rules.specs.Bank.{station_of}
use Rattle.bank_rules.specs.Calls.{Lent}
use Rattle.frame.specs.Frame.{count, sent}
use Rattle.frame.specs.Reply.{least_buffer}
use Rattle.meter_rules.specs.declared.Judged.{Judged}
use Rattle.meter_rules.specs.Write.{first_place}
use Rattle.meter_rules.specs.Steps.{judged_frame}
use Rattle.meter_rules.specs.Answer.{frame_check, acted_on, answer_outcome}
use Rattle.controller_rules.specs.Order.{Asked, address_of, address_count, no_frame}
use Rattle.controller_rules.specs.Query.{query}
use Rattle.controller_rules.proofs.Queries.{query_start}
use Rattle.plain.specs.Numbers.{word}
use Rattle.plain.proofs.Addresses.{registers_same}
use Rattle.plain.proofs.Rows.{word_same}
use Rattle.cedarskein.specs.Door.{Handed, QueryTold, handed_of}
use Rattle.demands.specs.Seen.{Accepted}
use Rattle.demands.proofs.Calls.{Queries, Answers, answers_is}
use Rattle.exchange.specs.Judged.{suits, writes_to, place_at, judged_as}
use Rattle.exchange.specs.Sent.{query_in, bank_station}
use Rattle.exchange.specs.Heard.{written_value}
use Rattle.exchange.proofs.Judged.{judged_as_order}
use Rattle.exchange.proofs.Built.{has_frame, sent_is}
use Rattle.exchange.proofs.ReadBack.{many_written, value_sent}

-- the bank's station, in the rules' terms and in plain numbers
station_same : (given : Lent) → bank_station given ≡ station_of given.sheet given.bank
station_same given = ap (λ (place : ℕ). word given.bank (2 * place)) (word_same given.sheet 16) ∙ word_same given.bank _

-- where nothing is refused, the frame is acted on
acted : (given : Lent) (frame buffer : List ℕ) → Accepted given buffer
    → answer_outcome given frame buffer ≡ acted_on (judged_frame given frame) given frame buffer
unfolding answer_outcome frame_check first_case
acted given frame buffer accepted =
    simp (accepted.sheet_sound, accepted.bank_fits, accepted.bank_whole, accepted.ring_goes, le-ltb (length buffer) least_buffer accepted.buffer_long)

-- rule Q51, over the calls: a query that was built, and a meter that refuses nothing, has the order's station and suits it
pub answered_as_order : (given : Lent) (asked : Asked) (room buffer : List ℕ) {told : QueryTold} → Queries asked room told → told.number ≡ 0
    → Accepted given buffer → asked.station ≡ bank_station given → suits given.sheet asked.order ≡ true
    → {left : Handed} → Answers given (query_in told) buffer left → left ≡ handed_of (acted_on (judged_as given asked) given (query_in told) buffer)
answered_as_order given asked room buffer {told} asking built accepted here fits call =
    let judged = ap (judged_frame given) (sent_is asked room asking built)
    ∙ judged_as_order given asked (has_frame asked room asking built) (here ∙ station_same given) fits in
    answers_is call ∙ ap handed_of (acted given (query_in told) buffer accepted)
    ∙ ap (λ (j : Judged). handed_of (acted_on j given (query_in told) buffer)) judged

-- what the meter judges and stores of a write, by the order: the place of its first address, how many words, and each of them
module _ (asked : Asked) (has : no_frame asked ≡ false) (writes : writes_to asked.order ≡ true) where
  pub order_place : (sheet : List ℕ) → first_place sheet (query asked) ≡ place_at sheet (address_of asked.order)
  order_place sheet = ap (λ (a : ℕ). place_in (lies_in (areas sheet) a)) (query_start asked)

  pub order_count : count (query asked) ≡ address_count asked.order asked.values
  order_count = sym (registers_same (query asked)) ∙ many_written asked.station asked.values asked.order writes

  pub order_words : (k : ℕ) → k < address_count asked.order asked.values → sent (query asked) k ≡ written_value asked.order asked.values k
  order_words k less = sym (word_same (query asked) _) ∙ value_sent asked.station asked.values asked.order has writes k less
