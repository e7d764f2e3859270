-- Where nothing is refused, a built query meets silence exactly where the bank's station is another. Assumes nothing.
use mathlib.Core.Path.{◌≡◌, refl, sym, ap, subst, ◌∙◌}
use mathlib.Core.Bool.{false}
use mathlib.Core.List.{List}
use mathlib.Core.Logic.{◌↔◌}
use Prim.Native.Nat.{ℕ, ◌+◌}
use native.Mathlib.Omega.{arith}
use lib.ListN.{length}
use borrow.Author.Tests.{eq-eqb, ne_eqb, le-ltb}
use Rattle.bank_rules.specs.Calls.{Lent}
use Rattle.frame.specs.Frame.{writes_many, function, byte_count}
use Rattle.meter_rules.specs.Steps.{wrong_length}
use Rattle.controller_rules.specs.declared.Order.{Order}
use Rattle.controller_rules.specs.declared.Order.TheVariants.{Read, Record, Write, Writes, Clear, Unknown}
use Rattle.controller_rules.specs.Order.{Asked, ask, no_frame}
use Rattle.controller_rules.specs.Query.{query}
use Rattle.controller_rules.proofs.Queries.{query_length, query_station, query_function, query_count}
use Rattle.plain.specs.Frame as fates
use Rattle.plain.specs.Frame.{Fate, silence, RightLength, Gets}
use Rattle.plain.specs.Left as plain
use Rattle.plain.specs.Left.{Left, HandsBack}
use Rattle.plain.proofs.Conditions.{length_tells}
use Rattle.plain.proofs.Fates.{one_fate}
use Rattle.cedarskein.specs.Door.{Handed, QueryTold}
use Rattle.demands.specs.Seen.{Accepted, left_by}
use Rattle.demands.proofs.Calls.{Queries, Answers, answers_bytes}
use Rattle.demands.proofs.Frames.{frame_leaves}
use Rattle.exchange.specs.Sent.{query_in, bank_station}
use Rattle.exchange.proofs.Built.{query_as, has_frame, sent_is}

-- a built query has the length of its function
module _ (stationed : ℕ) (values : List ℕ) where
  eight_right : (frame : List ℕ) (code : ℕ) → function frame ≡ code → length frame ≡ 8 → (code ≡ writes_many → ⊥) → wrong_length frame ≡ false
  eight_right frame code is long other = simp (is, long, ne_eqb code writes_many other)

  several_right : (frame : List ℕ) (n : ℕ) → function frame ≡ writes_many → length frame ≡ 9 + n → byte_count frame ≡ n → wrong_length frame ≡ false
  several_right frame n is long counted = simp (is, long, counted, le-ltb (9 + n) 9 (omega arith), eq-eqb (9 + n) (9 + n) refl)

  length_right : (order : Order) → wrong_length (query (ask order stationed values)) ≡ false
  length_right (Read start count) =
      let asked : Asked = ask (Read start count) stationed values in
      eight_right (query asked) 0x03 (query_function asked) (query_length asked) (λ e. omega (arith, e))
  length_right (Record address words) =
      let asked : Asked = ask (Record address words) stationed values in
      eight_right (query asked) 0x03 (query_function asked) (query_length asked) (λ e. omega (arith, e))
  length_right (Write address value) =
      let asked : Asked = ask (Write address value) stationed values in
      eight_right (query asked) 0x06 (query_function asked) (query_length asked) (λ e. omega (arith, e))
  length_right (Writes start) =
      let asked : Asked = ask (Writes start) stationed values in
      several_right (query asked) (length values) (query_function asked) (query_length asked ∙ omega arith) (query_count start stationed values)
  length_right (Clear address) =
      let asked : Asked = ask (Clear address) stationed values in
      eight_right (query asked) 0x05 (query_function asked) (query_length asked) (λ e. omega (arith, e))
  length_right Unknown =
      let asked : Asked = ask Unknown stationed values in
      eight_right (query asked) 0 (query_function asked) (query_length asked) (λ e. omega (arith, e))

pub right_length : (asked : Asked) → RightLength (query asked)
right_length asked = (length_tells (query asked)).right (length_right asked.station asked.values asked.order)

module _ (given : Lent) (asked : Asked) (has : no_frame asked ≡ false) where
  quiet_other : {fate : Fate} → fate ≡ silence → Gets given (query asked) fate → asked.station ≡ bank_station given → ⊥
  quiet_other e (fates.not_whole fails) here = fails (query_as asked has).whole
  quiet_other e (fates.other_station whole fails) here = fails (query_station asked ∙ here)
  quiet_other e (fates.not_allowed whole ours fails) here = let y : ◌≡◌ {A = ℕ} 0 1 = cc in omega arith
  quiet_other e (fates.wrong_length whole ours allowed fails) here = fails (right_length asked)
  quiet_other e (fates.wrong_count whole ours allowed long fails) here = let y : ◌≡◌ {A = ℕ} 0 1 = cc in omega arith
  quiet_other e (fates.wrong_address whole ours allowed long counted fails) here = let y : ◌≡◌ {A = ℕ} 0 1 = cc in omega arith
  quiet_other e (fates.wrong_value whole ours allowed long counted right fails) here = let y : ◌≡◌ {A = ℕ} 0 1 = cc in omega arith
  quiet_other e (fates.all_right whole ours allowed long counted right values) here = let y : ◌≡◌ {A = ℕ} 0 1 = cc in omega arith

  module _ (buffer : List ℕ) (accepted : Accepted given buffer) {left : Handed} (call : Answers given (query asked) buffer left) where
    leaves : plain.Leaves given (query asked) buffer (left_by left)
    leaves = frame_leaves given (query asked) buffer accepted call

    quiet_number : {fate : Fate} → HandsBack given (query asked) buffer (left_by left) fate → left.number ≡ 1 → fate ≡ silence
    quiet_number (plain.quiet e) one = refl
    quiet_number (plain.erred number size rate reply) one = absurd (omega (arith, number, one))
    quiet_number (plain.read is none number size rate reply) one = absurd (omega (arith, number, one))
    quiet_number (plain.recorded is k many words at number size rate reply) one = absurd (omega (arith, number, one))
    quiet_number (plain.echoed is number size rate reply) one = absurd (omega (arith, number, one))

    number_quiet : {fate : Fate} → HandsBack given (query asked) buffer (left_by left) fate → fate ≡ silence → left.number ≡ 1
    number_quiet (plain.quiet e) one = ap (λ (l : Left). l.number) e
    number_quiet (plain.erred number size rate reply) one = absurd (let y : ◌≡◌ {A = ℕ} 0 1 = cc in omega arith)
    number_quiet (plain.read is none number size rate reply) one = absurd (let y : ◌≡◌ {A = ℕ} 0 1 = cc in omega arith)
    number_quiet (plain.recorded is k many words at number size rate reply) one = absurd (let y : ◌≡◌ {A = ℕ} 0 1 = cc in omega arith)
    number_quiet (plain.echoed is number size rate reply) one = absurd (let y : ◌≡◌ {A = ℕ} 0 1 = cc in omega arith)

    pub query_silent : (left.number ≡ 1) ↔ (asked.station ≡ bank_station given → ⊥)
    query_silent = (
      λ one. quiet_other (quiet_number leaves.hands_back one) leaves.gets,
      λ other. number_quiet leaves.hands_back
          (one_fate given (query asked) accepted.sheet_sound (answers_bytes call).0 leaves.gets
          (fates.other_station (query_as asked has).whole (λ ours. other (sym (query_station asked) ∙ ours)))),
    )

-- rule Q52, over the calls: a query that was built, and a meter that refuses nothing
pub silent_elsewhere : (given : Lent) (asked : Asked) (room buffer : List ℕ) {told : QueryTold} → Queries asked room told → told.number ≡ 0
    → Accepted given buffer → {left : Handed} → Answers given (query_in told) buffer left
    → (left.number ≡ 1) ↔ (asked.station ≡ bank_station given → ⊥)
silent_elsewhere given asked room buffer asking built accepted {left} call =
    query_silent given asked (has_frame asked room asking built) buffer accepted
    (subst (λ (f : List ℕ). Answers given f buffer left) (sent_is asked room asking built) call)
