-- Demand 1, rules D11 and D12. For any call that a contract of the door allows: one of the numbers of section N is handed back; each refusal's
-- number exactly if its condition holds and none does that comes before it (rule N50); and with a refusal nothing is written. Rule D13 is no
-- statement of a contract: only a function that is shown to end is proved at all. Assumes nothing.
use mathlib.Core.Path.{◌≡◌, refl, sym, ap, ap₂, subst, ◌∙◌}
use mathlib.Core.Bool.{true, not, ◌||◌}
use mathlib.Core.List.{List, [], ◌∷◌}
use mathlib.Core.Logic.{◌↔◌}
use Prim.Native.Nat.{ℕ, ◌≤◌, ◌<◌}
use native.Mathlib.Omega.{arith}
use Rattle.lists.specs.Cases.{Case, when, mapped, FirstAfter, InOrder, numbers_of}
use Rattle.lists.specs.Lists.{each, some, up_from}
use Rattle.lists.proofs.Among.{Among, each_among, some_among}
use Rattle.bank_rules.proofs.Inside.{number_among}
use lib.Dec.{eqb}
use borrow.Author.Tests.{eqb-true}
use Rattle.std.specs.Prelude.{Ok, Err}
use Rattle.lists.proofs.Cases.{told_among, differ}
use Rattle.refusals.specs.Answers.{refusal_number, answer_number, Answer}
use Rattle.refusals.proofs.Answers.{numbers_in_order}
use Rattle.sheet_rules.specs.Rules.{broken_sheet, sheet_refusals}
use Rattle.bank_rules.specs.Stores.{Store, stored}
use Rattle.bank_rules.specs.Bank.{empty_or_odd, fresh_stores, post_stores, mark_stores, rate_of}
use Rattle.bank_rules.specs.Calls.{Lent, misfitting_bank, unsound_bank, bad_mark, bad_address, fresh_answer, post_answer, mark_answer, effect_of, bank_outcome, fresh_outcome, post_outcome, mark_outcome}
use Rattle.bank_rules.proofs.Numbers.{check_numbers, fresh_numbers, post_numbers, mark_numbers}
use Rattle.bank_rules.proofs.Changes.{refused_as_before}
use Rattle.sheet_rules.specs.Rows.{record_area}
use Rattle.ring_rules.specs.Ring.{wrong_record}
use Rattle.ring_rules.specs.Calls.{bad_ring, without_records, add_outcome}
use Rattle.ring_rules.proofs.Calls.{ring_numbers, add_numbers, add_refused}
use Rattle.meter_rules.specs.Judgement.{lent_answer}
use Rattle.meter_rules.proofs.Lending.{lent_numbers}
use Rattle.meter_rules.specs.Steps.{judged_frame}
use Rattle.frame.specs.Reply.{small_buffer}
use Rattle.meter_rules.specs.Answer.{Outcome, answered_number, frame_refusals, frame_check, unless_refused, acted_on, answer_outcome}
use Rattle.meter_rules.proofs.Outcomes.{outcome_cases, frame_numbers, answered_takes}
use Rattle.why_rules.specs.Reasons.{reason_of, explained_by, explanation}
use Rattle.controller_rules.specs.Order.{Asked, no_frame}
use Rattle.controller_rules.specs.Query.{built_number, build_outcome}
use Rattle.controller_rules.specs.Reading.{damaged_reply, from_other, other_function, body_fits, reading_number, reading_outcome}
use Rattle.controller_rules.proofs.Outcomes.{query_numbers, built_told, build_refused, reading_numbers, reading_told, reading_refused}
use Rattle.cedarskein.specs.Door.{Told, RingTold, Handed, Said, QueryTold, ReplyTold, told, told_of, handed, handed_of, said, said_of, query_told, reply_told}
use Rattle.demands.proofs.Calls.{ChecksSheet, ChecksBank, Freshens, Posts, Marks, ChecksRing, Adds, Answers, Explains, Queries, Reads, queries_is, reads_is, checks_ring_is, adds_is, checks_sheet_is, checks_bank_is, freshens_is, posts_is, marks_is, answers_is, explains_is}

-- ---- the calls on a bank, and the two checks

-- a number by its cases in the order of rule N50
pub record ByNumber (cases : List (Case ℕ)) (number : ℕ) : Type 0 where
  pub one_of : Among number (numbers_of cases)
  pub exactly : InOrder number [] cases

-- and nothing written with any number but 0
pub record Refuses (bank : List ℕ) (cases : List (Case ℕ)) (left : Told) : Type 0 where
  pub by_number : ByNumber cases left.number
  pub nothing_written : (left.number ≡ 0 → ⊥) → left.bank ≡ bank

by_number_lem : (cases : List (Case ℕ)) {number other : ℕ} → number ≡ other → InOrder other [] cases → ByNumber cases number
by_number_lem cases {number} {other} same exactly =
    subst (ByNumber cases) (sym same) record { one_of = told_among other [] cases tt exactly; exactly = exactly }

-- the law for all calls on a bank
refuses : (cases : List (Case ℕ)) (answer : Answer) (bank : List ℕ) (stores : List Store) {left : Told}
    → left ≡ told_of (bank_outcome answer (stored bank (effect_of answer stores))) → InOrder (answer_number answer) [] cases → Refuses bank cases left
refuses cases answer bank stores same exactly =
    subst (Refuses bank cases) (sym same)
    record { by_number = by_number_lem cases refl exactly; nothing_written = refused_as_before bank stores answer }

pub sheet_check_refuses : (sheet : List ℕ) {number : ℕ} → ChecksSheet sheet number → ByNumber (when (broken_sheet sheet) 2 ∷ []) number
unfolding differ
sheet_check_refuses sheet call = by_number_lem _ (checks_sheet_is call) (numbers_in_order (sheet_refusals sheet) refl)

module _ (given : Lent) where
  pub bank_check_refuses : {number : ℕ} → ChecksBank given number
      → ByNumber (when (broken_sheet given.sheet) 2 ∷ when (misfitting_bank given) 3 ∷ when (unsound_bank given) 4 ∷ []) number
  bank_check_refuses call = by_number_lem _ (checks_bank_is call) (check_numbers given)

  pub fresh_refuses : {left : Told} → Freshens given left
      → Refuses given.bank (when (broken_sheet given.sheet) 2 ∷ when (misfitting_bank given) 3 ∷ []) left
  unfolding fresh_outcome
  fresh_refuses call = refuses _ (fresh_answer given) given.bank (fresh_stores given.sheet) (freshens_is call) (fresh_numbers given)

  pub post_refuses : (address : ℕ) (words : List ℕ) {left : Told} → Posts given address words left
      → Refuses given.bank
      (when (broken_sheet given.sheet) 2 ∷ when (misfitting_bank given) 3 ∷ when (unsound_bank given) 4
      ∷ when (empty_or_odd words) 7 ∷ when (bad_address given address words) 6 ∷ []) left
  unfolding post_outcome
  post_refuses address words call =
      refuses _ (post_answer given address words) given.bank (post_stores given.sheet address words) (posts_is call)
      (post_numbers given address words)

  pub mark_refuses : (mark : ℕ) {left : Told} → Marks given mark left
      → Refuses given.bank
      (when (broken_sheet given.sheet) 2 ∷ when (misfitting_bank given) 3 ∷ when (unsound_bank given) 4 ∷ when (bad_mark mark) 7 ∷ []) left
  unfolding mark_outcome
  mark_refuses mark call =
      refuses _ (mark_answer given mark) given.bank (mark_stores given.sheet mark) (marks_is call) (mark_numbers given mark)

-- ---- a frame

-- each refusal's number exactly if its condition holds and none does that comes before it; length and rate are then 0, and bank and buffer
-- are as they were
pub record RefusesFrame (given : Lent) (buffer : List ℕ) (left : Handed) : Type 0 where
  pub one_of : Among left.number (0 ∷ 1 ∷ 2 ∷ 3 ∷ 4 ∷ 8 ∷ 5 ∷ [])
  pub two : (left.number ≡ 2) ↔ (broken_sheet given.sheet ≡ true)
  pub three : (left.number ≡ 3) ↔ FirstAfter (broken_sheet given.sheet ∷ []) (misfitting_bank given)
  pub four : (left.number ≡ 4) ↔ FirstAfter (broken_sheet given.sheet ∷ misfitting_bank given ∷ []) (unsound_bank given)
  pub eight : (left.number ≡ 8)
      ↔ FirstAfter (broken_sheet given.sheet ∷ misfitting_bank given ∷ unsound_bank given ∷ []) (bad_ring given.sheet given.ring)
  pub five : (left.number ≡ 5)
      ↔ FirstAfter (broken_sheet given.sheet ∷ misfitting_bank given ∷ unsound_bank given ∷ bad_ring given.sheet given.ring ∷ []) (small_buffer buffer)
  pub nothing_written : 2 ≤ left.number → left ≡ handed left.number 0 0 given.bank buffer

module _ (given : Lent) (frame buffer : List ℕ) where
  abbrev result : Outcome
  result = answer_outcome given frame buffer

  abbrev acted : Outcome
  acted = acted_on (judged_frame given frame) given frame buffer

  -- a frame that is acted on has the number 0 or 1
  acted_number : answered_number acted.answered ≤ 1
  unfolding acted_on
  acted_number = answered_takes (judged_frame given frame) given.bank given.ring frame (rate_of given.sheet given.bank)

  abbrev numbers : List ℕ
  numbers = 0 ∷ 1 ∷ 2 ∷ 3 ∷ 4 ∷ 8 ∷ 5 ∷ []

  one_of_lem : Among (answered_number result.answered) numbers
  unfolding answer_outcome each some up_from
  one_of_lem =
      go (frame_check given buffer) (told_among (answer_number (frame_check given buffer)) [] (mapped refusal_number (frame_refusals given buffer)) tt (frame_numbers given buffer))
    where
      listed : {n : ℕ} → some (eqb n) numbers ≡ true → Among n numbers
      listed {n} e =
          let found = some_among (eqb n) numbers e in
          subst (λ (k : ℕ). Among k numbers) (sym (eqb-true n found.0 found.2)) found.1

      go : (answer : Answer) → Among (answer_number answer) (2 ∷ 3 ∷ 4 ∷ 8 ∷ 5 ∷ 0 ∷ [])
          → Among (answered_number (unless_refused answer given buffer acted).answered) numbers
      go (Ok tt) m =
          let few : answered_number acted.answered < 2 = omega (arith, acted_number) in
          listed (each_among (λ n. some (eqb n) numbers) (number_among 2 few) refl)
      go (Err refusal) m = listed (each_among (λ n. some (eqb n) numbers) m refl)

  -- a number from 2 on is that of the refusal
  exactly : {condition : Type 0} (k : ℕ) → 2 ≤ k → (answer_number (frame_check given buffer) ≡ k) ↔ condition
      → (answered_number result.answered ≡ k) ↔ condition
  unfolding answer_outcome
  exactly {condition} k some = go (frame_check given buffer)
    where
      go : (answer : Answer) → (answer_number answer ≡ k) ↔ condition
          → (answered_number (unless_refused answer given buffer acted).answered ≡ k) ↔ condition
      go (Ok tt) told = (
        λ e. absurd (omega (arith, acted_number, e)),
        λ holds. absurd (let z : ◌≡◌ 0 k = told.1 holds in omega arith),
      )
      go (Err refusal) told = told

  nothing_written_lem : 2 ≤ answered_number result.answered → handed_of result ≡ handed (answered_number result.answered) 0 0 given.bank buffer
  nothing_written_lem =
      outcome_cases given frame buffer
      (λ o. 2 ≤ answered_number o.answered → handed_of o ≡ handed (answered_number o.answered) 0 0 given.bank buffer)
      (λ refusal some. refl) (λ found ringed some. absurd (omega (arith, acted_number, some)))

  pub frame_refuses : {left : Handed} → Answers given frame buffer left → RefusesFrame given buffer left
  frame_refuses call =
      let told = frame_numbers given buffer in
      subst (RefusesFrame given buffer) (sym (answers_is call))
      record {
        one_of = one_of_lem;
        two = exactly 2 (omega arith) (λ e. (told.0.0 e).1, λ broken. told.0.1 (tt, broken));
        three = exactly 3 (omega arith) told.1.0;
        four = exactly 4 (omega arith) told.1.1.0;
        eight = exactly 8 (omega arith) told.1.1.1.0;
        five = exactly 5 (omega arith) told.1.1.1.1.0;
        nothing_written = nothing_written_lem;
      }

-- ---- the reason for silence or an error

-- each refusal's number as for a frame, but for the buffer's; reason, address and side are then 0
pub record RefusesWhy (given : Lent) (told : Said) : Type 0 where
  pub by_number : ByNumber
      (when (broken_sheet given.sheet) 2 ∷ when (misfitting_bank given) 3 ∷ when (unsound_bank given) 4 ∷ when (bad_ring given.sheet given.ring) 8 ∷ [])
      told.number
  pub zeros : (told.number ≡ 0 → ⊥) → told ≡ said told.number 0 0 0

pub why_refuses : (given : Lent) (frame : List ℕ) {told : Said} → Explains given frame told → RefusesWhy given told
unfolding explanation
why_refuses given frame call = subst (RefusesWhy given) (sym (explains_is call)) (go (lent_answer given) (lent_numbers given))
  where
    go : (answer : Answer)
        → InOrder (answer_number answer) []
        (when (broken_sheet given.sheet) 2 ∷ when (misfitting_bank given) 3 ∷ when (unsound_bank given) 4 ∷ when (bad_ring given.sheet given.ring) 8 ∷ [])
        → RefusesWhy given (said_of (explained_by answer (reason_of given frame)))
    go (Ok tt) numbers = record { by_number = by_number_lem _ refl numbers; zeros = λ some. absurd (some refl) }
    go (Err refusal) numbers = record { by_number = by_number_lem _ refl numbers; zeros = λ some. refl }

-- ---- the calls on a ring

pub ring_check_refuses : (sheet ring : List ℕ) {number : ℕ} → ChecksRing sheet ring number
    → ByNumber (when (broken_sheet sheet) 2 ∷ when (bad_ring sheet ring) 8 ∷ []) number
ring_check_refuses sheet ring call = by_number_lem _ (checks_ring_is call) (ring_numbers sheet ring)

-- each number of adding a record exactly if its condition holds and none does that comes before it, where 2 has two; and nothing written with any
-- number but 0
pub record RefusesRecord (sheet ring bytes : List ℕ) (left : RingTold) : Type 0 where
  pub by_number : ByNumber
      (when (broken_sheet sheet || without_records sheet) 2 ∷ when (bad_ring sheet ring) 8 ∷ when (wrong_record (record_area sheet) bytes) 7 ∷ []) left.number
  pub nothing_written : (left.number ≡ 0 → ⊥) → left.ring ≡ ring

pub add_refuses : (sheet ring bytes : List ℕ) {left : RingTold} → Adds sheet ring bytes left → RefusesRecord sheet ring bytes left
unfolding add_outcome
add_refuses sheet ring bytes call =
    subst (RefusesRecord sheet ring bytes) (sym (adds_is call))
    record { by_number = by_number_lem _ refl (add_numbers sheet ring bytes); nothing_written = add_refused sheet ring bytes }

-- ---- a box that asks

-- each number exactly if its condition holds and none does that comes before it; with any but 0 the length is 0, and the buffer is as it was
pub record RefusesQuery (asked : Asked) (buffer : List ℕ) (left : QueryTold) : Type 0 where
  pub by_number : ByNumber (when (no_frame asked) 9 ∷ when (small_buffer buffer) 5 ∷ []) left.number
  pub nothing_written : (left.number ≡ 0 → ⊥) → left ≡ query_told left.number 0 buffer

pub query_refuses : (asked : Asked) (buffer : List ℕ) {left : QueryTold} → Queries asked buffer left → RefusesQuery asked buffer left
query_refuses asked buffer call =
    subst (RefusesQuery asked buffer) (sym (queries_is call))
    record {
      by_number = by_number_lem _ (ap built_number (built_told asked buffer)) (query_numbers asked buffer);
      nothing_written =
          λ some. let none = build_refused asked buffer some in
          ap₂ (query_told (built_number (build_outcome asked buffer).built)) none.0 none.1;
    }

-- with any number but 0 length and error code are 0, and the buffer is as it was
pub record RefusesReply (asked : Asked) (reply buffer : List ℕ) (left : ReplyTold) : Type 0 where
  pub by_number : ByNumber
      (when (no_frame asked) 9 ∷ when (small_buffer buffer) 5 ∷ when (damaged_reply reply) 10 ∷ when (from_other asked reply) 11
      ∷ when (other_function asked.order reply) 12 ∷ when (not (body_fits asked reply)) 13 ∷ []) left.number
  pub nothing_written : (left.number ≡ 0 → ⊥) → left ≡ reply_told left.number 0 0 buffer

pub reply_refuses : (asked : Asked) (reply buffer : List ℕ) {left : ReplyTold} → Reads asked reply buffer left → RefusesReply asked reply buffer left
reply_refuses asked reply buffer call =
    subst (RefusesReply asked reply buffer) (sym (reads_is call))
    record {
      by_number = by_number_lem _ (ap reading_number (reading_told asked reply buffer)) (reading_numbers asked reply buffer);
      nothing_written =
          λ some. let none = reading_refused asked reply buffer some in
          ap₂ (λ (length error : ℕ). reply_told (reading_number (reading_outcome asked reply buffer).reading) length error (reading_outcome asked reply buffer).buffer) none.0 none.1
          ∙ ap (reply_told (reading_number (reading_outcome asked reply buffer).reading) 0 0) none.2;
    }
