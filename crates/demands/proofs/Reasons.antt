-- The reason over the calls themselves: what is told is true in plain numbers, nothing else is, and it agrees with what the call that answers the
-- frame does. Of a damaged frame it is the check that is told. That nothing is refused is supposed by the call's own number, 0. Assumes nothing.
use mathlib.Core.Path.{◌≡◌, refl, sym, ap, ap₂, subst, ◌∙◌}
use mathlib.Core.Bool.{true, not, cond}
use mathlib.Core.List.{List, []}
use mathlib.Core.Logic.{◌↔◌}
use Prim.Native.Nat.{ℕ, ◌≤◌}
use native.Mathlib.Omega.{arith}
use lib.Dec.{eqb}
use Rattle.std.specs.Prelude.{Ok, Err}
use Rattle.lists.specs.Cases.{first_case, mapped, InOrder}
use Rattle.refusals.proofs.Numbers.{refusal_from_two}
use Rattle.refusals.specs.Answers.{Answer, call_done}
use Rattle.sheet_rules.specs.Rules.{sound}
use Rattle.bank_rules.specs.Calls.{Lent}
use Rattle.bank_rules.proofs.Changes.{Passed}
use Rattle.meter_rules.specs.Judgement.{lent_answer}
use Rattle.meter_rules.proofs.Lending.{lent_passed}
use Rattle.why_rules.specs.Reasons.{reason_number, reason_address, reason_side, facts, reason_of, explained_by, explanation}
use Rattle.why_rules.proofs.Order.{reasons_in_order}
use Rattle.plain.specs.Numbers.{Bytes, byte, word}
use Rattle.plain.specs.Frame as fates
use Rattle.plain.specs.Frame.{Fate, silence, error, good, Gets, registers}
use Rattle.plain.specs.Damage.{Sent, Damage}
use Rattle.plain.specs.Left as plain
use Rattle.plain.specs.Left.{Left, Leaves, HandsBack}
use Rattle.plain.specs.Why.{CheckAgrees, Why, by_check}
use Rattle.sheet_rules.proofs.Records.{in_records_has, records_rules}
use Rattle.plain.proofs.Records.{so_record}
use Rattle.plain.proofs.Damage.{damaged_fails}
use Rattle.plain.proofs.Conditions.{whole_tells}
use Rattle.plain.proofs.Fates.{one_fate, unmet}
use Rattle.plain.proofs.Why as why
use Rattle.cedarskein.specs.Door.{Handed, Said, said, said_of}
use Rattle.demands.specs.Seen.{Accepted, left_by, Replied}
use Rattle.demands.specs.Reasons.{Errs, Agrees}
use Rattle.demands.proofs.Calls.{Answers, Explains, answers_bytes, explains_is, explains_bytes}
use Rattle.demands.proofs.Frames.{frame_leaves}

-- ---- what is told is true

module _ (given : Lent) (frame : List ℕ) {told : Said} (call : Explains given frame told) (taken : told.number ≡ 0) where
  -- nothing was refused, so sheet and bank are sound and the ring goes with the sheet, and the reason is that of the facts
  record Explained : Type 0 where
    passed : Passed given
    is : told ≡ said 0 (reason_number (reason_of given frame)) (reason_address (reason_of given frame)) (reason_side (reason_of given frame))

  explained : Explained
  unfolding explanation
  explained = go (lent_answer given) refl (explains_is call)
    where
      go : (answer : Answer) → lent_answer given ≡ answer → told ≡ said_of (explained_by answer (reason_of given frame)) → Explained
      go (Ok tt) e is = record { passed = (lent_passed given e).0; is = is }
      go (Err refusal) e is = absurd (omega (arith, refusal_from_two refusal, ap (λ (s : Said). s.number) is, taken))

  sheet_bytes : Bytes given.sheet
  sheet_bytes = (explains_bytes call).0

  -- so the sheet is sound
  pub told_sound : sound given.sheet ≡ true
  told_sound = explained.passed.right

  -- rule Y1: the reason that is told is handed back by the facts in their order
  pub why_in_order : InOrder told.reason [] (mapped reason_number (facts given frame))
  why_in_order =
      subst (λ (s : Said). InOrder s.reason [] (mapped reason_number (facts given frame))) (sym explained.is) (reasons_in_order given frame)

  -- rules Y10 to Y24: in plain numbers, what is told holds of the frame, and nothing that comes before it does
  pub why_true : Why given frame told.reason told.address told.side
  why_true =
      subst (λ (s : Said). Why given frame s.reason s.address s.side) (sym explained.is) (why.why_so given frame explained.passed sheet_bytes)

  -- and no other reason is
  pub why_once : {reason address side : ℕ} → Why given frame reason address side → (reason ≡ told.reason) × (address ≡ told.address) × (side ≡ told.side)
  why_once other =
      let found = why.why_is given frame explained.passed sheet_bytes other in (
        found.0 ∙ ap (λ (s : Said). s.reason) (sym explained.is),
        found.1 ∙ ap (λ (s : Said). s.address) (sym explained.is),
        found.2 ∙ ap (λ (s : Said). s.side) (sym explained.is),
      )

  -- demand 3: of a damaged frame that was sent right, the check is told
  pub damaged_told : (sent : List ℕ) → Sent sent → Damage sent frame → told ≡ said 0 3 0 0
  damaged_told sent is damage =
      let found = why_once (by_check (omega (arith, is.least, damage.same_length)) (omega (arith, is.most, damage.same_length)) differs) in
      ap (λ (n : ℕ). said n told.reason told.address told.side) taken
      ∙ sym (ap₂ (λ (reason address : ℕ). said 0 reason address told.side) found.0 found.1) ∙ sym (ap (said 0 3 0) found.2)
    where
      fails : fates.Whole frame → ⊥
      fails = unmet (whole_tells frame) (ap not (damaged_fails sent frame is (explains_bytes call).3 damage))

      differs : CheckAgrees frame → ⊥
      differs agrees = fails record { least = omega (arith, is.least, damage.same_length); most = omega (arith, is.most, damage.same_length); check = agrees }

-- ---- and it agrees with what is answered

-- what is handed back, by what a frame gets
abbrev pub Seen : Fate → Handed → Type 0
Seen silence left = left.number ≡ 1
Seen (error code) left = Errs code left
Seen good left = Replied left

seen_once : (one other : Fate) (left : Handed) → Seen one left → Seen other left → one ≡ other
seen_once silence silence left a b = refl
seen_once silence (error code) left a b = absurd (omega (arith, a, b.0))
seen_once silence good left a b = absurd (omega (arith, a, b.0))
seen_once (error code) silence left a b = absurd (omega (arith, b, a.0))
seen_once (error code) (error other) left a b = ap error (sym a.2 ∙ b.2)
seen_once (error code) good left a b = absurd (omega (arith, a.1, b.1))
seen_once good silence left a b = absurd (omega (arith, b, a.0))
seen_once good (error code) left a b = absurd (omega (arith, b.1, a.1))
seen_once good good left a b = refl

module _ (given : Lent) (frame buffer : List ℕ) (accepted : Accepted given buffer) {left : Handed} (answer : Answers given frame buffer left) where
  leaves : Leaves given frame buffer (left_by left)
  leaves = frame_leaves given frame buffer accepted answer

  -- a read that gets a reply is for one register at least
  some_read : byte frame 1 ≡ 0x03 → Gets given frame good → 1 ≤ registers frame
  some_read is (fates.all_right whole ours allowed long counted right values) =
      omega (arith, counted.of_read is, ap (λ (n : ℕ). cond (eqb n 0x06) 1 (word frame 4)) is)

  seen : {fate : Fate} → HandsBack given frame buffer (left_by left) fate → Gets given frame fate → Seen fate left
  seen (plain.quiet e) gets = ap (λ (l : Left). l.number) e
  seen (plain.erred number size rate reply) gets = (number, size, reply.its_code)
  seen (plain.read is none number size rate reply) gets = (number, omega (arith, size, some_read is gets))
  seen (plain.recorded is k many words at number size rate reply) gets =
      let record_is = so_record given.sheet at in (
        number,
        omega (
          arith,
          size,
          record_is.its_words,
          (records_rules given.sheet accepted.sheet_sound (in_records_has given.sheet (word frame 2) record_is.inside)).words_low,
        ),
      )
  seen (plain.echoed is number size rate reply) gets = (number, omega (arith, size))

  -- a frame gets what is seen, and what is seen it gets
  pub seen_gets : (fate : Fate) → Seen fate left ↔ Gets given frame fate
  seen_gets fate =
      let here = seen leaves.hands_back leaves.gets in (
        λ is. subst (Gets given frame) (seen_once leaves.fate fate left here is) leaves.gets,
        λ gets. subst (λ (f : Fate). Seen f left) (one_fate given frame accepted.sheet_sound (answers_bytes answer).0 leaves.gets gets) here,
      )

  both : {A B C : Type 0} → A ↔ B → B ↔ C → A ↔ C
  both p q = (λ a. q.0 (p.0 a), λ c. p.1 (q.1 c))

  -- what is accepted for an answer is for a reason too
  done : lent_answer given ≡ call_done
  unfolding lent_answer first_case
  done = simp (accepted.sheet_sound, accepted.bank_fits, accepted.bank_whole, accepted.ring_goes)

  told_taken : {told : Said} → Explains given frame told → told.number ≡ 0
  unfolding explanation
  told_taken call =
      ap (λ (s : Said). s.number) (explains_is call)
      ∙ ap (λ (a : Answer). (said_of (explained_by a (reason_of given frame))).number) done

  pub why_agrees : {told : Said} → Explains given frame told → Agrees given.sheet frame told left
  why_agrees call =
      let taken = told_taken call in
      let out = why.goes_out given frame (explained given frame call taken).passed (explains_bytes call).0 (why_true given frame call taken) in
      record {
        no_error = both (seen_gets good) out.no_error;
        silent = both (seen_gets silence) out.silent;
        error_one = both (seen_gets (error 1)) out.error_one;
        error_two = both (seen_gets (error 2)) out.error_two;
        error_three = both (seen_gets (error 3)) out.error_three;
      }
