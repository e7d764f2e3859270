-- The reason is what is told of the judgement. Assumes nothing.
use mathlib.Core.Path.{◌≡◌, refl, sym, ap, ap₂, ◌∙◌}
use mathlib.Core.Bool.{Bool, true, false, cond, not, ◌&&◌, ◌||◌, and-true}
use mathlib.Core.List.{List, [], ◌∷◌}
use mathlib.Core.Logic.{◌⊎◌, inl, inr}
use Prim.Native.Nat.{ℕ, ◌%◌, ◌≤◌, ◌<◌}
use native.Mathlib.Omega.{arith}
use lib.Dec.{ltb, eqb}
use borrow.Author.Tests.{eq-eqb, ne_eqb, eqb-true, eqb-false, lt-ltb, le-ltb, ltb-true, ltb-false}
use Rattle.std.specs.Prelude.{None, Ok, Err, Some}
use Rattle.lists.specs.Cases.{when, first_case}
use Rattle.lists.proofs.Tests.{first_of, second_of_lem}
use Rattle.sheet_rules.specs.Rows.{areas, clear_address, record_area}
use Rattle.sheet_rules.specs.Rules.{sound}
use Rattle.sheet_rules.specs.Lookup.{address_of}
use Rattle.sheet_rules.specs.declared.Purpose.TheVariants.{Read, Write}
use Rattle.sheet_rules.specs.Runs.{all_open, reach}
use Rattle.bank_rules.specs.Calls.{Lent}
use Rattle.frame.specs.Frame.{reads, clears, most_read, function, start, second, is_write, count, run}
use Rattle.meter_rules.specs.declared.Judged.TheVariants.{FailsCheck, OtherStation, FunctionNotAllowed, WrongLength, WrongCount, WrongAddress, WrongValue, BadItem, GoodRead, GoodRecord, GoodClear, GoodWrite}
use Rattle.meter_rules.specs.Steps.{starts_in_records, asked_start, other_station, function_not_allowed, wrong_length, wrong_count, wrong_address, wrong_value, bad_write, good_frame, judged_frame}
use Rattle.meter_rules.specs.Write.{first_place, some_bad, stop_place, stop_side}
use Rattle.meter_rules.proofs.Order.{asks_write}
use Rattle.meter_rules.proofs.Records.{record_count}
use Rattle.why_rules.specs.Facts.{too_short, too_long, check_differs, reads_too_many, shut_address, first_bad_address, first_bad_item, first_bad_side}
use Rattle.why_rules.specs.Reasons.{reason_of, explained_by, explanation, Explained}
use Rattle.why_rules.proofs.Parts.{fails_check_lem, wrong_address_lem, which_shut, read_told, write_told, clear_told}
use Rattle.why_rules.proofs.FirstAddress.{first_shut_reach}
use Rattle.why_rules.proofs.FirstItem.{stop_small}
use Rattle.why_rules.specs.declared.Reason.TheVariants.{TooShort, TooLong, Check, Station, Function, BodyLength, Count, Address, ClearValue, Item}
use Rattle.meter_rules.proofs.Lending.{lent_passed}
use Rattle.meter_rules.specs.Judgement.{lent_answer, judgement, judgement_by, Judgement}
use Rattle.why.specs.Told.{wrongly_addressed, reason_by}
use Rattle.refusals.specs.Answers.{Answer}

-- ---- a frame that step 6 stops, function by function

module _ (sheet frame : List ℕ) where
  pub told_clear : function frame ≡ clears → wrongly_addressed sheet frame ≡ Address (start frame)
  told_clear e = simp (eq-eqb (function frame) clears e)

  pub told_write : (function frame ≡ clears → ⊥) → (function frame ≡ reads → ⊥) → wrongly_addressed sheet frame ≡ Address (reach Write (areas sheet) (start frame))
  told_write clear read = simp (ne_eqb (function frame) clears clear, ne_eqb (function frame) reads read)

  module _ (is : function frame ≡ reads) where
    told_read : wrongly_addressed sheet frame ≡ cond (ltb most_read (second frame)) Count (Address (reach Read (areas sheet) (start frame)))
    told_read =
        ap₂ (λ (c r : Bool). cond c (Address (start frame))
        (cond r (cond (ltb most_read (second frame)) Count (Address (reach Read (areas sheet) (start frame)))) (Address (reach Write (areas sheet) (start frame)))))
        (ap (λ (n : ℕ). eqb n clears) is) (ap (λ (n : ℕ). eqb n reads) is)

    pub told_count : most_read < second frame → wrongly_addressed sheet frame ≡ Count
    told_count many =
        told_read ∙ ap (λ (b : Bool). cond b Count (Address (reach Read (areas sheet) (start frame)))) (lt-ltb most_read (second frame) many)

    pub told_shut : second frame ≤ most_read → wrongly_addressed sheet frame ≡ Address (reach Read (areas sheet) (start frame))
    told_shut few =
        told_read ∙ ap (λ (b : Bool). cond b Count (Address (reach Read (areas sheet) (start frame)))) (le-ltb most_read (second frame) few)

-- ---- by the facts

module _ (given : Lent) (keeps : sound given.sheet ≡ true) (frame : List ℕ) where
  -- a count is told where a read's is over 47
  address_count_lem : reads_too_many given.sheet frame ≡ true → Count ≡ wrongly_addressed given.sheet frame
  address_count_lem many =
      let over = first_of (eqb (function frame) reads && ltb most_read (second frame)) (not (starts_in_records given.sheet frame)) many in
      let is = eqb-true (function frame) reads (first_of (eqb (function frame) reads) (ltb most_read (second frame)) over) in
      sym (told_count given.sheet frame is (ltb-true most_read (second frame) (second_of_lem (eqb (function frame) reads) (ltb most_read (second frame)) over)))

  -- and an address else
  address_shut : wrong_count given.sheet frame ≡ false → reads_too_many given.sheet frame ≡ false → shut_address given frame ≡ true
      → Address (first_bad_address given.sheet frame) ≡ wrongly_addressed given.sheet frame
  address_shut right few shut = go (which_shut given frame keeps right shut)
    where
      -- a record's count is 1 behind step 5
      few_read : function frame ≡ reads → ltb most_read (second frame) ≡ false
      few_read is = go (starts_in_records given.sheet frame) refl
        where
          go : (inside : Bool) → starts_in_records given.sheet frame ≡ inside → ltb most_read (second frame) ≡ false
          go true e = ap (ltb most_read) (record_count given.sheet frame is e right)
          go false e = simp (eq-eqb (function frame) reads is, e, and-true) at few

      go : ((function frame ≡ reads) × (all_open Read given.sheet (run frame) ≡ false))
          ⊎ ((is_write frame ≡ true) × (all_open Write given.sheet (run frame) ≡ false))
          ⊎ ((function frame ≡ clears) × (eqb (start frame) (clear_address given.sheet) ≡ false))
          → Address (first_bad_address given.sheet frame) ≡ wrongly_addressed given.sheet frame
      go (inl (is, closed)) =
          ap Address (read_told given.sheet frame is ∙ first_shut_reach Read given.sheet keeps (start frame) (count frame) closed)
          ∙ sym (told_shut given.sheet frame is (ltb-false most_read (second frame) (few_read is)))
      go (inr (inl (is, closed))) =
          let asks = asks_write frame is in
          ap Address (write_told given.sheet frame is ∙ first_shut_reach Write given.sheet keeps (start frame) (count frame) closed)
          ∙ sym (told_write given.sheet frame (eqb-false (function frame) clears asks.is_clear) (eqb-false (function frame) reads asks.is_read))
      go (inr (inr (is, elsewhere))) = ap Address (clear_told given.sheet frame is) ∙ sym (told_clear given.sheet frame is)

  good_none : None ≡ reason_by (good_frame given frame) given.sheet frame
  good_none = go (eqb (function frame) reads) (eqb (function frame) clears) (starts_in_records given.sheet frame)
    where
      go : (read clear inside : Bool)
          → None ≡ reason_by (cond read (cond inside (GoodRecord (asked_start given frame) (record_area given.sheet).words)
          (GoodRead (first_place given.sheet frame) (count frame)))
          (cond clear GoodClear (GoodWrite (first_place given.sheet frame) (count frame)))) given.sheet frame
      go true clear true = refl
      go true clear false = refl
      go false true inside = refl
      go false false inside = refl

  -- the reason is told of where the frame stops: from step 6 on, where step 5 lets the frame through
  from_six : wrong_count given.sheet frame ≡ false
      → first_case (when (reads_too_many given.sheet frame) (Some Count) ∷ when (shut_address given frame) (Some (Address (first_bad_address given.sheet frame)))
      ∷ when (wrong_value frame) (Some ClearValue) ∷ when (bad_write given frame) (Some (Item (first_bad_item given frame) (first_bad_side given frame))) ∷ []) None
      ≡ reason_by (first_case (when (wrong_address given frame) WrongAddress ∷ when (wrong_value frame) WrongValue
      ∷ when (bad_write given frame) (BadItem (first_place given.sheet frame) (stop_place given frame) (stop_side given frame)) ∷ []) (good_frame given frame)) given.sheet frame
  unfolding first_case
  from_six right =
      go (reads_too_many given.sheet frame) (shut_address given frame) (wrong_value frame) (bad_write given frame) refl refl refl
      ∙ sym (ap (λ (wrong : Bool). reason_by (first_case (when wrong WrongAddress ∷ when (wrong_value frame) WrongValue
      ∷ when (bad_write given frame) (BadItem (first_place given.sheet frame) (stop_place given frame) (stop_side given frame)) ∷ []) (good_frame given frame)) given.sheet frame)
      (wrong_address_lem given frame))
    where
      go : (t s v h : Bool) → reads_too_many given.sheet frame ≡ t → shut_address given frame ≡ s → bad_write given frame ≡ h
          → first_case (when t (Some Count) ∷ when s (Some (Address (first_bad_address given.sheet frame))) ∷ when v (Some ClearValue) ∷ when h (Some (Item (first_bad_item given frame) (first_bad_side given frame))) ∷ []) None
          ≡ reason_by (first_case (when (t || s) WrongAddress ∷ when v WrongValue
          ∷ when h (BadItem (first_place given.sheet frame) (stop_place given frame) (stop_side given frame)) ∷ []) (good_frame given frame)) given.sheet frame
      go true s v h is-t is-s is-h = ap Some (address_count_lem is-t)
      go false true v h is-t is-s is-h = ap Some (address_shut right is-t is-s)
      go false false true h is-t is-s is-h = refl
      go false false false true is-t is-s is-h = ap (λ (place : ℕ). Some (Item (address_of (areas given.sheet) place) (stop_side given frame))) whole
        where
          whole : stop_place given frame ≡ stop_place given frame % 65536
          whole = omega (arith, stop_small given frame (second_of_lem (is_write frame) (some_bad given frame) is-h) keeps)
      go false false false false is-t is-s is-h = good_none

  pub told : reason_of given frame ≡ reason_by (judged_frame given frame) given.sheet frame
  unfolding reason_of judged_frame first_case
  told =
      go (too_short frame) (too_long frame) (check_differs frame) (other_station given frame) (function_not_allowed given.sheet frame) (wrong_length frame)
      (wrong_count given.sheet frame) refl refl refl
      ∙ sym (ap (λ (fails : Bool). reason_by
      (first_case (when fails FailsCheck ∷ when (other_station given frame) OtherStation ∷ when (function_not_allowed given.sheet frame) FunctionNotAllowed
      ∷ when (wrong_length frame) WrongLength ∷ when (wrong_count given.sheet frame) WrongCount ∷ when (wrong_address given frame) WrongAddress
      ∷ when (wrong_value frame) WrongValue ∷ when (bad_write given frame) (BadItem (first_place given.sheet frame) (stop_place given frame) (stop_side given frame)) ∷ [])
      (good_frame given frame)) given.sheet frame) (fails_check_lem frame))
    where
      go : (a b c d e f g : Bool) → too_short frame ≡ a → too_long frame ≡ b → wrong_count given.sheet frame ≡ g
          → first_case (when a (Some TooShort) ∷ when b (Some TooLong) ∷ when c (Some Check) ∷ when d (Some Station) ∷ when e (Some Function) ∷ when f (Some BodyLength) ∷ when (g || reads_too_many given.sheet frame) (Some Count)
          ∷ when (shut_address given frame) (Some (Address (first_bad_address given.sheet frame))) ∷ when (wrong_value frame) (Some ClearValue)
          ∷ when (bad_write given frame) (Some (Item (first_bad_item given frame) (first_bad_side given frame))) ∷ []) None
          ≡ reason_by (first_case (when (a || b || c) FailsCheck ∷ when d OtherStation ∷ when e FunctionNotAllowed ∷ when f WrongLength ∷ when g WrongCount
          ∷ when (wrong_address given frame) WrongAddress ∷ when (wrong_value frame) WrongValue
          ∷ when (bad_write given frame) (BadItem (first_place given.sheet frame) (stop_place given frame) (stop_side given frame)) ∷ []) (good_frame given frame)) given.sheet frame
      go true b c d e f g is-a is_b is-g = simp is-a
      go false true c d e f g is-a is_b is-g = simp (is-a, is_b)
      go false false true d e f g is-a is_b is-g = simp (is-a, is_b)
      go false false false true e f g is-a is_b is-g = refl
      go false false false false true f g is-a is_b is-g = refl
      go false false false false false true g is-a is_b is-g = refl
      go false false false false false false true is-a is_b is-g = refl
      go false false false false false false false is-a is_b is-g = from_six is-g

-- ---- with what the call refuses

-- what is told of a judgement
abbrev pub explained_of : Judgement → List ℕ → List ℕ → Explained
explained_of (Err refusal) sheet frame = Err refusal
explained_of (Ok judged) sheet frame = Ok (reason_by judged sheet frame)

pub explained : (given : Lent) (frame : List ℕ) → explained_of (judgement given frame) given.sheet frame ≡ explanation given frame
unfolding judgement explanation
explained given frame = go (lent_answer given) refl
  where
    go : (answer : Answer) → lent_answer given ≡ answer
        → explained_of (judgement_by answer (judged_frame given frame)) given.sheet frame ≡ explained_by answer (reason_of given frame)
    go (Ok tt) e = ap Ok (sym (told given (lent_passed given e).0.right frame))
    go (Err refusal) e = refl
