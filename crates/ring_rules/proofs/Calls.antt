-- The calls on a ring: a sound sheet with a record area and a ring that fits it take a record of the right length, the ring fits again afterwards,
-- and what is refused leaves it as it is. Assumes nothing.
use mathlib.Core.Path.{◌≡◌, refl, sym, ap, subst, ◌∙◌}
use mathlib.Core.Bool.{Bool, true, false, not, cond, ◌||◌, true≢false}
use mathlib.Core.List.{List, [], ◌∷◌}
use Prim.Native.Nat.{ℕ, ◌+◌, ◌*◌, ◌≤◌}
use lib.Dec.{eqb}
use lib.ListN.{length}
use borrow.Author.Tests.{not-false, eqb-true, eq-eqb}
use Rattle.std.specs.Prelude.{Err}
use Rattle.lists.specs.Cases.{Case, when, first_case, mapped, conditions, NoneOf, InOrder}
use Rattle.lists.proofs.Cases.{differ, first_none}
use Rattle.refusals.specs.declared.Refusal.{Refusal}
use Rattle.refusals.specs.declared.Refusal.TheVariants.{BrokenSheet, BadInput, BadRing}
use Rattle.refusals.specs.Answers.{answer_number, answer_by, Answer, call_done}
use Rattle.refusals.proofs.Answers.{done_none, numbers_in_order}
use Rattle.sheet_rules.specs.Rows.{has_records, record_area}
use Rattle.sheet_rules.specs.Rules.{sound, broken_sheet}
use Rattle.bank_rules.proofs.Changes.{done_stores, effect_either, refused_as_before}
use Rattle.ring_rules.specs.Ring.{stored_count, ring_sound, record_of, add_stores, added, wrong_record}
use Rattle.ring_rules.specs.Calls.{ring_fits, bad_ring, without_records, ring_refusals, add_refusals, ring_answer, add_answer, add_outcome}
use Rattle.ring_rules.specs.Theorems.{words_in}
use Rattle.ring_rules.proofs.Kept.{stays_sound}
use Rattle.ring_rules.proofs.Records.{newest_is_added, others_go_on}

module _ (sheet ring : List ℕ) where
  -- ---- a ring that goes with a sheet

  pub fits_by_records : has_records sheet ≡ true → ring_fits sheet ring ≡ ring_sound (record_area sheet) ring
  unfolding ring_fits
  fits_by_records has = ap (λ (b : Bool). cond b (ring_sound (record_area sheet) ring) (eqb (length ring) 0)) has

  pub fits_sound : has_records sheet ≡ true → ring_fits sheet ring ≡ true → ring_sound (record_area sheet) ring ≡ true
  fits_sound has fitting = sym (fits_by_records has) ∙ fitting

  pub sound_fits : has_records sheet ≡ true → ring_sound (record_area sheet) ring ≡ true → ring_fits sheet ring ≡ true
  sound_fits has whole = fits_by_records has ∙ whole

  -- ---- the check of a ring

  pub ring_done : sound sheet ≡ true → ring_fits sheet ring ≡ true → ring_answer sheet ring ≡ call_done
  unfolding ring_answer
  ring_done right fitting = first_none (mapped Err (ring_refusals sheet ring)) call_done (ap not right, (ap not fitting, tt))

  pub ring_numbers : InOrder (answer_number (ring_answer sheet ring)) [] (when (broken_sheet sheet) 2 ∷ when (bad_ring sheet ring) 8 ∷ [])
  unfolding ring_answer differ
  ring_numbers = numbers_in_order (ring_refusals sheet ring) refl

-- ---- adding a record

module _ (sheet ring bytes : List ℕ) where
  pub add_done : sound sheet ≡ true → has_records sheet ≡ true → ring_fits sheet ring ≡ true → length bytes ≡ 2 * (record_area sheet).words
      → add_answer sheet ring bytes ≡ call_done
  unfolding add_answer
  add_done right has fitting size =
      first_none (mapped Err (add_refusals sheet ring bytes)) call_done
      (ap not right, (ap not has, (ap not fitting, (ap not (eq-eqb (length bytes) (2 * (record_area sheet).words) size), tt))))

  -- 2 for a sheet that is broken or has no record area, then 8, then 7
  abbrev add_cases : List (Case Refusal)
  add_cases =
      when (broken_sheet sheet || without_records sheet) BrokenSheet
      ∷ when (bad_ring sheet ring) BadRing
      ∷ when (wrong_record (record_area sheet) bytes) BadInput
      ∷ []

  add_by_cases : add_answer sheet ring bytes ≡ answer_by add_cases
  unfolding add_answer first_case
  add_by_cases = go (broken_sheet sheet) (without_records sheet) (answer_by (when (bad_ring sheet ring) BadRing ∷ when (wrong_record (record_area sheet) bytes) BadInput ∷ []))
    where
      go : (broken without : Bool) (behind : Answer)
          → cond broken (Err BrokenSheet) (cond without (Err BrokenSheet) behind) ≡ cond (broken || without) (Err BrokenSheet) behind
      go true without behind = refl
      go false without behind = refl

  pub add_numbers : InOrder (answer_number (add_answer sheet ring bytes)) []
      (when (broken_sheet sheet || without_records sheet) 2
      ∷ when (bad_ring sheet ring) 8
      ∷ when (wrong_record (record_area sheet) bytes) 7
      ∷ [])
  unfolding differ
  add_numbers =
      subst (λ (answer : Answer). InOrder (answer_number answer) [] (mapped answer_number (mapped Err add_cases))) (sym add_by_cases)
      (numbers_in_order add_cases refl)

  -- what is refused leaves the ring as it is
  pub add_refused : (answer_number (add_answer sheet ring bytes) ≡ 0 → ⊥) → (add_outcome sheet ring bytes).ring ≡ ring
  unfolding add_outcome
  add_refused refuses = refused_as_before ring (add_stores (record_area sheet) ring bytes) (add_answer sheet ring bytes) refuses

  -- so does a record of another length, whatever is refused then
  pub add_wrong_length : eqb (length bytes) (2 * (record_area sheet).words) ≡ false → (add_outcome sheet ring bytes).ring ≡ ring
  unfolding add_outcome add_answer
  add_wrong_length other =
      effect_either ring (add_stores (record_area sheet) ring bytes) (λ left. left ≡ ring) (add_answer sheet ring bytes) refl
      (λ done. absurd (true≢false (sym (ap not other) ∙ (done_none (add_refusals sheet ring bytes) done).1.1.1.0)))

  module _ (done : add_answer sheet ring bytes ≡ call_done) where
    none : NoneOf (conditions (add_refusals sheet ring bytes))
    unfolding add_answer
    none = done_none (add_refusals sheet ring bytes) done

    -- what a call that is done has found
    pub add_sheet : sound sheet ≡ true
    add_sheet = not-false (sound sheet) none.0

    pub add_records : has_records sheet ≡ true
    add_records = not-false (has_records sheet) none.1.0

    pub add_fits : ring_fits sheet ring ≡ true
    add_fits = not-false (ring_fits sheet ring) none.1.1.0

    pub add_length : length bytes ≡ 2 * (record_area sheet).words
    add_length = eqb-true (length bytes) (2 * (record_area sheet).words) (not-false (eqb (length bytes) (2 * (record_area sheet).words)) none.1.1.1.0)

    -- the ring has the record then
    pub add_adds : (add_outcome sheet ring bytes).ring ≡ added (record_area sheet) ring bytes
    unfolding add_outcome added
    add_adds = done_stores ring (add_stores (record_area sheet) ring bytes) done

    pub add_keeps_fitting : ring_fits sheet (add_outcome sheet ring bytes).ring ≡ true
    add_keeps_fitting =
        ap (ring_fits sheet) add_adds
        ∙ sound_fits sheet (added (record_area sheet) ring bytes) add_records
        (stays_sound (record_area sheet) ring bytes (fits_sound sheet ring add_records add_fits))

    pub ring_done_again : ring_answer sheet (add_outcome sheet ring bytes).ring ≡ call_done
    ring_done_again = ring_done sheet (add_outcome sheet ring bytes).ring add_sheet add_keeps_fitting

    -- record 1 is the added one, and every other one has the next number
    pub add_newest : record_of (record_area sheet) (add_outcome sheet ring bytes).ring 1 ≡ words_in (record_area sheet) bytes
    add_newest =
        ap (λ (left : List ℕ). record_of (record_area sheet) left 1) add_adds
        ∙ newest_is_added (record_area sheet) ring bytes (fits_sound sheet ring add_records add_fits)

    pub add_others : (k : ℕ) → 1 ≤ k → k ≤ stored_count ring → k + 1 ≤ (record_area sheet).records
        → record_of (record_area sheet) (add_outcome sheet ring bytes).ring (k + 1) ≡ record_of (record_area sheet) ring k
    add_others k least held room =
        ap (λ (left : List ℕ). record_of (record_area sheet) left (k + 1)) add_adds
        ∙ others_go_on (record_area sheet) ring bytes (fits_sound sheet ring add_records add_fits) k least held room

  -- whatever is answered, a ring that fits does so afterwards
  pub add_stays_fitting : ring_fits sheet ring ≡ true → ring_fits sheet (add_outcome sheet ring bytes).ring ≡ true
  unfolding add_outcome
  add_stays_fitting fitting =
      effect_either ring (add_stores (record_area sheet) ring bytes) (λ left. ring_fits sheet left ≡ true) (add_answer sheet ring bytes) fitting
      (λ done. ap (ring_fits sheet) (sym (done_stores ring (add_stores (record_area sheet) ring bytes) done)) ∙ add_keeps_fitting done)
