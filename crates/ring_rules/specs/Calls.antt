-- What each call on a ring refuses, answers and leaves: sections T and N of the rules. Assumes nothing.
use Rattle.std.specs.Prelude.{ℕ, Bool, not, cond, List, [], ◌∷◌, eqb, length}
use Rattle.lists.specs.Cases.{Case, when}
use Rattle.refusals.specs.declared.Refusal.{Refusal}
use Rattle.refusals.specs.declared.Refusal.TheVariants.{BrokenSheet, BadInput, BadRing}
use Rattle.refusals.specs.Answers.{answer_by, Answer}
use Rattle.sheet_rules.specs.Rows.{has_records, record_area}
use Rattle.sheet_rules.specs.Rules.{broken_sheet}
use Rattle.bank_rules.specs.Stores.{Store, stored}
use Rattle.bank_rules.specs.Calls.{effect_of}
use Rattle.ring_rules.specs.Ring.{ring_sound, add_stores, wrong_record}

-- rules T10 to T14: a ring that goes with a sheet; one of 0 bytes where the sheet has no record area
unfoldable pub ring_fits : List ℕ → List ℕ → Bool
ring_fits sheet ring = cond (has_records sheet) (ring_sound (record_area sheet) ring) (eqb (length ring) 0)

-- ---- what is refused; rule N2 is `broken_sheet`

-- rule N8
abbrev pub bad_ring : List ℕ → List ℕ → Bool
bad_ring sheet ring = not (ring_fits sheet ring)

-- rules N2 and T33, of adding: the sheet has no record area. That has the number of a sheet that breaks a rule.
abbrev pub without_records : List ℕ → Bool
without_records sheet = not (has_records sheet)

-- rules N50 and N51: the refusals of each call, in their order
abbrev pub ring_refusals : List ℕ → List ℕ → List (Case Refusal)
ring_refusals sheet ring = when (broken_sheet sheet) BrokenSheet ∷ when (bad_ring sheet ring) BadRing ∷ []

abbrev pub add_refusals : List ℕ → List ℕ → List ℕ → List (Case Refusal)
add_refusals sheet ring bytes =
    when (broken_sheet sheet) BrokenSheet
    ∷ when (without_records sheet) BrokenSheet
    ∷ when (bad_ring sheet ring) BadRing
    ∷ when (wrong_record (record_area sheet) bytes) BadInput
    ∷ []

-- ---- what is answered

unfoldable pub ring_answer : List ℕ → List ℕ → Answer
ring_answer sheet ring = answer_by (ring_refusals sheet ring)

unfoldable pub add_answer : List ℕ → List ℕ → List ℕ → Answer
add_answer sheet ring bytes = answer_by (add_refusals sheet ring bytes)

-- ---- what is stored, and the ring as the call leaves it: rule N52

abbrev pub add_effect : List ℕ → List ℕ → List ℕ → List Store
add_effect sheet ring bytes = effect_of (add_answer sheet ring bytes) (add_stores (record_area sheet) ring bytes)

pub record RingOutcome : Type 0 where
  pub answer : Answer
  pub ring : List ℕ

abbrev pub ring_outcome : Answer → List ℕ → RingOutcome
ring_outcome answer ring = record { answer = answer; ring = ring }

unfoldable pub add_outcome : List ℕ → List ℕ → List ℕ → RingOutcome
add_outcome sheet ring bytes = ring_outcome (add_answer sheet ring bytes) (stored ring (add_effect sheet ring bytes))
