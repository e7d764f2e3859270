-- Calls of adding one after another, on a sound sheet with a record area: those with a record of the right length are taken, in their order, and every
-- other one leaves the ring as it is. From an empty ring, then, record k is the k-th latest of those taken. Assumes nothing.
use mathlib.Core.Path.{◌≡◌, refl, ap, ◌∙◌}
use mathlib.Core.Bool.{Bool, true, false, cond}
use mathlib.Core.List.{List, [], ◌∷◌}
use Prim.Native.Nat.{ℕ, ◌-◌, ◌*◌, ◌≤◌}
use lib.Dec.{eqb}
use lib.ListN.{length, get_or}
use borrow.Author.Tests.{eqb-true}
use Rattle.sheet_rules.specs.Rows.{has_records, record_area}
use Rattle.sheet_rules.specs.Rules.{sound}
use Rattle.sheet_rules.proofs.Records.{records_rules}
use Rattle.ring_rules.specs.Ring.{stored_count, record_of}
use Rattle.ring_rules.specs.Calls.{ring_fits, add_outcome}
use Rattle.ring_rules.specs.Theorems.{words_in, added_all, lesser, ring_after, taken}
use Rattle.ring_rules.proofs.Calls.{fits_sound, sound_fits, add_done, add_adds, add_stays_fitting, add_wrong_length}
use Rattle.ring_rules.proofs.Empty.{zeros_of, zeros_sound}
use Rattle.ring_rules.proofs.History.{from_empty_count, from_empty_record}

module _ (sheet : List ℕ) (right : sound sheet ≡ true) (has : has_records sheet ≡ true) where
  -- the calls make of a ring what adding the records that are taken makes of it
  pub calls_add : (all : List (List ℕ)) (ring : List ℕ) → ring_fits sheet ring ≡ true
      → ring_after sheet ring all ≡ added_all (record_area sheet) ring (taken (record_area sheet) all)
  unfolding ring_after added_all taken
  calls_add [] ring fitting = refl
  calls_add (bytes ∷ later) ring fitting =
      calls_add later (add_outcome sheet ring bytes).ring (add_stays_fitting sheet ring bytes fitting)
      ∙ go (eqb (length bytes) (2 * (record_area sheet).words)) refl
    where
      go : (fits : Bool) → eqb (length bytes) (2 * (record_area sheet).words) ≡ fits
          → added_all (record_area sheet) (add_outcome sheet ring bytes).ring (taken (record_area sheet) later)
          ≡ added_all (record_area sheet) ring (cond fits (bytes ∷ taken (record_area sheet) later) (taken (record_area sheet) later))
      go true e =
          ap (λ (left : List ℕ). added_all (record_area sheet) left (taken (record_area sheet) later))
          (add_adds sheet ring bytes (add_done sheet ring bytes right has fitting (eqb-true (length bytes) (2 * (record_area sheet).words) e)))
      go false e =
          ap (λ (left : List ℕ). added_all (record_area sheet) left (taken (record_area sheet) later)) (add_wrong_length sheet ring bytes e)

  -- zeros are an empty ring
  pub zeros_fit : ring_fits sheet (zeros_of (record_area sheet)) ≡ true
  zeros_fit =
      sound_fits sheet (zeros_of (record_area sheet)) has (zeros_sound (record_area sheet) (records_rules sheet right has).count_low)

  -- from an empty ring
  module _ (ring : List ℕ) (fitting : ring_fits sheet ring ≡ true) (empty : stored_count ring ≡ 0) (all : List (List ℕ)) where
    abbrev records_taken : List (List ℕ)
    records_taken = taken (record_area sheet) all

    pub calls_count : stored_count (ring_after sheet ring all) ≡ lesser (length records_taken) (record_area sheet).records
    calls_count =
        ap stored_count (calls_add all ring fitting)
        ∙ from_empty_count (record_area sheet) ring (fits_sound sheet ring has fitting) empty records_taken

    pub calls_record : (k : ℕ) → 1 ≤ k → k ≤ stored_count (ring_after sheet ring all)
        → record_of (record_area sheet) (ring_after sheet ring all) k ≡ words_in (record_area sheet) (get_or records_taken (length records_taken - k) [])
    calls_record k least held =
        ap (λ (left : List ℕ). record_of (record_area sheet) left k) (calls_add all ring fitting)
        ∙ from_empty_record (record_area sheet) ring (fits_sound sheet ring has fitting) empty records_taken k least
        (rw (calls_add all ring fitting) at held)
