-- Records added one after another to a sound ring: how many are stored then, and which record has which number. From an empty ring the number
-- stored is the lesser of how many were added and the number of records, and record k is the k-th latest of them. Assumes nothing.
use mathlib.Core.Path.{◌≡◌, refl, sym, ap, ◌∙◌}
use mathlib.Core.Bool.{Bool, true, false, cond}
use mathlib.Core.List.{List, [], ◌∷◌}
use Prim.Native.Nat.{ℕ, suc, ◌+◌, ◌-◌, ◌≤◌}
use native.Mathlib.Omega.{arith}
use lib.Dec.{leb}
use lib.ListN.{length, get_or}
use borrow.Author.Tests.{leb-true, leb-false, le-leb}
use Rattle.sheet_rules.specs.declared.RecordArea.{RecordArea}
use Rattle.ring_rules.specs.Ring.{stored_count, ring_sound, record_of, added}
use Rattle.ring_rules.specs.Theorems.{words_in, added_all, lesser}
use Rattle.ring_rules.proofs.Sound.{ring_told_lem}
use Rattle.ring_rules.proofs.Kept.{stays_sound, count_is_lesser, some_stored, next_stored}
use Rattle.ring_rules.proofs.Records.{newest_is_added, others_go_on}

-- the lesser of two numbers
pub lesser_first : (a b : ℕ) → a ≤ b → lesser a b ≡ a
lesser_first a b less = simp (le-leb a b less)

pub lesser_second : (a b : ℕ) → b ≤ a → lesser a b ≡ b
lesser_second a b less = go (leb a b) refl
  where
    go : (first : Bool) → leb a b ≡ first → cond first a b ≡ b
    go true e = omega (arith, leb-true a b e)
    go false e = refl

-- it is at most each, and what is at most each is at most it
pub lesser_told : (k a b : ℕ) → k ≤ lesser a b → (k ≤ a) × (k ≤ b)
lesser_told k a b most = go (leb a b) refl most
  where
    go : (first : Bool) → leb a b ≡ first → k ≤ cond first a b → (k ≤ a) × (k ≤ b)
    go true e most = (most, omega (arith, leb-true a b e))
    go false e most = (omega (arith, leb-false a b e), most)

module _ (records : RecordArea) where
  pub all_stay_sound : (all : List (List ℕ)) (ring : List ℕ) → ring_sound records ring ≡ true → ring_sound records (added_all records ring all) ≡ true
  unfolding added_all
  all_stay_sound [] ring whole = whole
  all_stay_sound (bytes ∷ later) ring whole = all_stay_sound later (added records ring bytes) (stays_sound records ring bytes whole)

  -- how many are stored: as many more, up to the number of records
  pub count_after_all : (all : List (List ℕ)) (ring : List ℕ) → ring_sound records ring ≡ true
      → stored_count (added_all records ring all) ≡ lesser (stored_count ring + length all) records.records
  unfolding added_all
  count_after_all [] ring whole =
      let same : stored_count ring + 0 ≡ stored_count ring = omega arith in
      sym (ap (λ (n : ℕ). lesser n records.records) same ∙ lesser_first (stored_count ring) records.records (ring_told_lem records ring whole).count)
  count_after_all (bytes ∷ later) ring whole =
      count_after_all later (added records ring bytes) (stays_sound records ring bytes whole)
      ∙ ap (λ (n : ℕ). lesser (n + length later) records.records) (count_is_lesser records ring bytes whole)
      ∙ again (stored_count ring) (length later) records.records
    where
      again : (n more most : ℕ) → lesser (lesser (n + 1) most + more) most ≡ lesser (n + suc more) most
      again n more most = go (leb (n + 1) most) refl
        where
          go : (first : Bool) → leb (n + 1) most ≡ first → lesser (cond first (n + 1) most + more) most ≡ lesser (n + suc more) most
          go true e =
              let same : n + 1 + more ≡ n + suc more = omega arith in
              ap (λ (m : ℕ). lesser m most) same
          go false e =
              let over = leb-false (n + 1) most e in
              lesser_second (most + more) most (omega arith) ∙ sym (lesser_second (n + suc more) most (omega arith))

  -- a record that is stored keeps its words, and goes on by one number for each that is added behind it, as long as there is room
  pub goes_on : (later : List (List ℕ)) (ring : List ℕ) → ring_sound records ring ≡ true
      → (k : ℕ) → 1 ≤ k → k ≤ stored_count ring → k + length later ≤ records.records
      → record_of records (added_all records ring later) (k + length later) ≡ record_of records ring k
  unfolding added_all
  goes_on [] ring whole k least held room =
      let same : k + 0 ≡ k = omega arith in
      ap (record_of records ring) same
  goes_on (bytes ∷ later) ring whole k least held room =
      let same : k + suc (length later) ≡ k + 1 + length later = omega arith in
      ap (record_of records (added_all records (added records ring bytes) later)) same
      ∙ goes_on later (added records ring bytes) (stays_sound records ring bytes whole) (k + 1) (omega arith)
      (next_stored records ring bytes whole k held (omega arith)) (omega arith)
      ∙ others_go_on records ring bytes whole k least held (omega arith)

  -- record k is the k-th latest of those added
  pub kth_latest : (all : List (List ℕ)) (ring : List ℕ) → ring_sound records ring ≡ true
      → (k : ℕ) → 1 ≤ k → k ≤ length all → k ≤ records.records
      → record_of records (added_all records ring all) k ≡ words_in records (get_or all (length all - k) [])
  unfolding added_all
  kth_latest [] ring whole k least within room = absurd (omega arith)
  kth_latest (bytes ∷ later) ring whole k least within room =
      go (leb k (length later)) refl
      (λ inside. kth_latest later (added records ring bytes) (stays_sound records ring bytes whole) k least inside room)
    where
      go : (among : Bool) → leb k (length later) ≡ among
          → (k ≤ length later
          → record_of records (added_all records (added records ring bytes) later) k ≡ words_in records (get_or later (length later - k) []))
          → record_of records (added_all records (added records ring bytes) later) k ≡ words_in records (get_or (bytes ∷ later) (suc (length later) - k) [])
      go true e rest =
          let inside = leb-true k (length later) e in
          let next : suc (length later - k) ≡ suc (length later) - k = omega arith in
          rest inside ∙ ap (λ (n : ℕ). words_in records (get_or (bytes ∷ later) n [])) next
      go false e rest =
          let past = leb-false k (length later) e in
          let same : k ≡ 1 + length later = omega arith in
          let front : 0 ≡ suc (length later) - k = omega arith in
          ap (record_of records (added_all records (added records ring bytes) later)) same
          ∙ goes_on later (added records ring bytes) (stays_sound records ring bytes whole) 1 (omega arith) (some_stored records ring bytes whole) (omega arith)
          ∙ newest_is_added records ring bytes whole
          ∙ ap (λ (n : ℕ). words_in records (get_or (bytes ∷ later) n [])) front

-- from an empty ring
module _ (records : RecordArea) (ring : List ℕ) (whole : ring_sound records ring ≡ true) (empty : stored_count ring ≡ 0) (all : List (List ℕ)) where
  pub from_empty_count : stored_count (added_all records ring all) ≡ lesser (length all) records.records
  from_empty_count =
      count_after_all records all ring whole ∙ ap (λ (n : ℕ). lesser (n + length all) records.records) empty
      ∙ ap (λ (n : ℕ). lesser n records.records) none
    where
      none : 0 + length all ≡ length all
      none = omega arith

  pub from_empty_record : (k : ℕ) → 1 ≤ k → k ≤ stored_count (added_all records ring all)
      → record_of records (added_all records ring all) k ≡ words_in records (get_or all (length all - k) [])
  from_empty_record k least held =
      let within = lesser_told k (length all) records.records (omega (arith, from_empty_count)) in
      kth_latest records all ring whole k least within.0 within.1
