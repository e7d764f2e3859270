-- The places of a ring: the next one, the one of each record by its number, and the words that the record at a place has, in plain numbers.
-- Assumes nothing.
use mathlib.Core.Path.{◌≡◌, refl, sym, ap, ◌∙◌}
use mathlib.Core.Bool.{Bool, true, false, cond}
use mathlib.Core.List.{List}
use Prim.Native.Nat.{ℕ, ◌+◌, ◌-◌, ◌*◌, ◌%◌, ◌≤◌, ◌<◌}
use native.Mathlib.Omega.{arith}
use native.Mathlib.Nat.{mod-lt, mod-eq_of_lt, mod_self, add-mod_right, mul-le-mul_right, add-mul, one-mul}
use lib.Dec.{eqb, ltb}
use lib.ListN.{length}
use borrow.Author.Tests.{eq-eqb, ne_eqb, lt-ltb, le-ltb, ltb-true, ltb-false}
use Rattle.sheet_rules.specs.declared.RecordArea.{RecordArea}
use Rattle.ring_rules.specs.Ring.{newest_place, stored_count, ring_bytes, record_start, next_place, next_count}

-- ---- numbers of places

-- so many back from a place, round from place 0 to the last
module _ (places at back : ℕ) (inside : at < places) where
  pub back_straight : back ≤ at → (at + places - back) % places ≡ at - back
  back_straight enough =
      ap (λ (n : ℕ). n % places) split ∙ add-mod_right (at - back) places ∙ mod-eq_of_lt (omega arith)
    where
      split : at + places - back ≡ at - back + places
      split = omega arith

  pub back_round : at < back → back ≤ places → (at + places - back) % places ≡ at + places - back
  back_round short some = mod-eq_of_lt (omega arith)

  -- one that is back by some, and by fewer than there are, is another place
  pub back_apart : 1 ≤ back → back < places → (at + places - back) % places ≡ at → ⊥
  back_apart some few same = go (ltb at back) refl
    where
      go : (round : Bool) → ltb at back ≡ round → ⊥
      go true e =
          let here = sym same ∙ back_round (ltb-true at back e) (omega arith) in
          omega arith
      go false e =
          let here = sym same ∙ back_straight (ltb-false at back e) in
          omega (arith, ltb-false at back e)

-- ---- the next place and the next count: rules T30 and T31

module _ (records : RecordArea) (ring : List ℕ) where
  pub first_place_lem : stored_count ring ≡ 0 → next_place records ring ≡ 0
  first_place_lem none = simp (eq-eqb (stored_count ring) 0 none)

  pub behind_newest : (stored_count ring ≡ 0 → ⊥) → newest_place ring + 1 < records.records → next_place records ring ≡ newest_place ring + 1
  behind_newest some room = simp (ne_eqb (stored_count ring) 0 some) (mod-eq_of_lt room)

  pub round_to_first : (stored_count ring ≡ 0 → ⊥) → newest_place ring + 1 ≡ records.records → next_place records ring ≡ 0
  round_to_first some last =
      simp (ne_eqb (stored_count ring) 0 some) (ap (λ (n : ℕ). n % records.records) last ∙ mod_self records.records)

  pub one_more : stored_count ring < records.records → next_count records ring ≡ stored_count ring + 1
  one_more room = simp (lt-ltb (stored_count ring) records.records room)

  pub still_full : stored_count ring ≡ records.records → next_count records ring ≡ records.records
  still_full full = simp (le-ltb (stored_count ring) records.records (omega arith))

  -- where there are records
  module _ (some : 1 ≤ records.records) where
    pub next_inside : next_place records ring < records.records
    next_inside = go (eqb (stored_count ring) 0)
      where
        go : (none : Bool) → cond none 0 ((newest_place ring + 1) % records.records) < records.records
        go true = some
        go false = mod-lt (newest_place ring + 1) some

    pub count_inside : stored_count ring ≤ records.records → next_count records ring ≤ records.records
    count_inside within = go (ltb (stored_count ring) records.records) refl
      where
        go : (room : Bool) → ltb (stored_count ring) records.records ≡ room → cond room (stored_count ring + 1) records.records ≤ records.records
        go true e = omega (arith, ltb-true (stored_count ring) records.records e)
        go false e = omega arith

    -- a ring to which a record was added is not empty
    pub count_some : 1 ≤ next_count records ring
    count_some = go (ltb (stored_count ring) records.records)
      where
        go : (room : Bool) → 1 ≤ cond room (stored_count ring + 1) records.records
        go true = omega arith
        go false = some

-- ---- the words of the record at a place: rule T2

module _ (records : RecordArea) where
  -- a place in front of another has all its words in front of the other's
  pub before_start : (place other : ℕ) → place < other → record_start records place + records.words ≤ record_start records other
  before_start place other front =
      omega (arith, mul-le-mul_right {m = place + 1} {n = other} records.words (omega arith), add-mul place 1 records.words, one-mul records.words)

  -- a word of the record at a place lies inside a ring that has its size
  pub word_inside : (ring : List ℕ) → length ring ≡ ring_bytes records → (place k : ℕ) → place < records.records → k < records.words
      → 2 * (record_start records place + k) + 1 < length ring
  word_inside ring size place k inside within = omega (arith, before_start place records.records inside)
