-- A sound ring after a record was added, whatever its bytes: it is sound again; where the record stands, and how many are stored then, in plain
-- numbers. Assumes nothing.
use mathlib.Core.Path.{◌≡◌, refl, sym, ap, ◌∙◌}
use mathlib.Core.Bool.{Bool, true, false, cond}
use mathlib.Core.List.{List}
use Prim.Native.Nat.{ℕ, ◌+◌, ◌≤◌, ◌<◌}
use native.Mathlib.Omega.{arith}
use lib.Dec.{leb, ltb}
use borrow.Author.Tests.{le-leb, lt-leb, ltb-true, ltb-false}
use Rattle.sheet_rules.specs.declared.RecordArea.{RecordArea}
use Rattle.ring_rules.specs.Ring.{newest_place, stored_count, ring_sound, next_place, next_count, added}
use Rattle.ring_rules.specs.Theorems.{lesser}
use Rattle.ring_rules.proofs.Sound.{SoundRing, ring_told_lem, told_ring, some_record}
use Rattle.ring_rules.proofs.Places.{first_place_lem, behind_newest, round_to_first, one_more, still_full, next_inside, count_inside, count_some}
use Rattle.ring_rules.proofs.Adding.{added_length, newest_added, count_added}

module _ (records : RecordArea) (ring bytes : List ℕ) (whole : ring_sound records ring ≡ true) where
  told : SoundRing records ring
  told = ring_told_lem records ring whole

  some : 1 ≤ records.records
  some = some_record records ring whole

  -- rules T30 and T31: the two words afterwards
  pub newest_after : newest_place (added records ring bytes) ≡ next_place records ring
  newest_after = newest_added records ring bytes told.size some

  pub count_after : stored_count (added records ring bytes) ≡ next_count records ring
  count_after = count_added records ring bytes told.size some

  pub stays_sound : ring_sound records (added records ring bytes) ≡ true
  stays_sound =
      told_ring records (added records ring bytes)
      (record {
        size = added_length records ring bytes ∙ told.size;
        place = omega (arith, newest_after, next_inside records ring some);
        count = omega (arith, count_after, count_inside records ring some told.count);
        empty = λ none. absurd (omega (arith, count_after, count_some records ring some));
      })

  -- ---- how many are stored

  pub stores_one_more : stored_count ring < records.records → stored_count (added records ring bytes) ≡ stored_count ring + 1
  stores_one_more room = count_after ∙ one_more records ring room

  pub stays_full : stored_count ring ≡ records.records → stored_count (added records ring bytes) ≡ records.records
  stays_full full = count_after ∙ still_full records ring full

  -- the lesser of one more and the number of records
  pub count_is_lesser : stored_count (added records ring bytes) ≡ lesser (stored_count ring + 1) records.records
  count_is_lesser = go (ltb (stored_count ring) records.records) refl
    where
      go : (room : Bool) → ltb (stored_count ring) records.records ≡ room
          → stored_count (added records ring bytes) ≡ lesser (stored_count ring + 1) records.records
      go true e =
          let less = ltb-true (stored_count ring) records.records e in
          let fits : leb (stored_count ring + 1) records.records ≡ true = le-leb (stored_count ring + 1) records.records (omega arith) in
          stores_one_more less ∙ sym (ap (λ (b : Bool). cond b (stored_count ring + 1) records.records) fits)
      go false e =
          let most = ltb-false (stored_count ring) records.records e in
          let over : leb (stored_count ring + 1) records.records ≡ false = lt-leb (stored_count ring + 1) records.records (omega arith) in
          stays_full (omega (arith, told.count)) ∙ sym (ap (λ (b : Bool). cond b (stored_count ring + 1) records.records) over)

  -- there is one, and one behind each that was stored where there is room
  pub some_stored : 1 ≤ stored_count (added records ring bytes)
  some_stored = omega (arith, count_after, count_some records ring some)

  pub next_stored : (k : ℕ) → k ≤ stored_count ring → k + 1 ≤ records.records → k + 1 ≤ stored_count (added records ring bytes)
  next_stored k held room = go (ltb (stored_count ring) records.records) refl
    where
      go : (less : Bool) → ltb (stored_count ring) records.records ≡ less → k + 1 ≤ stored_count (added records ring bytes)
      go true e = omega (arith, stores_one_more (ltb-true (stored_count ring) records.records e))
      go false e =
          let most = ltb-false (stored_count ring) records.records e in
          omega (arith, stays_full (omega (arith, told.count)))

  -- ---- the place of the newest record

  pub first_at_zero : stored_count ring ≡ 0 → newest_place (added records ring bytes) ≡ 0
  first_at_zero none = newest_after ∙ first_place_lem records ring none

  pub next_behind_newest : (stored_count ring ≡ 0 → ⊥) → newest_place ring + 1 < records.records
      → newest_place (added records ring bytes) ≡ newest_place ring + 1
  next_behind_newest stored room = newest_after ∙ behind_newest records ring stored room

  pub from_last_to_zero : (stored_count ring ≡ 0 → ⊥) → newest_place ring + 1 ≡ records.records → newest_place (added records ring bytes) ≡ 0
  from_last_to_zero stored last = newest_after ∙ round_to_first records ring stored last
