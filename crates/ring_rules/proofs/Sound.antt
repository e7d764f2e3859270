-- What a sound ring says, one by one, and that a ring of which all this holds is sound. Assumes nothing.
use mathlib.Core.Path.{◌≡◌, refl}
use mathlib.Core.Bool.{Bool, true, false, not, ◌&&◌, ◌||◌}
use mathlib.Core.List.{List}
use Prim.Native.Nat.{ℕ, ◌≤◌, ◌<◌}
use native.Mathlib.Omega.{arith}
use lib.Dec.{eqb}
use lib.ListN.{length}
use borrow.Author.Tests.{eqb-true, eqb-false, ltb-true, leb-true, eq-eqb, lt-ltb, le-leb}
use Rattle.lists.proofs.Tests.{first_of, second_of_lem}
use Rattle.sheet_rules.specs.declared.RecordArea.{RecordArea}
use Rattle.ring_rules.specs.Ring.{newest_place, stored_count, ring_bytes, size_rule, place_rule, count_rule, empty_rule, ring_sound}

module _ (records : RecordArea) (ring : List ℕ) where
  -- rules T10 to T13
  pub record SoundRing : Type 0 where
    pub size : length ring ≡ ring_bytes records
    pub place : newest_place ring < records.records
    pub count : stored_count ring ≤ records.records
    pub empty : stored_count ring ≡ 0 → newest_place ring ≡ 0

  empty_told : empty_rule ring ≡ true → stored_count ring ≡ 0 → newest_place ring ≡ 0
  empty_told e none = go (eqb (stored_count ring) 0) refl e
    where
      go : (zero : Bool) → eqb (stored_count ring) 0 ≡ zero → (not zero || eqb (newest_place ring) 0) ≡ true → newest_place ring ≡ 0
      go true z e = eqb-true (newest_place ring) 0 e
      go false z e = absurd (eqb-false (stored_count ring) 0 z none)

  told_empty : (stored_count ring ≡ 0 → newest_place ring ≡ 0) → empty_rule ring ≡ true
  told_empty empty = go (eqb (stored_count ring) 0) refl
    where
      go : (zero : Bool) → eqb (stored_count ring) 0 ≡ zero → (not zero || eqb (newest_place ring) 0) ≡ true
      go true z = eq-eqb (newest_place ring) 0 (empty (eqb-true (stored_count ring) 0 z))
      go false z = refl

  pub ring_told_lem : ring_sound records ring ≡ true → SoundRing
  unfolding ring_sound
  ring_told_lem e =
      let three = first_of (size_rule records ring && place_rule records ring && count_rule records ring) (empty_rule ring) e in
      let two = first_of (size_rule records ring && place_rule records ring) (count_rule records ring) three in
      record {
        size = eqb-true (length ring) (ring_bytes records) (first_of (size_rule records ring) (place_rule records ring) two);
        place = ltb-true (newest_place ring) records.records (second_of_lem (size_rule records ring) (place_rule records ring) two);
        count = leb-true (stored_count ring) records.records
            (second_of_lem (size_rule records ring && place_rule records ring) (count_rule records ring) three);
        empty = empty_told
            (second_of_lem (size_rule records ring && place_rule records ring && count_rule records ring) (empty_rule ring) e);
      }

  pub told_ring : SoundRing → ring_sound records ring ≡ true
  unfolding ring_sound
  told_ring told =
      simp (
        eq-eqb (length ring) (ring_bytes records) told.size,
        lt-ltb (newest_place ring) records.records told.place,
        le-leb (stored_count ring) records.records told.count,
        told_empty told.empty,
      )

  -- there is a record in its area
  pub some_record : ring_sound records ring ≡ true → 1 ≤ records.records
  some_record e = omega (arith, (ring_told_lem e).place)
