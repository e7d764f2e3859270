-- An empty ring: one of the right size with two words of 0 is sound, whatever the records' bytes are; so are zeros throughout. Assumes nothing.
use mathlib.Core.Path.{◌≡◌, ap₂}
use mathlib.Core.Bool.{true}
use mathlib.Core.List.{List}
use Prim.Native.Nat.{ℕ, ◌+◌, ◌*◌, ◌≤◌}
use native.Mathlib.Omega.{arith}
use lib.ListN.{length, replicate, length-replicate, get_or-replicate}
use Rattle.words.specs.Words.{word_at}
use Rattle.sheet_rules.specs.declared.RecordArea.{RecordArea}
use Rattle.bank_rules.specs.Stores.{word_of}
use Rattle.ring_rules.specs.Ring.{newest_place, stored_count, ring_bytes, ring_sound}
use Rattle.ring_rules.proofs.Sound.{told_ring}

-- as many zeros as a ring has bytes
abbrev pub zeros_of : RecordArea → List ℕ
zeros_of records = replicate (ring_bytes records) 0

module _ (records : RecordArea) (some : 1 ≤ records.records) where
  pub empty_sound : (ring : List ℕ) → length ring ≡ ring_bytes records → newest_place ring ≡ 0 → stored_count ring ≡ 0 → ring_sound records ring ≡ true
  empty_sound ring size first none =
      told_ring records ring
      (record {
        size = size;
        place = omega arith;
        count = omega arith;
        empty = λ e. first;
      })

  zero_word : (at : ℕ) → at ≤ 1 → word_of (zeros_of records) at ≡ 0
  unfolding word_at
  zero_word at first =
      ap₂ (λ (u l : ℕ). u * 256 + l) (get_or-replicate (ring_bytes records) (2 * at) 0 0 (omega arith))
      (get_or-replicate (ring_bytes records) (2 * at + 1) 0 0 (omega arith))

  pub zeros_empty : stored_count (zeros_of records) ≡ 0
  zeros_empty = zero_word 1 (omega arith)

  pub zeros_sound : ring_sound records (zeros_of records) ≡ true
  zeros_sound = empty_sound (zeros_of records) (length-replicate (ring_bytes records) 0) (zero_word 0 (omega arith)) zeros_empty
