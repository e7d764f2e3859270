-- What adding a record leaves: the two words, the record's words at the next place, and every other byte and word as it was. Assumes nothing.
use mathlib.Core.Path.{◌≡◌, refl, ap, ap₂, ◌∙◌}
use mathlib.Core.List.{List, [], ◌∷◌, map}
use mathlib.Core.Logic.{◌⊎◌, inl, inr, ⊎_elim}
use Prim.Native.Nat.{ℕ, ◌+◌, ◌*◌, ◌≤◌, ◌<◌}
use native.Mathlib.Omega.{arith}
use lib.ListN.{length}
use Rattle.words.specs.Words.{byte_at, word_at, with_word}
use Rattle.words.proofs.Stores.{word_byte_other}
use Rattle.lists.specs.Lists.{up_from}
use Rattle.lists.proofs.Among.{Among, here, there, among_nil, among_cons, among_append, among_left}
use Rattle.sheet_rules.specs.declared.RecordArea.{RecordArea}
use Rattle.bank_rules.specs.Stores.{Store, word_of, stored}
use Rattle.bank_rules.proofs.Stores.{stored_length}
use Rattle.bank_rules.proofs.Latest.{latest, StoresInside, words_left, latest_append, latest_agreed}
use Rattle.bank_rules.proofs.Inside.{among_map, map_among, among_number, number_among}
use Rattle.ring_rules.specs.Ring.{newest_place, stored_count, ring_bytes, record_start, next_place, next_count, record_store, add_stores, added}
use Rattle.ring_rules.proofs.Places.{next_inside, word_inside}

-- a byte that is in no store stays
pub stored_byte_other : (ring : List ℕ) (stores : List Store) (at : ℕ)
    → ((store : Store) → Among store stores → (at ≡ 2 * store.place → ⊥) × (at ≡ 2 * store.place + 1 → ⊥))
    → byte_at (stored ring stores) at ≡ byte_at ring at
unfolding stored
stored_byte_other ring [] at none = refl
stored_byte_other ring (store ∷ stores) at none =
    stored_byte_other (with_word ring (2 * store.place) store.word) stores at (λ later m. none later (there m))
    ∙ word_byte_other ring (2 * store.place) store.word at (none store here).0 (none store here).1

module _ (records : RecordArea) (ring bytes : List ℕ) where
  -- rules T30 to T32, apart: the record's words, and the two words
  abbrev record_stores : List Store
  record_stores = map (record_store records (next_place records ring) bytes) (up_from 0 records.words)

  abbrev two_stores : List Store
  two_stores = record { place = 0; word = next_place records ring } ∷ record { place = 1; word = next_count records ring } ∷ []

  record_store_lem : {store : Store} → Among store record_stores
      → (k : ℕ) × (k < records.words) × (store ≡ record_store records (next_place records ring) bytes k)
  record_store_lem m =
      let found = among_map (record_store records (next_place records ring) bytes) (up_from 0 records.words) m in
      (found.0, among_number records.words found.1, found.2)

  two_store : {store : Store} → Among store two_stores → (store.place ≡ 0) ⊎ (store.place ≡ 1)
  two_store m =
      ⊎_elim (λ e. inl (ap (λ (s : Store). s.place) e))
      (λ r. ⊎_elim (λ e. inr (ap (λ (s : Store). s.place) e)) (λ none. absurd (among_nil none)) (among_cons r))
      (among_cons m)

  pub added_length : length (added records ring bytes) ≡ length ring
  unfolding added
  added_length = stored_length ring (add_stores records ring bytes)

  -- ---- what stays

  -- every byte behind the two words that is not the record's at the next place
  pub other_bytes_stay : (at : ℕ) → 4 ≤ at
      → (at < 2 * record_start records (next_place records ring)) ⊎ (2 * (record_start records (next_place records ring) + records.words) ≤ at)
      → byte_at (added records ring bytes) at ≡ byte_at ring at
  unfolding added add_stores
  other_bytes_stay at behind outside =
      stored_byte_other ring (add_stores records ring bytes) at
      (λ store m. ⊎_elim (λ n. of_record_lem store n) (λ n. of_two store n) (among_append record_stores two_stores m))
    where
      Apart : Store → Type 0
      Apart store = (at ≡ 2 * store.place → ⊥) × (at ≡ 2 * store.place + 1 → ⊥)

      of_record_lem : (store : Store) → Among store record_stores → Apart store
      of_record_lem store n =
          let found = record_store_lem n in
          let within : found.0 < records.words = found.1 in
          let place : store.place ≡ record_start records (next_place records ring) + found.0 = ap (λ (s : Store). s.place) found.2 in
          (λ e. ⊎_elim (λ o. omega arith) (λ o. omega arith) outside, λ e. ⊎_elim (λ o. omega arith) (λ o. omega arith) outside)

      of_two : (store : Store) → Among store two_stores → Apart store
      of_two store n =
          ⊎_elim (λ e. (λ f. omega arith, λ f. omega arith)) (λ e. (λ f. omega arith, λ f. omega arith)) (two_store n)

  -- every word behind the two that is not the record's at the next place
  pub other_words_stay : (at : ℕ) → 2 ≤ at
      → (at < record_start records (next_place records ring)) ⊎ (record_start records (next_place records ring) + records.words ≤ at)
      → word_of (added records ring bytes) at ≡ word_of ring at
  unfolding word_at
  other_words_stay at behind outside =
      ap₂ (λ (u l : ℕ). u * 256 + l) (other_bytes_stay (2 * at) (omega arith) (⊎_elim (λ o. inl (omega arith)) (λ o. inr (omega arith)) outside))
      (other_bytes_stay (2 * at + 1) (omega arith) (⊎_elim (λ o. inl (omega arith)) (λ o. inr (omega arith)) outside))

  -- ---- what is stored, in a ring that has its size

  module _ (size : length ring ≡ ring_bytes records) (some : 1 ≤ records.records) where
    add_stores_inside : StoresInside ring (add_stores records ring bytes)
    unfolding add_stores
    add_stores_inside store m = ⊎_elim of_record_lem of_two (among_append record_stores two_stores m)
      where
        of_record_lem : Among store record_stores → 2 * store.place + 1 < length ring
        of_record_lem n =
            let found = record_store_lem n in
            let place : store.place ≡ record_start records (next_place records ring) + found.0 = ap (λ (s : Store). s.place) found.2 in
            omega (arith, word_inside records ring size (next_place records ring) found.0 (next_inside records ring some) found.1)

        of_two : Among store two_stores → 2 * store.place + 1 < length ring
        of_two n = ⊎_elim (λ e. omega arith) (λ e. omega arith) (two_store n)

    after : (at : ℕ) → word_of (added records ring bytes) at ≡ latest two_stores at (latest record_stores at (word_of ring at))
    unfolding added add_stores
    after at = words_left ring (add_stores records ring bytes) add_stores_inside at ∙ latest_append record_stores two_stores at (word_of ring at)

    pub newest_added : newest_place (added records ring bytes) ≡ next_place records ring
    unfolding latest
    newest_added = after 0

    pub count_added : stored_count (added records ring bytes) ≡ next_count records ring
    unfolding latest
    count_added = after 1

    -- each word of the record stands at the next place
    pub record_added : (k : ℕ) → k < records.words
        → word_of (added records ring bytes) (record_start records (next_place records ring) + k) ≡ word_at bytes (2 * k)
    unfolding added add_stores
    record_added k inside =
        words_left ring (add_stores records ring bytes) add_stores_inside at
        ∙ latest_agreed at (word_at bytes (2 * k)) among refl agree (word_of ring at)
      where
        at : ℕ
        at = record_start records (next_place records ring) + k

        among : Among (record_store records (next_place records ring) bytes k) (add_stores records ring bytes)
        among = among_left two_stores (map_among (record_store records (next_place records ring) bytes) (number_among records.words inside))

        agree : (store : Store) → Among store (add_stores records ring bytes) → store.place ≡ at → store.word ≡ word_at bytes (2 * k)
        agree store m there_too = ⊎_elim of_record_lem of_two (among_append record_stores two_stores m)
          where
            of_record_lem : Among store record_stores → store.word ≡ word_at bytes (2 * k)
            of_record_lem n =
                let found = record_store_lem n in
                let place : store.place ≡ record_start records (next_place records ring) + found.0 = ap (λ (s : Store). s.place) found.2 in
                let same : found.0 ≡ k = omega arith in
                ap (λ (s : Store). s.word) found.2 ∙ ap (λ (n : ℕ). word_at bytes (2 * n)) same

            of_two : Among store two_stores → store.word ≡ word_at bytes (2 * k)
            of_two n = ⊎_elim (λ e. absurd (omega arith)) (λ e. absurd (omega arith)) (two_store n)
