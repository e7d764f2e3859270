-- The ring: its two words, its size, a sound ring, where each record lies, and the stores of adding one. Assumes nothing.
use Rattle.std.specs.Prelude.{ℕ, ◌+◌, ◌-◌, ◌*◌, ◌%◌, Bool, not, cond, ◌&&◌, ◌||◌, List, [], ◌∷◌, ◌++◌, map, leb, ltb, eqb, length}
use Rattle.words.specs.Words.{word_at}
use Rattle.lists.specs.Lists.{up_from}
use Rattle.sheet_rules.specs.declared.RecordArea.{RecordArea}
use Rattle.bank_rules.specs.Stores.{Store, word_of, stored}

-- rule T1, the first two words: at which place the newest record stands, and how many are stored
abbrev pub newest_place : List ℕ → ℕ
newest_place ring = word_of ring 0

abbrev pub stored_count : List ℕ → ℕ
stored_count ring = word_of ring 1

-- rule T2: the records stand behind the two words, and a ring has room for each record of its area
abbrev pub ring_bytes : RecordArea → ℕ
ring_bytes records = 2 * (2 + records.records * records.words)

-- ---- a sound ring

-- rule T10
abbrev pub size_rule : RecordArea → List ℕ → Bool
size_rule records ring = eqb (length ring) (ring_bytes records)

-- rule T11
abbrev pub place_rule : RecordArea → List ℕ → Bool
place_rule records ring = ltb (newest_place ring) records.records

-- rule T12
abbrev pub count_rule : RecordArea → List ℕ → Bool
count_rule records ring = leb (stored_count ring) records.records

-- rule T13
abbrev pub empty_rule : List ℕ → Bool
empty_rule ring = not (eqb (stored_count ring) 0) || eqb (newest_place ring) 0

unfoldable pub ring_sound : RecordArea → List ℕ → Bool
ring_sound records ring = size_rule records ring && place_rule records ring && count_rule records ring && empty_rule ring

-- ---- the records

-- rule T20: the place of a record by its number, from the newest one back, round from place 0 to the last
abbrev pub place_of : RecordArea → List ℕ → ℕ → ℕ
place_of records ring number = (newest_place ring + records.records - (number - 1)) % records.records

-- rule T2: the word of the ring at which the record at a place begins
abbrev pub record_start : RecordArea → ℕ → ℕ
record_start records place = 2 + place * records.words

-- rule T21: the words of the record at a place, and of a record by its number
abbrev pub record_at : RecordArea → List ℕ → ℕ → List ℕ
record_at records ring place = map (word_of ring) (up_from (record_start records place) records.words)

abbrev pub record_of : RecordArea → List ℕ → ℕ → List ℕ
record_of records ring number = record_at records ring (place_of records ring number)

-- ---- adding a record

-- rule T30: the place of the next record
abbrev pub next_place : RecordArea → List ℕ → ℕ
next_place records ring = cond (eqb (stored_count ring) 0) 0 ((newest_place ring + 1) % records.records)

-- rule T31: how many are stored with it
abbrev pub next_count : RecordArea → List ℕ → ℕ
next_count records ring = cond (ltb (stored_count ring) records.records) (stored_count ring + 1) records.records

-- the k-th word of the record's bytes, in the record at a place
abbrev pub record_store : RecordArea → ℕ → List ℕ → ℕ → Store
record_store records place bytes k = record { place = record_start records place + k; word = word_at bytes (2 * k) }

-- rules T30 to T32: the record's words at their place, then the two words
unfoldable pub add_stores : RecordArea → List ℕ → List ℕ → List Store
add_stores records ring bytes =
    map (record_store records (next_place records ring) bytes) (up_from 0 records.words)
    ++ (record { place = 0; word = next_place records ring } ∷ record { place = 1; word = next_count records ring } ∷ [])

-- the ring with a record added
unfoldable pub added : RecordArea → List ℕ → List ℕ → List ℕ
added records ring bytes = stored ring (add_stores records ring bytes)

-- rule N7, of a record's bytes
abbrev pub wrong_record : RecordArea → List ℕ → Bool
wrong_record records bytes = not (eqb (length bytes) (2 * records.words))
