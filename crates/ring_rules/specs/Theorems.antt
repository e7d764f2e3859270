-- What the laws of a ring speak of beside it: the words of a record's bytes; records added one after another, and calls of adding, of which those with
-- a record of another length add nothing; the lesser of two numbers. The laws are in proofs/. Assumes nothing.
use Rattle.std.specs.Prelude.{ℕ, ◌*◌, cond, List, [], ◌∷◌, map, leb, eqb, length}
use Rattle.words.specs.Words.{word_at}
use Rattle.lists.specs.Lists.{up_from}
use Rattle.sheet_rules.specs.declared.RecordArea.{RecordArea}
use Rattle.ring_rules.specs.Ring.{added}
use Rattle.ring_rules.specs.Calls.{add_outcome}

-- the words that a record's bytes hold
abbrev pub words_in : RecordArea → List ℕ → List ℕ
words_in records bytes = map (λ k. word_at bytes (2 * k)) (up_from 0 records.words)

-- the ring after records were added, the first of the list first
unfoldable pub added_all : RecordArea → List ℕ → List (List ℕ) → List ℕ
added_all records ring [] = ring
added_all records ring (bytes ∷ later) = added_all records (added records ring bytes) later

-- the ring after calls of adding, the first of the list first
unfoldable pub ring_after : List ℕ → List ℕ → List (List ℕ) → List ℕ
ring_after sheet ring [] = ring
ring_after sheet ring (bytes ∷ later) = ring_after sheet (add_outcome sheet ring bytes).ring later

-- the records of the right length
unfoldable pub taken : RecordArea → List (List ℕ) → List (List ℕ)
taken records [] = []
taken records (bytes ∷ later) = cond (eqb (length bytes) (2 * records.words)) (bytes ∷ taken records later) (taken records later)

abbrev pub lesser : ℕ → ℕ → ℕ
lesser a b = cond (leb a b) a b
