-- The vocabulary of lists in which the rules are written: each and some of a list, numbers one after the other, rows by their index.
-- Total and computable. Assumes nothing.
use Rattle.std.specs.Prelude.{ℕ, zero, suc, Bool, true, false, ◌&&◌, ◌||◌, List, [], ◌∷◌, leb, eqb}

-- a number lies between two others, or is one of them
abbrev pub between : ℕ → ℕ → ℕ → Bool
between low high n = leb low n && leb n high

-- a rule holds of each row, and of some row
unfoldable pub each : {A : Type 0} → (A → Bool) → List A → Bool
each rule [] = true
each rule (row ∷ rest) = rule row && each rule rest

unfoldable pub some : {A : Type 0} → (A → Bool) → List A → Bool
some rule [] = false
some rule (row ∷ rest) = rule row || some rule rest

-- so many numbers, one after the other, from a first one on
unfoldable pub up_from : ℕ → ℕ → List ℕ
up_from first zero = []
up_from first (suc count) = first ∷ up_from (suc first) count

-- two lists of places are the same
unfoldable pub same_places : List ℕ → List ℕ → Bool
same_places [] [] = true
same_places [] (there ∷ others) = false
same_places (here ∷ places) [] = false
same_places (here ∷ places) (there ∷ others) = eqb here there && same_places places others

-- so many rows, from the one at an index on
unfoldable pub rows : {A : Type 0} → (ℕ → A) → ℕ → ℕ → List A
rows row k zero = []
rows row k (suc count) = row k ∷ rows row (suc k) count
