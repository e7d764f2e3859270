-- Words with some of them changed, as tables of cases say it. Assumes nothing.
use Rattle.std.specs.Prelude.{ℕ, ◌-◌, List, [], ◌∷◌, set}

-- another word at a number: an index, or an address
pub record Change : Type 0 where
  pub number : ℕ
  pub word : ℕ

abbrev pub at : ℕ → ℕ → Change
at number word = record { number = number; word = word }

-- words with others in their places, where the first one has the number of the origin; a number behind the last word changes nothing. One in front of the
-- origin is taken for the origin itself: no table has such a number.
unfoldable pub changed : ℕ → List ℕ → List Change → List ℕ
changed origin words [] = words
changed origin words (this ∷ behind) = changed origin (set words (this.number - origin) this.word) behind
