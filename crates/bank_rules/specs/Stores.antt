-- The effect of a call on a bank or on a ring: a list of stores, applied in order. Assumes nothing.
use Rattle.std.specs.Prelude.{ℕ, ◌*◌, List, [], ◌∷◌}
use Rattle.words.specs.Words.{word_at, with_word}

-- rules B2 and T1: the word at a place of a bank, and of a ring's words counted from 0
abbrev pub word_of : List ℕ → ℕ → ℕ
word_of lent place = word_at lent (2 * place)

-- a word that is stored at a place
pub record Store : Type 0 where
  pub place : ℕ
  pub word : ℕ

-- rules B2, K9 and T32: the bank, or the ring, after stores, the first one first; every other word stays
unfoldable pub stored : List ℕ → List Store → List ℕ
stored lent [] = lent
stored lent (store ∷ stores) = stored (with_word lent (2 * store.place) store.word) stores
