-- Words as bytes: one more at the end, and how many bytes they are. Assumes nothing.
use mathlib.Core.Path.{◌≡◌, refl, ap, ◌∙◌}
use mathlib.Core.List.{List, [], ◌∷◌, ◌++◌}
use Prim.Native.Nat.{ℕ, suc, ◌*◌}
use native.Mathlib.Omega.{arith}
use lib.ListN.{length}
use Rattle.words.specs.Words.{word_bytes, bytes_of}

pub bytes_more : (words : List ℕ) (word : ℕ) → bytes_of (words ++ (word ∷ [])) ≡ bytes_of words ++ word_bytes word
unfolding bytes_of
bytes_more [] word = refl
bytes_more (first ∷ behind) word = ap (λ (l : List ℕ). word_bytes first ++ l) (bytes_more behind word)

pub bytes_length : (words : List ℕ) → length (bytes_of words) ≡ 2 * length words
unfolding bytes_of
bytes_length [] = refl
bytes_length (first ∷ behind) = ap (λ (n : ℕ). suc (suc n)) (bytes_length behind) ∙ omega arith
