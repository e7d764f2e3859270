-- The words of a read, one more at the end, and how many bytes a reply has. Assumes nothing.
use mathlib.Core.Path.{◌≡◌, refl, sym, ap, ◌∙◌}
use mathlib.Core.Bool.{Bool, true, false, cond}
use mathlib.Core.List.{List, [], ◌∷◌, ◌++◌}
use Prim.Native.Nat.{ℕ, zero, suc, ◌+◌, ◌*◌, ◌/◌, ◌%◌}
use native.Mathlib.Numerals.{add-one}
use native.Mathlib.Nat.{add-zero, add-suc, suc-add}
use native.Mathlib.Omega.{arith}
use lib.Dec.{eqb}
use lib.ListN.{length, length-append}
use borrow.Author.Tests.{eqb-true}
use Rattle.lists.specs.Lists.{up_from}
use Rattle.words.specs.Words.{word_at, word_bytes, bytes_of}
use Rattle.words.proofs.Bytes.{bytes_more, bytes_length}
use Rattle.check_value.specs.Check.{value_of}
use Rattle.frame.specs.Frame.{function, second, start, station, writes_many}
use Rattle.frame.specs.Reply.{words_from, read_reply, with_check, echo, write_reply}

module _ (source : List ℕ) where
  words_suc : (first k : ℕ) → words_from source first (suc k) ≡ words_from source first k ++ (word_at source (2 * (first + k)) ∷ [])
  unfolding up_from
  words_suc first zero = ap (λ (n : ℕ). word_at source (2 * n) ∷ []) (sym (add-zero first))
  words_suc first (suc k) =
      ap (λ (l : List ℕ). word_at source (2 * first) ∷ l)
      (words_suc (suc first) k
      ∙ ap (λ (n : ℕ). words_from source (suc first) k ++ (word_at source (2 * n) ∷ [])) (suc-add first k ∙ sym (add-suc first k)))

  pub words_more : (first k : ℕ)
      → bytes_of (words_from source first (k + 1)) ≡ bytes_of (words_from source first k) ++ word_bytes (word_at source (2 * (first + k)))
  words_more first k =
      ap (λ (n : ℕ). bytes_of (words_from source first n)) (add-one k) ∙ ap bytes_of (words_suc first k)
      ∙ bytes_more (words_from source first k) (word_at source (2 * (first + k)))

  words_count : (first many : ℕ) → length (words_from source first many) ≡ many
  unfolding up_from
  words_count first zero = refl
  words_count first (suc many) = ap suc (words_count (suc first) many)

  pub words_length : (first many : ℕ) → length (bytes_of (words_from source first many)) ≡ 2 * many
  words_length first many = bytes_length (words_from source first many) ∙ ap (λ (n : ℕ). 2 * n) (words_count first many)

  pub read_length : (frame : List ℕ) (first many : ℕ) → length (read_reply source frame first many) ≡ 3 + 2 * many
  read_length frame first many = omega (arith, words_length first many)

pub check_length : (bytes : List ℕ) → length (with_check bytes) ≡ length bytes + 2
unfolding with_check
check_length bytes = length-append bytes (value_of bytes % 256 ∷ value_of bytes / 256 ∷ [])

-- a good write of either function is answered by its first six bytes
pub write_echo : (frame : List ℕ) → echo frame ≡ write_reply frame
write_echo frame = go (eqb (function frame) writes_many) refl
  where
    go : (b : Bool) → eqb (function frame) writes_many ≡ b
        → echo frame ≡ cond b (station frame ∷ writes_many ∷ word_bytes (start frame) ++ word_bytes (second frame)) (echo frame)
    go true e =
        ap (λ (code : ℕ). station frame ∷ code ∷ word_bytes (start frame) ++ word_bytes (second frame))
        (eqb-true (function frame) writes_many e)
    go false e = refl
