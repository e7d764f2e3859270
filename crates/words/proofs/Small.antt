-- A word of bytes is below 10000, and what is made of bytes and of such words is bytes. Assumes nothing.
use mathlib.Core.Path.{◌≡◌, refl, sym, subst}
use mathlib.Core.Bool.{Bool, true, false, cond, ◌&&◌, false≢true}
use mathlib.Core.List.{List, [], ◌∷◌, ◌++◌, map}
use Prim.Native.Nat.{ℕ, zero, suc, ◌+◌, ◌*◌, ◌<◌}
use native.Mathlib.Omega.{arith}
use lib.Dec.{T, ltb}
use lib.ListN.{length, set, drop}
use lib.Seq.{get_or-drop}
use lib.Pow.{are_bytes}
use borrow.Author.Tests.{lt-ltb, ltb-true}
use Rattle.words.specs.Words.{Bytes, byte_at, word_at, upper, lower, word_bytes, with_word, bytes_of}

pub word_below : (bytes : List ℕ) → Bytes bytes → (at : ℕ) → word_at bytes at < 0x10000
unfolding word_at
word_below bytes small at = omega (arith, small at, small (at + 1))

-- as the kit tests it, and back: the test is computed
pub are_bytes_lem : (bytes : List ℕ) → Bytes bytes → T (are_bytes bytes)
are_bytes_lem [] small = tt
are_bytes_lem (byte ∷ behind) small = go (ltb byte 256) (lt-ltb byte 256 (small 0)) (are_bytes_lem behind (λ at. small (suc at)))
  where
    go : (here : Bool) → here ≡ true → T (are_bytes behind) → T (here && are_bytes behind)
    go true e t = t
    go false e t = absurd (false≢true e)

pub tested_bytes : (bytes : List ℕ) → T (are_bytes bytes) → Bytes bytes
tested_bytes [] t at = omega arith
tested_bytes (byte ∷ behind) t at = go (ltb byte 256) refl t at (tested_bytes behind)
  where
    go : (here : Bool) → ltb byte 256 ≡ here → T (here && are_bytes behind) → (at : ℕ) → (T (are_bytes behind) → Bytes behind)
        → byte_at (byte ∷ behind) at < 256
    go true e t zero again = ltb-true byte 256 e
    go true e t (suc at) again = again t at
    go false e t at again = absurd t

pub bytes_none : Bytes []
bytes_none at = omega arith

pub bytes_one : (byte : ℕ) (behind : List ℕ) → byte < 256 → Bytes behind → Bytes (byte ∷ behind)
bytes_one byte behind first rest zero = first
bytes_one byte behind first rest (suc at) = rest at

pub bytes_both : (front back : List ℕ) → Bytes front → Bytes back → Bytes (front ++ back)
bytes_both [] back first rest = rest
bytes_both (byte ∷ front) back first rest =
    bytes_one byte (front ++ back) (first 0) (bytes_both front back (λ at. first (suc at)) rest)

pub bytes_behind : (n : ℕ) (bytes : List ℕ) → Bytes bytes → Bytes (drop n bytes)
bytes_behind n bytes small at = subst (λ (byte : ℕ). byte < 256) (sym (get_or-drop n bytes at 0)) (small (n + at))

pub bytes_set : (bytes : List ℕ) (at byte : ℕ) → byte < 256 → Bytes bytes → Bytes (set bytes at byte)
bytes_set [] at byte fits small = small
bytes_set (first ∷ behind) zero byte fits small = bytes_one byte behind fits (λ k. small (suc k))
bytes_set (first ∷ behind) (suc at) byte fits small =
    bytes_one first (set behind at byte) (small 0) (bytes_set behind at byte fits (λ k. small (suc k)))

-- a word as bytes, stored as bytes, and words out of bytes as bytes again
pub bytes_word : (word : ℕ) → word < 0x10000 → Bytes (word_bytes word)
bytes_word word fits =
    bytes_one (upper word) (lower word ∷ []) (omega (arith, fits)) (bytes_one (lower word) [] (omega arith) bytes_none)

pub bytes_stored : (bytes : List ℕ) (at word : ℕ) → word < 0x10000 → Bytes bytes → Bytes (with_word bytes at word)
unfolding with_word
bytes_stored bytes at word fits small = go (ltb (at + 1) (length bytes))
  where
    go : (inside : Bool) → Bytes (cond inside (set (set bytes at (upper word)) (at + 1) (lower word)) bytes)
    go true =
        bytes_set (set bytes at (upper word)) (at + 1) (lower word) (omega arith)
        (bytes_set bytes at (upper word) (omega (arith, fits)) small)
    go false = small

pub bytes_words : (source : List ℕ) → Bytes source → (places : List ℕ) → Bytes (bytes_of (map (λ place. word_at source (2 * place)) places))
unfolding bytes_of
bytes_words source small [] = bytes_none
bytes_words source small (place ∷ places) =
    let word : ℕ = word_at source (2 * place) in
    bytes_both (word_bytes word) (bytes_of (map (λ p. word_at source (2 * p)) places)) (bytes_word word (word_below source small (2 * place)))
    (bytes_words source small places)
