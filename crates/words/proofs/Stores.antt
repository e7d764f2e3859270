-- A stored word reads back where it fits, and elsewhere nothing changes. Assumes nothing.
use mathlib.Core.Path.{◌≡◌, refl, ap, ap₂, ◌∙◌}
use mathlib.Core.Bool.{Bool, true, false, cond}
use mathlib.Core.List.{List}
use Prim.Native.Nat.{ℕ, ◌+◌, ◌*◌, ◌≤◌, ◌<◌}
use native.Mathlib.Omega.{arith}
use native.Mathlib.Nat.{div-add-mod'}
use lib.Dec.{ltb}
use lib.ListN.{length, get_or, set, length-set}
use lib.Seq.{get_or-set_same, get_or-set_other, set_out}
use borrow.Author.Tests.{lt-ltb, le-ltb}
use Rattle.words.specs.Words.{byte_at, word_at, with_byte, with_word, upper, lower}

pub byte_length : (bytes : List ℕ) (at byte : ℕ) → length (with_byte bytes at byte) ≡ length bytes
byte_length bytes at byte = length-set bytes at byte

pub byte_same : (bytes : List ℕ) (at byte : ℕ) → at < length bytes → byte_at (with_byte bytes at byte) at ≡ byte
byte_same bytes at byte inside = get_or-set_same bytes at byte 0 inside

pub byte_other : (bytes : List ℕ) (at byte k : ℕ) → (k ≡ at → ⊥) → byte_at (with_byte bytes at byte) k ≡ byte_at bytes k
byte_other bytes at byte k apart = get_or-set_other bytes at k byte 0 apart

pub byte_past : (bytes : List ℕ) (at byte : ℕ) → length bytes ≤ at → with_byte bytes at byte ≡ bytes
byte_past bytes at byte past = set_out bytes at byte past

-- where a word fits its two bytes are stored
pub word_fits : (bytes : List ℕ) (at word : ℕ) → at + 1 < length bytes
    → with_word bytes at word ≡ set (set bytes at (upper word)) (at + 1) (lower word)
unfolding with_word
word_fits bytes at word inside = simp (lt-ltb (at + 1) (length bytes) inside)

pub word_past : (bytes : List ℕ) (at word : ℕ) → length bytes ≤ at + 1 → with_word bytes at word ≡ bytes
unfolding with_word
word_past bytes at word past = simp (le-ltb (at + 1) (length bytes) past)

pub word_length : (bytes : List ℕ) (at word : ℕ) → length (with_word bytes at word) ≡ length bytes
unfolding with_word
word_length bytes at word = go (ltb (at + 1) (length bytes))
  where
    go : (fits : Bool) → length (cond fits (set (set bytes at (upper word)) (at + 1) (lower word)) bytes) ≡ length bytes
    go true = simp length-set
    go false = refl

pub word_byte_other : (bytes : List ℕ) (at word k : ℕ) → (k ≡ at → ⊥) → (k ≡ at + 1 → ⊥)
    → byte_at (with_word bytes at word) k ≡ byte_at bytes k
unfolding with_word
word_byte_other bytes at word k first second = go (ltb (at + 1) (length bytes))
  where
    go : (fits : Bool) → get_or (cond fits (set (set bytes at (upper word)) (at + 1) (lower word)) bytes) k 0 ≡ get_or bytes k 0
    go true =
        get_or-set_other (set bytes at (upper word)) (at + 1) k (lower word) 0 second
        ∙ get_or-set_other bytes at k (upper word) 0 first
    go false = refl

pub word_same : (bytes : List ℕ) (at word : ℕ) → at + 1 < length bytes → word_at (with_word bytes at word) at ≡ word
unfolding word_at
word_same bytes at word inside =
    ap (λ (l : List ℕ). get_or l at 0 * 256 + get_or l (at + 1) 0) (word_fits bytes at word inside)
    ∙ ap₂ (λ (u l : ℕ). u * 256 + l) first second ∙ div-add-mod' word 256
  where
    first : get_or (set (set bytes at (upper word)) (at + 1) (lower word)) at 0 ≡ upper word
    first =
        get_or-set_other (set bytes at (upper word)) (at + 1) at (lower word) 0 (λ e. omega arith)
        ∙ get_or-set_same bytes at (upper word) 0 (omega arith)

    second : get_or (set (set bytes at (upper word)) (at + 1) (lower word)) (at + 1) 0 ≡ lower word
    second =
        get_or-set_same (set bytes at (upper word)) (at + 1) (lower word) 0 (simp length-set (omega arith))

-- a word that shares no byte with the stored one
pub word_other : (bytes : List ℕ) (at word k : ℕ) → (k ≡ at → ⊥) → (k ≡ at + 1 → ⊥) → (k + 1 ≡ at → ⊥)
    → word_at (with_word bytes at word) k ≡ word_at bytes k
unfolding word_at
word_other bytes at word k apart behind before =
    ap₂ (λ (u l : ℕ). u * 256 + l) (word_byte_other bytes at word k apart behind)
    (word_byte_other bytes at word (k + 1) before (λ e. apart (omega arith)))
