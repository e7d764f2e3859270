-- Appending to a line: text behind text, and the line of a text. Assumes nothing.
use Prim.Native.Nat.{ℕ, zero, suc, ◌+◌, ◌≤◌, ◌<◌, min}
use mathlib.Core.Path.{◌≡◌, refl, sym, ap, ap₂, ◌∙◌}
use mathlib.Core.Bool.{Bool, true, false}
use mathlib.Core.List.{List, [], ◌∷◌, ◌++◌, append_assoc, append-nil}
use native.Mathlib.Omega.{arith}
use native.Mathlib.Nat.{min-eq_left}
use native.Mathlib.Numerals.{add-one}
use lib.Dec.{ltb}
use lib.ListN.{length, get_or, take, drop, set, replicate, length-append}
use lib.Seq.{take-append-le, drop-cons}
use borrow.Author.Tests.{lt-ltb, le-ltb, ltb-true, ltb-false}
use Rattle.listing.specs.declared.Line.{Line}
use Rattle.listing.specs.Line.{room, line_of, with_character, with_text}

abbrev pub made : List ℕ → ℕ → Line
made bytes len = record { bytes = bytes; len = len }

-- a byte where there is room, and where there is none
pub byte_inside : (line : Line) (byte : ℕ) → line.len < room
    → with_character line byte ≡ made (set line.bytes line.len byte) (line.len + 1)
unfolding with_character
byte_inside line byte inside = simp (lt-ltb line.len room inside)

pub byte_full : (line : Line) (byte : ℕ) → room ≤ line.len → with_character line byte ≡ line
unfolding with_character
byte_full line byte full = simp (le-ltb line.len room full)

pub text_text : (line : Line) (a b : List ℕ) → with_text (with_text line a) b ≡ with_text line (a ++ b)
unfolding with_text
text_text line [] b = refl
text_text line (byte ∷ behind) b = text_text (with_character line byte) behind b

pub byte_text : (line : Line) (byte : ℕ) → with_character line byte ≡ with_text line (byte ∷ [])
unfolding with_text
byte_text line byte = refl

-- the byte at a place, and then the rest behind it, are what is left from that place on
pub text_step : (line : Line) (text : List ℕ) (i : ℕ) → i < length text
    → with_text (with_character line (get_or text i 0)) (drop (i + 1) text) ≡ with_text line (drop i text)
unfolding with_text
text_step line text i inside = rw (add-one, drop-cons text i 0)

take_zeros : (n m k : ℕ) → n ≤ m → n ≤ k → take {A = ℕ} n (replicate m 0) ≡ take n (replicate k 0)
take_zeros zero m k inside within = refl
take_zeros (suc n) zero k inside within = absurd (omega arith)
take_zeros (suc n) (suc m) zero inside within = absurd (omega arith)
take_zeros (suc n) (suc m) (suc k) inside within =
    ap (λ (zeros : List ℕ). 0 ∷ zeros) (take_zeros n m k (omega arith) (omega arith))

byte_set : (text : List ℕ) (n m byte : ℕ) → length text < n → n ≤ m
    → set (take n (text ++ replicate m 0)) (length text) byte ≡ take n ((text ++ (byte ∷ [])) ++ replicate m 0)
byte_set [] zero m byte inside enough = absurd (omega arith)
byte_set [] (suc n) zero byte inside enough = absurd (omega arith)
byte_set [] (suc n) (suc m) byte inside enough =
    ap (λ (zeros : List ℕ). byte ∷ zeros) (take_zeros n m (suc m) (omega arith) (omega arith))
byte_set (first ∷ text) zero m byte inside enough = absurd (omega arith)
byte_set (first ∷ text) (suc n) m byte inside enough =
    ap (λ (behind : List ℕ). first ∷ behind) (byte_set text n m byte (omega arith) (omega arith))

-- a byte behind a text that leaves room for it, and behind one that does not
line_byte_inside : (text : List ℕ) (byte : ℕ) → length text < room → with_character (line_of text) byte ≡ line_of (text ++ (byte ∷ []))
unfolding line_of
line_byte_inside text byte inside = byte_inside (line_of text) byte (omega arith) ∙ ap₂ made bytes len
  where
    bytes : set (take room (text ++ replicate room 0)) (min (length text) room) byte
        ≡ take room ((text ++ (byte ∷ [])) ++ replicate room 0)
    bytes =
        ap (λ (at : ℕ). set (take room (text ++ replicate room 0)) at byte) (min-eq_left (omega arith))
        ∙ byte_set text room room byte inside (omega arith)

    len : min (length text) room + 1 ≡ min (length (text ++ (byte ∷ []))) room
    len = omega (arith, length-append text (byte ∷ []))

line_byte_past : (text : List ℕ) (byte : ℕ) → room ≤ length text → with_character (line_of text) byte ≡ line_of (text ++ (byte ∷ []))
unfolding line_of
line_byte_past text byte past = byte_full (line_of text) byte (omega arith) ∙ ap₂ made bytes len
  where
    bytes : take room (text ++ replicate room 0) ≡ take room ((text ++ (byte ∷ [])) ++ replicate room 0)
    bytes =
        take-append-le room text (replicate room 0) past
        ∙ sym (take-append-le room text (byte ∷ replicate room 0) past)
        ∙ ap (take room) (sym (append_assoc text (byte ∷ []) (replicate room 0)))

    len : min (length text) room ≡ min (length (text ++ (byte ∷ []))) room
    len = omega (arith, length-append text (byte ∷ []))

line_byte : (text : List ℕ) (byte : ℕ) → with_character (line_of text) byte ≡ line_of (text ++ (byte ∷ []))
line_byte text byte = go (ltb (length text) room) refl
  where
    go : (inside : Bool) → ltb (length text) room ≡ inside → with_character (line_of text) byte ≡ line_of (text ++ (byte ∷ []))
    go true e = line_byte_inside text byte (ltb-true _ _ e)
    go false e = line_byte_past text byte (ltb-false _ _ e)

pub line_text : (text more : List ℕ) → with_text (line_of text) more ≡ line_of (text ++ more)
unfolding with_text
line_text text [] = ap line_of (sym (append-nil text))
line_text text (byte ∷ behind) =
    ap (λ (line : Line). with_text line behind) (line_byte text byte)
    ∙ line_text (text ++ (byte ∷ [])) behind ∙ ap line_of (append_assoc text (byte ∷ []) behind)

-- a line that holds a text, after one more text, and after one more byte
pub line_on : {line next : Line} (text : List ℕ) {more : List ℕ} (said : List ℕ)
    → line ≡ line_of text → next ≡ with_text line more → more ≡ said → next ≡ line_of (text ++ said)
line_on text said here on same = on ∙ ap₂ with_text here same ∙ line_text text said

pub line_on_byte : {line next : Line} (text : List ℕ) (byte : ℕ)
    → line ≡ line_of text → next ≡ with_character line byte → next ≡ line_of (text ++ (byte ∷ []))
line_on_byte {line} text byte here on = line_on text (byte ∷ []) here (on ∙ byte_text line byte) refl
