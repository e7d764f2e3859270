-- Laying a reply in the answer buffer, byte by byte, word by word, and then its check. Assumes nothing.
use mathlib.Core.Path.{◌≡◌, refl, sym, ap, ap₂, ◌∙◌}
use mathlib.Core.List.{List, [], ◌∷◌, ◌++◌, append_assoc}
use Prim.Native.Nat.{ℕ, suc, ◌+◌, ◌/◌, ◌%◌, ◌≤◌, ◌<◌}
use native.Mathlib.Omega.{arith}
use lib.ListN.{length, get_or, take, drop, set, length-append, length-drop, take-append-drop}
use lib.Seq.{drop-cons, set_at, take_at, length-take-le, drop-append-add, drop-drop}
use mathlib.Core.Bool.{true, ◌&&◌, and-false}
use borrow.Author.Tests.{lt-ltb, le-leb, lt-leb}
use Rattle.words.specs.Words.{with_byte, with_word, upper, lower, word_bytes}
use Rattle.check_value.specs.Check.{value_of}
use Rattle.check_value.specs.Frame.{longest, check_bytes, sealed}
use Rattle.frame.specs.Reply.{with_check, laid, has_room, fill, lay_reply}

pub laid_length : (bytes buffer : List ℕ) → length bytes ≤ length buffer → length (laid bytes buffer) ≡ length buffer
laid_length bytes buffer room = simp (length-append, length-drop) (omega arith)

pub laid_byte : (bytes buffer : List ℕ) (n byte : ℕ) → length bytes ≡ n → n < length buffer
    → set (laid bytes buffer) n byte ≡ laid (bytes ++ (byte ∷ [])) buffer
laid_byte bytes buffer n byte here room =
    ap (λ (l : List ℕ). set (bytes ++ l) n byte) (drop-cons buffer (length bytes) 0 (omega arith))
    ∙ set_at bytes (get_or buffer (length bytes) 0) (drop (suc (length bytes)) buffer) byte n here
    ∙ sym (append_assoc bytes (byte ∷ []) (drop (suc (length bytes)) buffer))
    ∙ ap (λ (k : ℕ). (bytes ++ (byte ∷ [])) ++ drop k buffer) (sym behind)
  where
    behind : length (bytes ++ (byte ∷ [])) ≡ suc (length bytes)
    behind = length-append bytes (byte ∷ []) ∙ omega arith

-- two bytes one after another
pub laid_two : (bytes buffer : List ℕ) (n one other : ℕ) → length bytes ≡ n → n + 1 < length buffer
    → set (set (laid bytes buffer) n one) (n + 1) other ≡ laid (bytes ++ (one ∷ other ∷ [])) buffer
laid_two bytes buffer n one other here room =
    ap (λ (l : List ℕ). set l (n + 1) other) (laid_byte bytes buffer n one here (omega arith))
    ∙ laid_byte (bytes ++ (one ∷ [])) buffer (n + 1) other (length-append bytes (one ∷ []) ∙ omega arith) room
    ∙ ap (λ (l : List ℕ). laid l buffer) (append_assoc bytes (one ∷ []) (other ∷ []))

pub laid_word : (bytes buffer : List ℕ) (n word : ℕ) → length bytes ≡ n → n + 1 < length buffer
    → with_word (laid bytes buffer) n word ≡ laid (bytes ++ word_bytes word) buffer
unfolding with_word
laid_word bytes buffer n word here room =
    simp (lt-ltb (n + 1) (length (laid bytes buffer)) fits) (laid_two bytes buffer n (upper word) (lower word) here room)
  where
    fits : n + 1 < length (laid bytes buffer)
    fits = rw (laid_length bytes buffer (omega arith)) room

pub laid_sealed : (bytes buffer : List ℕ) (n : ℕ) → length bytes ≡ n → n + check_bytes ≤ length buffer
    → sealed (laid bytes buffer) n ≡ laid (with_check bytes) buffer
unfolding sealed with_check
laid_sealed bytes buffer n here room =
    simp (le-leb (n + check_bytes) (length (laid bytes buffer)) fits, take_at bytes (drop (length bytes) buffer) n here)
    (laid_two bytes buffer n (value_of bytes % 256) (value_of bytes / 256) here (omega arith))
  where
    fits : n + check_bytes ≤ length (laid bytes buffer)
    fits = rw (laid_length bytes buffer (omega arith)) room

-- the same, one step after another: what a buffer holds of a reply so far, and what it holds after one store more
module _ (buffer : List ℕ) {before after : List ℕ} (bytes : List ℕ) (so_far : before ≡ laid bytes buffer) where
  pub then_byte : (byte : ℕ) → length bytes < length buffer → after ≡ with_byte before (length bytes) byte
      → after ≡ laid (bytes ++ (byte ∷ [])) buffer
  then_byte byte room made =
      made ∙ ap (λ (l : List ℕ). set l (length bytes) byte) so_far ∙ laid_byte bytes buffer (length bytes) byte refl room

  pub then_word : (word n : ℕ) → length bytes ≡ n → n + 1 < length buffer → after ≡ with_word before n word
      → after ≡ laid (bytes ++ word_bytes word) buffer
  then_word word n here room made =
      made ∙ ap (λ (l : List ℕ). with_word l n word) so_far ∙ laid_word bytes buffer n word here room

  pub then_sealed : (n : ℕ) → length bytes ≡ n → n + check_bytes ≤ length buffer → after ≡ sealed before n
      → after ≡ laid (with_check bytes) buffer
  then_sealed n here room made = made ∙ ap (λ (l : List ℕ). sealed l n) so_far ∙ laid_sealed bytes buffer n here room

-- more bytes laid over a buffer in which the first ones lie already
pub laid_over : (head more buffer : List ℕ) → laid (head ++ more) (laid head buffer) ≡ laid (head ++ more) buffer
laid_over head more buffer =
    ap (λ (l : List ℕ). (head ++ more) ++ l)
    (ap (λ (n : ℕ). drop n (head ++ drop (length head) buffer)) (length-append head more)
    ∙ drop-append-add head (drop (length head) buffer) (length more)
    ∙ drop-drop (length more) (length head) buffer
    ∙ ap (λ (n : ℕ). drop n buffer) (sym (length-append head more)))

-- the first bytes of a buffer, laid in it, change nothing
pub laid_first : (n : ℕ) (buffer : List ℕ) → n ≤ length buffer → buffer ≡ laid (take n buffer) buffer
laid_first n buffer room =
    sym (ap (λ (k : ℕ). take n buffer ++ drop k buffer) (length-take-le n buffer room) ∙ take-append-drop n buffer)

-- ---- a reply with room, and one without

module _ (reply buffer : List ℕ) where
  pub has_room_lem : length reply ≤ longest → length reply ≤ length buffer → has_room reply buffer ≡ true
  has_room_lem short inside =
      ap₂ ◌&&◌ (le-leb (length reply) longest short) (le-leb (length reply) (length buffer) inside)

  pub lays : {n : ℕ} {after : List ℕ} → length reply ≤ longest → length reply ≤ length buffer → n ≡ length reply
      → after ≡ laid reply buffer → fill n after ≡ lay_reply reply buffer
  unfolding lay_reply
  lays short inside long made = simp (has_room_lem short inside) (ap₂ fill long made)

  -- it is longer than the buffer, or than a frame
  pub lays_none : length buffer < length reply → fill 0 buffer ≡ lay_reply reply buffer
  unfolding lay_reply
  lays_none more = simp (lt-leb (length reply) (length buffer) more, and-false)

  pub lays_no_frame : longest < length reply → fill 0 buffer ≡ lay_reply reply buffer
  unfolding lay_reply
  lays_no_frame more = simp (lt-leb (length reply) longest more)
