-- A frame's check agrees exactly if the whole frame brings the state to 0; and a sealed frame passes. Assumes nothing.
use mathlib.Core.Path.{◌≡◌, refl, sym, ap, ap₂, ◌∙◌, subst}
use mathlib.Core.Bool.{Bool, true, false, ◌&&◌, false≢true}
use mathlib.Core.List.{List, [], ◌∷◌, ◌++◌, append_assoc}
use Prim.Native.Nat.{ℕ, suc, ◌+◌, ◌-◌, ◌*◌, ◌/◌, ◌%◌, ◌^◌, ◌≤◌, ◌<◌}
use native.Mathlib.Nat.{div-add-mod'}
use native.Mathlib.Numerals.{add-one, add-two}
use native.Mathlib.Omega.{arith}
use lib.Dec.{T, leb, ltb}
use lib.Ieee.Fits.{and_i, and_l}
use lib.Bits.{bit_xor, xor_self, xor_shifted, xor_zero_r}
use lib.ListN.{length, take, set, get_or, length-append}
use lib.Seq.{take_at, length-take-le, lt-length-set, take-suc-set, get_or-append-add}
use lib.Pow.{are_bytes}
use borrow.Author.Tests.{leb-true, le-leb, eqb-true, eq-eqb}
use Rattle.words.specs.Words.{byte_at}
use Rattle.check_value.specs.Check.{start_state, bits_of_byte, shifted_times, taken, state_after, value_of}
use Rattle.check_value.specs.Frame.{shortest, longest, check_bytes, covered, held, length_passes, check_agrees, passes, sealed}
use Rattle.check_value.proofs.Xor.{xor_assoc}
use Rattle.check_value.proofs.Shift.{times_of_high, times_of_zero, taken_below, taken_injective, head_byte, tail_bytes, value_below}

pub after_append : (s : ℕ) (front back : List ℕ) → state_after s (front ++ back) ≡ state_after (state_after s front) back
unfolding state_after
after_append s [] back = refl
after_append s (byte ∷ front) back = after_append (taken s byte) front back

-- ---- two bytes that bring a state to 0

module _ (low high : ℕ) (l : low < 256) (h : high < 256) where
  low_taken : taken (high * 256 + low) low ≡ high
  unfolding taken
  low_taken =
      ap (λ (x : ℕ). shifted_times bits_of_byte (bit_xor x low)) (sym (xor_shifted high 8 low l))
      ∙ ap (shifted_times bits_of_byte)
      (xor_assoc (high * 256) low low ∙ ap (bit_xor (high * 256)) (xor_self low) ∙ xor_zero_r (high * 256))
      ∙ times_of_high bits_of_byte high

  pub two_bring_to_zero : taken (taken (high * 256 + low) low) high ≡ 0
  unfolding taken
  two_bring_to_zero =
      ap (λ (x : ℕ). taken x high) low_taken
      ∙ ap (shifted_times bits_of_byte) (xor_self high) ∙ times_of_zero bits_of_byte

  pub brought_to_zero : (s : ℕ) → s < 2 ^ 16 → taken (taken s low) high ≡ 0 → s ≡ high * 256 + low
  brought_to_zero s k e =
      taken_injective s (high * 256 + low) low k (omega arith) l
      (taken_injective (taken s low) (taken (high * 256 + low) low) high (taken_below s low k l)
      (taken_below (high * 256 + low) low (omega arith) l) h (e ∙ sym two_bring_to_zero))

-- ---- a frame's front and its last two bytes

pub covered_of : (front : List ℕ) (low high : ℕ) → covered (front ++ low ∷ high ∷ []) ≡ front
covered_of front low high = take_at front (low ∷ high ∷ []) (length (front ++ low ∷ high ∷ []) - check_bytes)
    (omega (arith, length-append front (low ∷ high ∷ [])))

pub held_of : (front : List ℕ) (low high : ℕ) → held (front ++ low ∷ high ∷ []) ≡ high * 256 + low
held_of front low high = ap₂ (λ (x y : ℕ). x * 256 + y) (at 1 high 1 refl refl) (at 0 low check_bytes refl refl)
  where
    at : (i byte back : ℕ) → i + back ≡ check_bytes → get_or (low ∷ high ∷ []) i 0 ≡ byte
        → byte_at (front ++ low ∷ high ∷ []) (length (front ++ low ∷ high ∷ []) - back) ≡ byte
    at i byte back e q =
        let place : length (front ++ low ∷ high ∷ []) - back ≡ length front + i =
        omega (arith, length-append front (low ∷ high ∷ []))
        in
        ap (byte_at (front ++ low ∷ high ∷ [])) place ∙ get_or-append-add front (low ∷ high ∷ []) i 0 ∙ q

pub ending : (frame : List ℕ) → check_bytes ≤ length frame
    → (front : List ℕ) × (low : ℕ) × (high : ℕ) × (front ++ low ∷ high ∷ [] ≡ frame)
ending [] k = absurd (omega arith)
ending (a ∷ []) k = absurd (omega arith)
ending (a ∷ b ∷ []) k = ([], a, b, refl)
ending (a ∷ b ∷ c ∷ frame) k =
    let e = ending (b ∷ c ∷ frame) (omega arith) in (a ∷ e.0, e.1, e.2, ap (λ (l : List ℕ). a ∷ l) e.3)

pub front_bytes : (front back : List ℕ) → T (are_bytes (front ++ back)) → T (are_bytes front)
front_bytes [] back t = tt
front_bytes (byte ∷ front) back t =
    and_i (ltb byte 256) (are_bytes front) (and_l (ltb byte 256) (are_bytes (front ++ back)) t)
    (front_bytes front back (tail_bytes byte (front ++ back) t))

pub back_bytes : (front back : List ℕ) → T (are_bytes (front ++ back)) → T (are_bytes back)
back_bytes [] back t = t
back_bytes (byte ∷ front) back t = back_bytes front back (tail_bytes byte (front ++ back) t)

module _ (front : List ℕ) (low high : ℕ) (t : T (are_bytes (front ++ low ∷ high ∷ []))) where
  low_byte : low < 256
  low_byte = head_byte low (high ∷ []) (back_bytes front (low ∷ high ∷ []) t)

  high_byte : high < 256
  high_byte = head_byte high [] (tail_bytes low (high ∷ []) (back_bytes front (low ∷ high ∷ []) t))

  two_behind : state_after start_state (front ++ low ∷ high ∷ []) ≡ taken (taken (value_of front) low) high
  unfolding value_of
  two_behind = after_append start_state front (low ∷ high ∷ [])

  agreeing_ends_at_zero : check_agrees (front ++ low ∷ high ∷ []) ≡ true → state_after start_state (front ++ low ∷ high ∷ []) ≡ 0
  agreeing_ends_at_zero e =
      two_behind
      ∙ ap (λ (s : ℕ). taken (taken s low) high)
      (ap value_of (sym (covered_of front low high))
      ∙ eqb-true (value_of (covered (front ++ low ∷ high ∷ []))) (held (front ++ low ∷ high ∷ [])) e
      ∙ held_of front low high)
      ∙ two_bring_to_zero low high low_byte high_byte

  ending_at_zero_agrees : state_after start_state (front ++ low ∷ high ∷ []) ≡ 0 → check_agrees (front ++ low ∷ high ∷ []) ≡ true
  ending_at_zero_agrees e =
      eq-eqb (value_of (covered (front ++ low ∷ high ∷ []))) (held (front ++ low ∷ high ∷ []))
      (ap value_of (covered_of front low high)
      ∙ brought_to_zero low high low_byte high_byte (value_of front)
      (value_below front (front_bytes front (low ∷ high ∷ []) t)) (sym two_behind ∙ e)
      ∙ sym (held_of front low high))

-- ---- the check agrees exactly if the state ends at 0

pub agrees_zero : (frame : List ℕ) → T (are_bytes frame) → check_bytes ≤ length frame
    → check_agrees frame ≡ true → state_after start_state frame ≡ 0
agrees_zero frame t k =
    let e = ending frame k in
    subst (λ (f : List ℕ). T (are_bytes f) → check_agrees f ≡ true → state_after start_state f ≡ 0) e.3
    (agreeing_ends_at_zero e.0 e.1 e.2) t

pub zero_agrees : (frame : List ℕ) → T (are_bytes frame) → check_bytes ≤ length frame
    → state_after start_state frame ≡ 0 → check_agrees frame ≡ true
zero_agrees frame t k =
    let e = ending frame k in
    subst (λ (f : List ℕ). T (are_bytes f) → state_after start_state f ≡ 0 → check_agrees f ≡ true) e.3
    (ending_at_zero_agrees e.0 e.1 e.2) t

-- ---- a frame that passes

pub both_true : (a b : Bool) → a && b ≡ true → (a ≡ true) × (b ≡ true)
both_true true b e = (refl, e)
both_true false b e = (e, absurd (false≢true e))

module _ (frame : List ℕ) where
  pub passes_shortest : passes frame ≡ true → shortest ≤ length frame
  unfolding passes
  passes_shortest e =
      leb-true shortest (length frame)
      (both_true (leb shortest (length frame)) (leb (length frame) longest) (both_true (length_passes frame) (check_agrees frame) e).0).0

  pub passes_longest : passes frame ≡ true → length frame ≤ longest
  unfolding passes
  passes_longest e =
      leb-true (length frame) longest
      (both_true (leb shortest (length frame)) (leb (length frame) longest) (both_true (length_passes frame) (check_agrees frame) e).0).1

  pub passes_agrees : passes frame ≡ true → check_agrees frame ≡ true
  unfolding passes
  passes_agrees e = (both_true (length_passes frame) (check_agrees frame) e).1

  pub agrees_passes : shortest ≤ length frame → length frame ≤ longest → check_agrees frame ≡ true → passes frame ≡ true
  unfolding passes
  agrees_passes k l e =
      ap₂ ◌&&◌ (ap₂ ◌&&◌ (le-leb shortest (length frame) k) (le-leb (length frame) longest l)) e

  pub passes_zero : T (are_bytes frame) → passes frame ≡ true → state_after start_state frame ≡ 0
  passes_zero t e = let k : shortest ≤ length frame = passes_shortest e in agrees_zero frame t (omega arith) (passes_agrees e)

  pub zero_passes : T (are_bytes frame) → shortest ≤ length frame → length frame ≤ longest
      → state_after start_state frame ≡ 0 → passes frame ≡ true
  zero_passes t k l e = agrees_passes k l (zero_agrees frame t (omega arith) e)

-- ---- sealing

-- the bytes, and behind them their check, low byte first
abbrev pub closed : List ℕ → List ℕ
closed bytes = bytes ++ value_of bytes % 256 ∷ value_of bytes / 256 ∷ []

pub closed_agrees : (bytes : List ℕ) → check_agrees (closed bytes) ≡ true
closed_agrees bytes =
    eq-eqb (value_of (covered (closed bytes))) (held (closed bytes))
    (ap value_of (covered_of bytes (value_of bytes % 256) (value_of bytes / 256)) ∙ sym (div-add-mod' (value_of bytes) 256)
    ∙ sym (held_of bytes (value_of bytes % 256) (value_of bytes / 256)))

pub closed_passes : (bytes : List ℕ) → shortest ≤ length bytes + check_bytes → length bytes + check_bytes ≤ longest
    → passes (closed bytes) ≡ true
closed_passes bytes k l =
    let e : length (closed bytes) ≡ length bytes + check_bytes = length-append bytes (value_of bytes % 256 ∷ value_of bytes / 256 ∷ []) in
    agrees_passes (closed bytes) (omega arith) (omega arith) (closed_agrees bytes)

two_stored : (buffer : List ℕ) (n a b : ℕ) → n + check_bytes ≤ length buffer
    → take (n + check_bytes) (set (set buffer n a) (n + 1) b) ≡ take n buffer ++ a ∷ b ∷ []
two_stored buffer n a b k =
    ap₂ (λ (i j : ℕ). take i (set (set buffer n a) j b)) (add-two n) (add-one n)
    ∙ take-suc-set (set buffer n a) (suc n) b (lt-length-set buffer n a (omega arith))
    ∙ ap (λ (l : List ℕ). l ++ b ∷ []) (take-suc-set buffer n a (omega arith))
    ∙ append_assoc (take n buffer) (a ∷ []) (b ∷ [])

pub sealed_closed : (buffer : List ℕ) (n : ℕ) → n + check_bytes ≤ length buffer
    → take (n + check_bytes) (sealed buffer n) ≡ closed (take n buffer)
unfolding sealed
sealed_closed buffer n k = rw (le-leb (n + check_bytes) (length buffer) k)
    (two_stored buffer n (value_of (take n buffer) % 256) (value_of (take n buffer) / 256) k)

pub sealed_passes : (buffer : List ℕ) (n : ℕ) → n + check_bytes ≤ length buffer
    → shortest ≤ n + check_bytes → n + check_bytes ≤ longest → passes (take (n + check_bytes) (sealed buffer n)) ≡ true
sealed_passes buffer n k s l =
    let e : length (take n buffer) ≡ n = length-take-le n buffer (omega arith) in
    ap passes (sealed_closed buffer n k) ∙ closed_passes (take n buffer) (omega arith) (omega arith)
