-- Damage to a frame that passes, as rule D31 has it, is caught. Assumes nothing.
use mathlib.Core.Path.{◌≡◌, refl, sym, ap, ap₂, ◌∙◌, subst}
use mathlib.Core.Logic.{⊎_elim}
use mathlib.Core.Bool.{Bool, true, false, not, ◌&&◌}
use mathlib.Core.List.{List, [], ◌∷◌}
use Prim.Native.Nat.{ℕ, zero, suc, ◌+◌, ◌-◌, ◌*◌, ◌/◌, ◌%◌, ◌^◌, ◌≤◌, ◌<◌}
use native.Mathlib.Nat.{pow-suc, add-zero, add_assoc, zero-add, eq-zero-or-pos}
use native.Mathlib.Omega.{arith}
use lib.Arith.{lt-one}
use lib.Dec.{T, eqb, lit<, lit≤}
use lib.Bits.{bit_xor, xor_zero_r, xor_lt}
use lib.Count.{ones}
use lib.ListN.{length}
use lib.Pow.{pow_pos, pow_mono, are_bytes}
use borrow.Author.Tests.{eqb-false, not-true}
use Rattle.check_value.specs.Check.{start_state, polynomial, bits_of_byte, shifted, shifted_times}
use Rattle.check_value.specs.Frame.{longest, passes}
use Rattle.check_value.specs.Damage.{few_bits, run_bits, wire, cons_if, changed, all_within, WithinOneRun, Damaged}
use Rattle.check_value.proofs.Xor.{parity_add, xor_half, xor_same, xor_ones}
use Rattle.check_value.proofs.Shift.{even_or_odd, shifted_if_even, shifted_below, shifted_to_zero, odd_shifted_high, times_suc, times_below}
use Rattle.check_value.proofs.Zero.{both_true, passes_zero, passes_longest}
use Rattle.check_value.proofs.Ones.{shifted_ones}
use Rattle.check_value.proofs.Wire.{bit_of, fed_bit, fed, places_of, wire_fed, wire_length, difference, difference_length, difference_fed_from_zero, differing_places}

mixed_below : (s : ℕ) (bit : Bool) → s < 2 ^ 16 → bit_xor s (bit_of bit) < 2 ^ 16
mixed_below s false h = xor_lt 16 s 0 h (lit< tt)
mixed_below s true h = xor_lt 16 s 1 h (lit< tt)

fed_bit_below : (s : ℕ) (bit : Bool) → s < 2 ^ 16 → fed_bit s bit < 2 ^ 16
fed_bit_below s bit h = shifted_below (bit_xor s (bit_of bit)) (mixed_below s bit h)

-- a bit that brings the state to 0 is the state
fed_bit_to_zero : (s : ℕ) (bit : Bool) → s < 2 ^ 16 → fed_bit s bit ≡ 0 → s ≡ bit_of bit
fed_bit_to_zero s bit h e =
    xor_same s (bit_of bit) (shifted_to_zero (bit_xor s (bit_of bit)) (mixed_below s bit h) e)

-- ---- one or three bits: the parity of the ones

bit_ones : (bit : Bool) (place : ℕ) (places : List ℕ) → ones (bit_of bit) + length places ≡ length (cons_if bit place places)
unfolding ones
bit_ones false place places = zero-add (length places)
bit_ones true place places = omega arith

pub fed_ones : (s place : ℕ) (bits : List Bool) → ones (fed s bits) % 2 ≡ (ones s + length (places_of place bits)) % 2
unfolding fed places_of
fed_ones s place [] = ap (λ (x : ℕ). x % 2) (sym (add-zero (ones s)))
fed_ones s place (bit ∷ bits) =
    fed_ones (fed_bit s bit) (suc place) bits
    ∙ parity_add (ones (fed_bit s bit)) (ones s + ones (bit_of bit)) rest rest
    (shifted_ones (bit_xor s (bit_of bit)) ∙ xor_ones s (bit_of bit)) refl
    ∙ ap (λ (x : ℕ). x % 2)
    (add_assoc (ones s) (ones (bit_of bit)) rest
    ∙ ap (λ (x : ℕ). ones s + x) (bit_ones bit place (places_of (suc place) bits)))
  where
    rest : ℕ
    rest = length (places_of (suc place) bits)

pub zero_even : (place : ℕ) (bits : List Bool) → fed 0 bits ≡ 0 → length (places_of place bits) % 2 ≡ 0
unfolding ones
zero_even place bits e =
    let parity : ones (fed 0 bits) % 2 ≡ (0 + length (places_of place bits)) % 2 = fed_ones 0 place bits in
    let none : ones (fed 0 bits) ≡ 0 = ap ones e in
    omega arith

-- ---- two bits: no shift of the polynomial within a frame is 1

-- the state and its first shifts, one fewer than the given number, are none of them 1
unfoldable pub never_one : ℕ → ℕ → Bool
never_one zero state = true
never_one (suc count) state = not (eqb state 1) && never_one count (shifted state)

-- the one computed test: as many shifts of the polynomial as the longest frame has bits
pub never_one_in_frame : never_one (longest * bits_of_byte) polynomial ≡ true
unfolding never_one shifted
never_one_in_frame = refl

pub never_one_at : (count j state : ℕ) → never_one count state ≡ true → j < count → shifted_times j state ≡ 1 → ⊥
unfolding never_one shifted_times
never_one_at zero j state e h q = absurd (omega arith)
never_one_at (suc count) zero state e h q =
    eqb-false state 1 (not-true (eqb state 1) (both_true (not (eqb state 1)) (never_one count (shifted state)) e).0) q
never_one_at (suc count) (suc j) state e h q =
    never_one_at count j (shifted state) (both_true (not (eqb state 1)) (never_one count (shifted state)) e).1
    (omega arith) q

pub never_one_lem : (j : ℕ) → j < longest * bits_of_byte → shifted_times j polynomial ≡ 1 → ⊥
never_one_lem j h = never_one_at (longest * bits_of_byte) j polynomial never_one_in_frame h

pub none_to_zero : (s place : ℕ) (bits : List Bool) → s < 2 ^ 16 → length (places_of place bits) ≡ 0 → fed s bits ≡ 0 → s ≡ 0
unfolding fed places_of
none_to_zero s place [] h e q = q
none_to_zero s place (false ∷ bits) h e q =
    fed_bit_to_zero s false h
    (none_to_zero (fed_bit s false) (suc place) bits (fed_bit_below s false h) e q)
none_to_zero s place (true ∷ bits) h e q = absurd (omega arith)

one_more : (j place : ℕ) (bits : List Bool) → j + length bits ≤ longest * bits_of_byte
    → length (places_of place bits) ≡ 1 → fed (shifted_times j polynomial) bits ≡ 0 → ⊥
unfolding fed places_of
one_more j place [] h e q = omega arith
one_more j place (false ∷ bits) h e q =
    one_more (suc j) (suc place) bits (omega arith) e
    (ap (λ (s : ℕ). fed s bits) (times_suc j polynomial ∙ ap shifted (sym (xor_zero_r (shifted_times j polynomial)))) ∙ q)
one_more j place (true ∷ bits) h e q =
    never_one_lem j (omega arith)
    (fed_bit_to_zero (shifted_times j polynomial) true below
    (none_to_zero (fed_bit (shifted_times j polynomial) true) (suc place) bits
    (fed_bit_below (shifted_times j polynomial) true below) (omega arith) q))
  where
    below : shifted_times j polynomial < 2 ^ 16
    below = times_below j polynomial (lit< tt)

pub two_not_zero : (place : ℕ) (bits : List Bool) → length bits ≤ longest * bits_of_byte
    → length (places_of place bits) ≡ 2 → fed 0 bits ≡ 0 → ⊥
unfolding fed places_of shifted shifted_times
two_not_zero place [] h e q = omega arith
two_not_zero place (false ∷ bits) h e q = two_not_zero (suc place) bits (omega arith) e q
two_not_zero place (true ∷ bits) h e q = one_more 0 (suc place) bits (omega arith) (omega arith) q

-- ---- a run: a state that m more bits can bring to 0 is below 2 ^ m

pub polynomial_high : 2 ^ (run_bits - 1) ≤ polynomial
polynomial_high = lit≤ tt

half_of_xor_bit : (s : ℕ) (bit : Bool) → bit_xor s (bit_of bit) / 2 ≡ s / 2
half_of_xor_bit s false = xor_half s 0 ∙ xor_zero_r (s / 2)
half_of_xor_bit s true = xor_half s 1 ∙ xor_zero_r (s / 2)

-- one bit more: a bit shifted out would show at the top, above the bits that are left
more_below : (m s : ℕ) (bit : Bool) → s < 2 ^ 16 → fed_bit s bit < 2 ^ m → s < 2 ^ suc m
more_below m s bit h k = ⊎_elim kept (λ odd. ⊎_elim (few odd) many (eq-zero-or-pos (m - 15))) (even_or_odd mixed)
  where
    mixed : ℕ
    mixed = bit_xor s (bit_of bit)

    kept : mixed % 2 ≡ 0 → s < 2 ^ suc m
    kept even =
        let half : s / 2 < 2 ^ m = subst (λ (x : ℕ). x < 2 ^ m) (shifted_if_even mixed even ∙ half_of_xor_bit s bit) k in
        omega (arith, pow-suc 2 m)

    few : mixed % 2 ≡ 1 → m - 15 ≡ 0 → s < 2 ^ suc m
    few odd e =
        let top : 2 ^ 15 ≤ shifted mixed = odd_shifted_high mixed (mixed_below s bit h) odd in
        let small : 2 ^ m ≤ 2 ^ 15 = pow_mono {i = m} {j = 15} (omega arith) in
        absurd (omega arith)

    many : 0 < m - 15 → s < 2 ^ suc m
    many e = let wide : 2 ^ 16 ≤ 2 ^ suc m = pow_mono {i = 16} {j = suc m} (omega arith) in omega arith

-- all ones of the bits are among the first m
pub run_below : (first m s place : ℕ) (bits : List Bool) → s < 2 ^ 16 → first + run_bits ≤ place + m
    → all_within first (places_of place bits) → fed s bits ≡ 0 → s < 2 ^ m
unfolding fed places_of all_within
run_below first m s place [] h l w q = omega (arith, pow_pos m)
run_below first zero s place (false ∷ bits) h l w q =
    let next = run_below first zero (fed_bit s false) (suc place) bits (fed_bit_below s false h) (omega arith) w q in
    omega (arith, fed_bit_to_zero s false h (lt-one next))
run_below first (suc m) s place (false ∷ bits) h l w q =
    more_below m s false h
    (run_below first m (fed_bit s false) (suc place) bits (fed_bit_below s false h) (omega arith) w q)
run_below first zero s place (true ∷ bits) h l w q = absurd (omega arith)
run_below first (suc m) s place (true ∷ bits) h l w q =
    more_below m s true h
    (run_below first m (fed_bit s true) (suc place) bits (fed_bit_below s true h) (omega arith) w.2 q)

pub run_not_zero : (first place : ℕ) (bits : List Bool) → 1 ≤ length (places_of place bits)
    → all_within first (places_of place bits) → fed 0 bits ≡ 0 → ⊥
unfolding fed places_of all_within shifted
run_not_zero first place [] h w q = omega arith
run_not_zero first place (false ∷ bits) h w q = run_not_zero first (suc place) bits h w q
run_not_zero first place (true ∷ bits) h w q =
    let low = run_below first (run_bits - 1) polynomial (suc place) bits (lit< tt) (omega arith) w.2 q in
    omega (arith, low, polynomial_high)

-- ---- the theorem

-- the only even number from one to three is two
few_even : (n : ℕ) → 1 ≤ n → n ≤ few_bits → n % 2 ≡ 0 → n ≡ 2
few_even n h l e = omega arith

-- the bits in which a frame and what arrives of it differ
abbrev pub damage : List ℕ → List ℕ → List Bool
damage sent received = difference (wire sent) (wire received)

pub damage_places : (sent received : List ℕ) → changed sent received ≡ places_of 0 (damage sent received)
unfolding changed
damage_places sent received = differing_places 0 (wire sent) (wire received)

module _ (sent received : List ℕ) (t : T (are_bytes sent)) (u : T (are_bytes received)) (same : length received ≡ length sent) where
  wires : length (wire received) ≡ length (wire sent)
  wires = wire_length received ∙ ap (λ (n : ℕ). n * bits_of_byte) same ∙ sym (wire_length sent)

  pub damage_length : length (damage sent received) ≡ length sent * bits_of_byte
  damage_length = difference_length (wire sent) (wire received) wires ∙ wire_length sent

  -- where both pass, their difference brings 0 back to 0
  pub damage_fed : passes sent ≡ true → passes received ≡ true → fed 0 (damage sent received) ≡ 0
  damage_fed p q =
      difference_fed_from_zero start_state (wire sent) (wire received) wires
      ∙ ap₂ bit_xor (sym (wire_fed start_state sent t) ∙ passes_zero sent t p)
      (sym (wire_fed start_state received u) ∙ passes_zero received u q)

not_both : (sent received : List ℕ) → passes sent ≡ true → Damaged sent received → passes received ≡ true → ⊥
unfolding WithinOneRun
not_both sent received p d q = ⊎_elim few run (rw damage_places at d.few_or_one_run)
  where
    bits : List Bool
    bits = damage sent received

    back : fed 0 bits ≡ 0
    back = damage_fed sent received d.sent_bytes d.received_bytes d.same_length p q

    some : 1 ≤ length (places_of 0 bits)
    some = rw damage_places at d.at_least_one

    short : length bits ≤ longest * bits_of_byte
    short =
        omega
        (arith, damage_length sent received d.sent_bytes d.received_bytes d.same_length, passes_longest sent p)

    few : length (places_of 0 bits) ≤ few_bits → ⊥
    few l = two_not_zero 0 bits short (few_even (length (places_of 0 bits)) some l (zero_even 0 bits back)) back

    run : (first : ℕ) × all_within first (places_of 0 bits) → ⊥
    run w = run_not_zero w.0 0 bits some w.1 back

-- demand 3's core: what is damaged so does not pass
pub damage_caught : (sent received : List ℕ) → passes sent ≡ true → Damaged sent received → passes received ≡ false
damage_caught sent received p d = go (passes received) refl
  where
    go : (verdict : Bool) → passes received ≡ verdict → verdict ≡ false
    go false e = refl
    go true e = absurd (not_both sent received p d e)
