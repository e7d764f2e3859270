-- A pair over all 32 bits is never bad, whether a write sends both halves, or one of them and the other is the bank's. Assumes nothing.
use mathlib.Core.Path.{◌≡◌, refl, subst}
use mathlib.Core.Bool.{cond}
use mathlib.Core.List.{List}
use Prim.Native.Nat.{ℕ, ◌+◌, ◌*◌, ◌≤◌, ◌<◌}
use native.Mathlib.Omega.{arith}
use lib.Dec.{eqb}
use Rattle.bank_rules.specs.Calls.{Lent}
use Rattle.plain.specs.Numbers.{Bytes, byte, word}
use Rattle.plain.specs.Frame.{WouldBe, written, kept, ValueWouldBe, of_word, of_pair, Within}
use Rattle.plain.specs.Why.{Misses, too_low, too_high, FirstBadItem}

-- a word of bytes has sixteen bits
pub word_small : (bytes : List ℕ) → Bytes bytes → (at : ℕ) → word bytes at < 65536
word_small bytes small at = omega (arith, small at, small (at + 1))

module _ (given : Lent) (frame : List ℕ) (bank-bytes : Bytes given.bank) (frame_bytes : Bytes frame) where
  would_small : {place w : ℕ} → WouldBe given frame place w → w < 65536
  would_small (written k goes is) = omega (arith, is, word_small frame frame_bytes (cond (eqb (byte frame 1) 0x06) 4 7 + 2 * k))
  would_small {place} (kept none is) = omega (arith, is, word_small given.bank bank-bytes (2 * place))

  -- whatever is sent of it
  pub full_pair_within : {place value : ℕ} → ValueWouldBe given frame place value 2 → Within 2 0 0xFFFFFFFF value
  full_pair_within (of_word single is) = absurd (single refl)
  full_pair_within (of_pair pair upper lower is-upper is-lower is) =
      record {
        plain = λ unsigned. (omega arith, omega (arith, is, would_small is-upper, would_small is-lower));
        signed = λ e. absurd (omega (arith, e));
      }

  -- so it is no write's first bad item
  pub full_pair_never_bad : {at side : ℕ} → (first : FirstBadItem given frame at side) → first.kind ≡ 2 → first.low ≡ 0 → first.high ≡ 0xFFFFFFFF → ⊥
  full_pair_never_bad first kind low high =
      let plain = (full_pair_within (subst (ValueWouldBe given frame first.place first.value) kind first.its_value)).plain (λ e. omega (arith, e)) in
      missed plain.1 first.missed
    where
      unsigned : first.kind ≡ 1 → ⊥
      unsigned e = omega (arith, e, kind)

      missed : first.value ≤ 0xFFFFFFFF → {side : ℕ} → Misses first.kind first.low first.high first.value side → ⊥
      missed most (too_low under) = omega (arith, low, under.plain unsigned)
      missed most (too_high under) = omega (arith, high, most, under.plain unsigned)
