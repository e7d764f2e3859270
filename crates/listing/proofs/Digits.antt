-- The decimal digits of a number: one digit below ten, and else those of a tenth with the last one behind them. Assumes nothing.
use Prim.Native.Nat.{ℕ, zero, suc, ◌/◌, ◌%◌, ◌^◌, ◌≤◌, ◌<◌}
use mathlib.Core.Path.{◌≡◌, refl, ap}
use mathlib.Core.Bool.{Bool, true, false, cond}
use mathlib.Core.List.{List, [], ◌∷◌, ◌++◌}
use native.Mathlib.Omega.{arith}
use native.Mathlib.Nat.{pow-suc, div-lt_iff_lt-mul}
use lib.Dec.{ltb, lit<}
use borrow.Author.Tests.{lt-ltb, le-ltb}
use Rattle.listing.specs.Text.{digit_of, decimal, decimal_within}

-- a tenth has a digit less
tenth : (places n : ℕ) → n < 10 ^ suc places → n / 10 < 10 ^ places
tenth places n small = (div-lt_iff_lt-mul (lit< tt)).1 (rw pow-suc at small)

-- room for one digit more changes nothing where the number has no more
pub within_more : (places n : ℕ) → n < 10 ^ suc places → decimal_within (suc (suc places)) n ≡ decimal_within (suc places) n
unfolding decimal_within
within_more zero n small = simp (lt-ltb n 10 small)
within_more (suc places) n small = go (ltb n 10) (within_more places (n / 10) (tenth (suc places) n small))
  where
    go : (one : Bool) → decimal_within (suc (suc places)) (n / 10) ≡ decimal_within (suc places) (n / 10)
        → cond one (digit_of n ∷ []) (decimal_within (suc (suc places)) (n / 10) ++ (digit_of (n % 10) ∷ []))
        ≡ cond one (digit_of n ∷ []) (decimal_within (suc places) (n / 10) ++ (digit_of (n % 10) ∷ []))
    go true same = refl
    go false same = ap (λ (front : List ℕ). front ++ (digit_of (n % 10) ∷ [])) same

pub decimal_one : (n : ℕ) → n < 10 → decimal n ≡ digit_of n ∷ []
unfolding decimal decimal_within
decimal_one n small = simp (lt-ltb n 10 small)

pub decimal_more : (n : ℕ) → 10 ≤ n → n < 2 ^ 32 → decimal n ≡ decimal (n / 10) ++ (digit_of (n % 10) ∷ [])
unfolding decimal decimal_within
decimal_more n large small =
    let same : decimal_within 10 (n / 10) ≡ decimal_within 9 (n / 10) = within_more 8 (n / 10) (omega arith) in
    rw (same, le-ltb n 10 large)
