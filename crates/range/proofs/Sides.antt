-- The side of its range at which a value lies, once for all kinds: too low exactly below the low bound; where the bounds are in order, too high exactly
-- above the high one, and never both. What was yes or no follows. Assumes nothing.
use mathlib.Core.Path.{◌≡◌, refl, sym, ap, ◌∙◌}
use mathlib.Core.Bool.{Bool, true, false, not, cond, ◌&&◌, false≢true}
use mathlib.Core.Logic.{◌↔◌}
use Prim.Native.Nat.{ℕ}
use native.Mathlib.Omega.{arith}
use lib.Dec.{T, leb, ltb}
use lib.IntN.{ℤ, pos, negsuc}
use lib.Signed.{le_z, lt_z, ◌≤ℤ◌, ◌<ℤ◌, lt_z_no, clash_ℤ, <ℤ-≤ℤ_trans}
use borrow.Author.Tests.{lt-ltb, le-ltb, le-leb, ltb-true, leb-true, leb-false}
use Rattle.range.specs.declared.Side.{Side}
use Rattle.range.specs.declared.Side.TheVariants.{InRange, TooLow, TooHigh}
use Rattle.range.specs.Range.{number_of, not_above, below, side_of, inside, in_range}

-- ---- the three answers, by the two tests

module _ (kind low high value : ℕ) where
  pub side_low : not_above kind low value ≡ false → side_of kind low high value ≡ TooLow
  unfolding side_of below
  side_low e = simp e

  pub side_high : not_above kind low value ≡ true → not_above kind value high ≡ false → side_of kind low high value ≡ TooHigh
  unfolding side_of below
  side_high e f = simp (e, f)

  pub side_inside : not_above kind low value ≡ true → not_above kind value high ≡ true → side_of kind low high value ≡ InRange
  unfolding side_of below
  side_inside e f = simp (e, f)

  -- what was yes or no: low ≤ value ≤ high
  pub in_range_between : in_range kind low high value ≡ (not_above kind low value && not_above kind value high)
  unfolding in_range
  in_range_between = go (not_above kind low value) (not_above kind value high) refl refl
    where
      go : (one two : Bool) → not_above kind low value ≡ one → not_above kind value high ≡ two → inside (side_of kind low high value) ≡ (one && two)
      go true true e f = ap inside (side_inside e f)
      go true false e f = ap inside (side_high e f)
      go false two e f = ap inside (side_low e)

-- ---- the law over the kind: rule B13

true_holds : (b : Bool) → b ≡ true → T b
true_holds true e = tt
true_holds false e = absurd (false≢true e)

holds_true : (b : Bool) → T b → b ≡ true
holds_true true t = refl
holds_true false t = absurd t

-- the order of whole numbers, by what is not above

less_not_most : (a b : ℕ) → ltb a b ≡ not (leb b a)
less_not_most a b = go (leb b a) refl
  where
    go : (says : Bool) → leb b a ≡ says → ltb a b ≡ not says
    go true e = le-ltb a b (leb-true b a e)
    go false e = lt-ltb a b (leb-false b a e)

order_other : (x y : ℤ) → lt_z x y ≡ not (le_z y x)
order_other (pos a) (pos b) = less_not_most a b
order_other (pos a) (negsuc b) = refl
order_other (negsuc a) (pos b) = refl
order_other (negsuc a) (negsuc b) = less_not_most b a

below_is : (kind a b : ℕ) → lt_z (number_of kind a) (number_of kind b) ≡ below kind a b
unfolding below not_above
below_is kind a b = order_other (number_of kind a) (number_of kind b)

less_most : (x y : ℤ) → lt_z x y ≡ true → le_z x y ≡ true
less_most (pos a) (pos b) e = le-leb a b (omega (arith, ltb-true a b e))
less_most (pos a) (negsuc b) e = e
less_most (negsuc a) (pos b) e = refl
less_most (negsuc a) (negsuc b) e = le-leb b a (omega (arith, ltb-true b a e))

less_at_most : {x y : ℤ} → x <ℤ y → x ≤ℤ y
less_at_most {x} {y} less = record { le = true_holds (le_z x y) (less_most x y (holds_true (lt_z x y) less.lt)) }

abbrev is_low : Side → Bool
is_low InRange = false
is_low TooLow = true
is_low TooHigh = false

abbrev is_high : Side → Bool
is_high InRange = false
is_high TooLow = false
is_high TooHigh = true

-- a value by the numbers that it and its bounds stand for
module _ (kind low high value : ℕ) where
  abbrev the_low : ℤ
  the_low = number_of kind low

  abbrev the_high : ℤ
  the_high = number_of kind high

  abbrev the_value : ℤ
  the_value = number_of kind value

  -- too low exactly if the value is below the low bound
  pub too_low_lem : (side_of kind low high value ≡ TooLow) ↔ (the_value <ℤ the_low)
  unfolding side_of
  too_low_lem = go (below kind value low) (below kind high value) (below_is kind value low)
    where
      go : (b c : Bool) → lt_z the_value the_low ≡ b → (cond b TooLow (cond c TooHigh InRange) ≡ TooLow) ↔ (the_value <ℤ the_low)
      go true c e = (λ same. record { lt = true_holds (lt_z the_value the_low) e }, λ less. refl)
      go false true e = (λ same. absurd (false≢true (ap is_low same)), λ less. absurd (false≢true (sym e ∙ holds_true (lt_z the_value the_low) less.lt)))
      go false false e = (λ same. absurd (false≢true (ap is_low same)), λ less. absurd (false≢true (sym e ∙ holds_true (lt_z the_value the_low) less.lt)))

  -- never both where the low bound is not above the high one
  pub never_both : the_low ≤ℤ the_high → the_value <ℤ the_low → the_high <ℤ the_value → ⊥
  never_both ordered under over = clash_ℤ (<ℤ-≤ℤ_trans under ordered) (less_at_most over)

  -- too high exactly if the value is above the high bound
  pub too_high_lem : the_low ≤ℤ the_high → (side_of kind low high value ≡ TooHigh) ↔ (the_high <ℤ the_value)
  unfolding side_of
  too_high_lem ordered = go (below kind value low) (below kind high value) (below_is kind value low) (below_is kind high value)
    where
      go : (b c : Bool) → lt_z the_value the_low ≡ b → lt_z the_high the_value ≡ c
          → (cond b TooLow (cond c TooHigh InRange) ≡ TooHigh) ↔ (the_high <ℤ the_value)
      go true c e f = (
        λ same. absurd (false≢true (ap is_high same)),
        λ over. absurd (never_both ordered record { lt = true_holds (lt_z the_value the_low) e } over),
      )
      go false true e f = (λ same. record { lt = true_holds (lt_z the_high the_value) f }, λ over. refl)
      go false false e f = (λ same. absurd (false≢true (ap is_high same)), λ over. absurd (false≢true (sym f ∙ holds_true (lt_z the_high the_value) over.lt)))

  -- in range exactly if the value is at neither side
  pub in_range_lem : (side_of kind low high value ≡ InRange) ↔ ((the_low ≤ℤ the_value) × (the_value ≤ℤ the_high))
  unfolding side_of
  in_range_lem = go (below kind value low) (below kind high value) (below_is kind value low) (below_is kind high value)
    where
      go : (b c : Bool) → lt_z the_value the_low ≡ b → lt_z the_high the_value ≡ c
          → (cond b TooLow (cond c TooHigh InRange) ≡ InRange) ↔ ((the_low ≤ℤ the_value) × (the_value ≤ℤ the_high))
      go true c e f = (
        λ same. absurd (false≢true (sym (ap is_low same))),
        λ between. clash_ℤ record { lt = true_holds (lt_z the_value the_low) e } between.0,
      )
      go false true e f = (
        λ same. absurd (false≢true (sym (ap is_high same))),
        λ between. clash_ℤ record { lt = true_holds (lt_z the_high the_value) f } between.1,
      )
      go false false e f = (
        λ same. (lt_z_no (true_holds (not (lt_z the_value the_low)) (ap not e)), lt_z_no (true_holds (not (lt_z the_high the_value)) (ap not f))),
        λ between. refl,
      )
