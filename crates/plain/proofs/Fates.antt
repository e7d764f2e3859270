-- What a frame gets in plain numbers is what the order of judgement gives it: over a sound sheet of bytes every frame gets one fate and no other.
-- Assumes nothing.
use mathlib.Core.Path.{◌≡◌, refl, sym, subst, ◌∙◌}
use mathlib.Core.Bool.{Bool, true, false, cond, ◌||◌, true≢false}
use mathlib.Core.List.{List}
use mathlib.Core.Logic.{◌↔◌}
use Prim.Native.Nat.{ℕ}
use Rattle.sheet_rules.specs.Rules.{sound}
use Rattle.bank_rules.specs.Calls.{Lent}
use Rattle.meter_rules.specs.Steps.{fails_check, other_station, function_not_allowed, wrong_length, wrong_count, wrong_address, wrong_value, bad_write}
use Rattle.meter_rules.proofs.Soundness.{open_write}
use Rattle.plain.specs.Numbers.{Bytes}
use Rattle.plain.specs.Frame as plain
use Rattle.plain.specs.Frame.{Fate, silence, error, good, Gets}
use Rattle.plain.proofs.Conditions.{Tells, whole_tells, station_tells, allowed_tells, length_tells, count_tells}
use Rattle.plain.proofs.Addresses.{address_tells}
use Rattle.plain.proofs.Values.{value_tells}

-- a test that is not passed is true
pub fails : {wrong : Bool} {Right : Type 0} → Tells wrong Right → (Right → ⊥) → wrong ≡ true
fails {wrong} tells not_right = go wrong refl
  where
    go : (b : Bool) → wrong ≡ b → wrong ≡ true
    go true e = e
    go false e = absurd (not_right (tells.right e))

pub unmet : {wrong : Bool} {Right : Type 0} → Tells wrong Right → wrong ≡ true → Right → ⊥
unmet tells e right = true≢false (sym e ∙ tells.wrongly right)

-- the fate that seven tests give, one after the other
abbrev pub tested : Bool → Bool → Bool → Bool → Bool → Bool → Bool → Fate
tested a b c d e f g =
    cond a silence (cond b silence (cond c (error 1) (cond d silence (cond e (error 3) (cond f (error 2) (cond g (error 3) good))))))

module _ (given : Lent) (frame : List ℕ) (keeps : sound given.sheet ≡ true) (bytes : Bytes given.sheet) where
  abbrev pub judged_fate : Fate
  judged_fate =
      tested (fails_check frame) (other_station given frame) (function_not_allowed given.sheet frame) (wrong_length frame) (wrong_count given.sheet frame)
      (wrong_address given frame) (wrong_value frame || bad_write given frame)

  -- the seventh test says what it should once the sixth is passed
  value_tells_then : wrong_address given frame ≡ false → Tells (wrong_value frame || bad_write given frame) (plain.RightValue given frame)
  value_tells_then right = value_tells given frame keeps (λ write. (open_write given frame write right).all)

  pub gets_judged : {fate : Fate} → Gets given frame fate → fate ≡ judged_fate
  gets_judged (plain.not_whole a) = simp (fails (whole_tells frame) a)
  gets_judged (plain.other_station p a) = simp ((whole_tells frame).wrongly p, fails (station_tells given frame) a)
  gets_judged (plain.not_allowed p q a) =
      simp ((whole_tells frame).wrongly p, (station_tells given frame).wrongly q, fails (allowed_tells given.sheet frame) a)
  gets_judged (plain.wrong_length p q r a) =
      simp ((whole_tells frame).wrongly p, (station_tells given frame).wrongly q, (allowed_tells given.sheet frame).wrongly r, fails (length_tells frame) a)
  gets_judged (plain.wrong_count p q r s a) =
      simp (
        (whole_tells frame).wrongly p,
        (station_tells given frame).wrongly q,
        (allowed_tells given.sheet frame).wrongly r,
        (length_tells frame).wrongly s,
        fails (count_tells given.sheet frame) a,
      )
  gets_judged (plain.wrong_address p q r s t a) =
      simp (
        (whole_tells frame).wrongly p,
        (station_tells given frame).wrongly q,
        (allowed_tells given.sheet frame).wrongly r,
        (length_tells frame).wrongly s,
        (count_tells given.sheet frame).wrongly t,
        fails (address_tells given keeps bytes frame) a,
      )
  gets_judged (plain.wrong_value p q r s t u a) =
      let right = (address_tells given keeps bytes frame).wrongly u in
      simp (
        (whole_tells frame).wrongly p,
        (station_tells given frame).wrongly q,
        (allowed_tells given.sheet frame).wrongly r,
        (length_tells frame).wrongly s,
        (count_tells given.sheet frame).wrongly t,
        right,
        fails (value_tells_then right) a,
      )
  gets_judged (plain.all_right p q r s t u v) =
      let right = (address_tells given keeps bytes frame).wrongly u in
      simp (
        (whole_tells frame).wrongly p,
        (station_tells given frame).wrongly q,
        (allowed_tells given.sheet frame).wrongly r,
        (length_tells frame).wrongly s,
        (count_tells given.sheet frame).wrongly t,
        right,
        (value_tells_then right).wrongly v,
      )

  pub judged_gets : Gets given frame judged_fate
  judged_gets =
      go (fails_check frame) (other_station given frame) (function_not_allowed given.sheet frame) (wrong_length frame) (wrong_count given.sheet frame)
      (wrong_address given frame) (wrong_value frame || bad_write given frame) refl refl refl refl refl refl refl
    where
      whole : Tells (fails_check frame) (plain.Whole frame)
      whole = whole_tells frame

      ours : Tells (other_station given frame) (plain.OurStation given frame)
      ours = station_tells given frame

      may : Tells (function_not_allowed given.sheet frame) (plain.Allowed given.sheet frame)
      may = allowed_tells given.sheet frame

      long : Tells (wrong_length frame) (plain.RightLength frame)
      long = length_tells frame

      counted : Tells (wrong_count given.sheet frame) (plain.RightCount given.sheet frame)
      counted = count_tells given.sheet frame

      placed : Tells (wrong_address given frame) (plain.RightAddress given frame)
      placed = address_tells given keeps bytes frame

      go : (a b c d e f g : Bool) → fails_check frame ≡ a → other_station given frame ≡ b → function_not_allowed given.sheet frame ≡ c → wrong_length frame ≡ d
          → wrong_count given.sheet frame ≡ e → wrong_address given frame ≡ f → (wrong_value frame || bad_write given frame) ≡ g
          → Gets given frame (tested a b c d e f g)
      go true b c d e f g p q r s t u v = plain.not_whole (unmet whole p)
      go false true c d e f g p q r s t u v = plain.other_station (whole.right p) (unmet ours q)
      go false false true d e f g p q r s t u v = plain.not_allowed (whole.right p) (ours.right q) (unmet may r)
      go false false false true e f g p q r s t u v = plain.wrong_length (whole.right p) (ours.right q) (may.right r) (unmet long s)
      go false false false false true f g p q r s t u v =
          plain.wrong_count (whole.right p) (ours.right q) (may.right r) (long.right s) (unmet counted t)
      go false false false false false true g p q r s t u v =
          plain.wrong_address (whole.right p) (ours.right q) (may.right r) (long.right s) (counted.right t) (unmet placed u)
      go false false false false false false true p q r s t u v =
          plain.wrong_value (whole.right p) (ours.right q) (may.right r) (long.right s) (counted.right t) (placed.right u)
          (unmet (value_tells_then u) v)
      go false false false false false false false p q r s t u v =
          plain.all_right (whole.right p) (ours.right q) (may.right r) (long.right s) (counted.right t) (placed.right u)
          ((value_tells_then u).right v)

  -- both directions
  pub gets_exactly : (fate : Fate) → Gets given frame fate ↔ (judged_fate ≡ fate)
  gets_exactly fate = (λ gets. sym (gets_judged gets), λ e. subst (Gets given frame) e judged_gets)

  pub one_fate : {one other : Fate} → Gets given frame one → Gets given frame other → one ≡ other
  one_fate p q = gets_judged p ∙ sym (gets_judged q)
