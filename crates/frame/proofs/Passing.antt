-- What step 1 answers, read back: the frame passes and its parts are these, or it fails. Assumes nothing.
use mathlib.Core.Path.{◌≡◌, refl, sym, ◌∙◌}
use mathlib.Core.Bool.{Bool, true, false, cond}
use mathlib.Core.List.{List}
use Prim.Native.Nat.{ℕ}
use native.Mathlib.Omega.{arith}
use Rattle.std.specs.Prelude.{Option, Some, None}
use Rattle.check_value.specs.Frame.{passes}
use Rattle.frame.specs.declared.Parts.{Parts}
use Rattle.frame.specs.Frame.{parts_of, passed_frame}

module _ (frame : List ℕ) {answer : (Option Parts)} (is : answer ≡ passed_frame frame) where
  pub passed_parts : {parts : Parts} → answer ≡ Some parts → parts ≡ parts_of frame
  unfolding passed_frame
  passed_parts {parts} told = go (passes frame) (sym told ∙ is)
    where
      go : (b : Bool) → Some parts ≡ cond b (Some (parts_of frame)) None → parts ≡ parts_of frame
      go true e = cc
      go false e = let z : ◌≡◌ {A = ℕ} 0 1 = cc in absurd (omega arith)

  pub passed_true : {parts : Parts} → answer ≡ Some parts → passes frame ≡ true
  unfolding passed_frame
  passed_true {parts} told = go (passes frame) (sym told ∙ is)
    where
      go : (b : Bool) → Some parts ≡ cond b (Some (parts_of frame)) None → b ≡ true
      go true e = refl
      go false e = let z : ◌≡◌ {A = ℕ} 0 1 = cc in absurd (omega arith)

  pub passed_false : answer ≡ None → passes frame ≡ false
  unfolding passed_frame
  passed_false told = go (passes frame) (sym told ∙ is)
    where
      go : (b : Bool) → None ≡ cond b (Some (parts_of frame)) None → b ≡ false
      go true e = let z : ◌≡◌ {A = ℕ} 0 1 = cc in absurd (omega arith)
      go false e = refl
