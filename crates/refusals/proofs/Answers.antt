-- The answer of a call by its refusals in their order: what it is after those in front, and at the next one; its number comes in that
-- order. What all calls share is said here once, over the list of refusals. Assumes nothing.
use mathlib.Core.Path.{◌≡◌, refl, sym, ap, ◌∙◌}
use mathlib.Core.Bool.{Bool, true, false, cond}
use mathlib.Core.List.{List, [], ◌∷◌, ◌++◌}
use Prim.Native.Nat.{ℕ}
use native.Mathlib.Omega.{arith}
use Rattle.std.specs.Prelude.{Err}
use Rattle.lists.specs.Cases.{Case, first_case, mapped, conditions, NoneOf, InOrder}
use Rattle.lists.proofs.Cases.{differ, told_in_order}
use Rattle.refusals.specs.declared.Refusal.{Refusal}
use Rattle.refusals.specs.Answers.{answer_number, answer_by, Answer, call_done}

-- a refusal is not done
pub not_done : {refusal : Refusal} → Err refusal ≡ call_done → ⊥
not_done e = let z : ◌≡◌ {A = ℕ} 0 1 = cc in omega arith

-- a call that first makes the check of the refusals in front, and then has further ones
module _ (front further : List (Case Refusal)) {checked : Answer} (is : checked ≡ answer_by front) where
  -- what that check refuses the call refuses
  pub front_refuses : {refusal : Refusal} → checked ≡ Err refusal → answer_by (front ++ further) ≡ Err refusal
  unfolding first_case
  front_refuses {refusal} told = go front (sym is ∙ told)
    where
      go : (l : List (Case Refusal)) → answer_by l ≡ Err refusal → answer_by (l ++ further) ≡ Err refusal
      go [] e = absurd (not_done (sym e))
      go (this ∷ behind) e = at this.holds e (go behind)
        where
          at : (holds : Bool) → cond holds (Err this.outcome) (answer_by behind) ≡ Err refusal
              → (answer_by behind ≡ Err refusal → answer_by (behind ++ further) ≡ Err refusal)
              → cond holds (Err this.outcome) (answer_by (behind ++ further)) ≡ Err refusal
          at true e rest = e
          at false e rest = rest e

  -- where it refuses nothing, none of those in front holds, and the further ones decide
  pub front_passes : checked ≡ call_done → answer_by (front ++ further) ≡ answer_by further
  unfolding first_case
  front_passes told = go front (sym is ∙ told)
    where
      go : (l : List (Case Refusal)) → answer_by l ≡ call_done → answer_by (l ++ further) ≡ answer_by further
      go [] e = refl
      go (this ∷ behind) e = at this.holds e (go behind)
        where
          at : (holds : Bool) → cond holds (Err this.outcome) (answer_by behind) ≡ call_done
              → (answer_by behind ≡ call_done → answer_by (behind ++ further) ≡ answer_by further)
              → cond holds (Err this.outcome) (answer_by (behind ++ further)) ≡ answer_by further
          at true e rest = absurd (not_done e)
          at false e rest = rest e

-- the next refusal: its condition holds, or it is passed
module _ (this : Case Refusal) (behind : List (Case Refusal)) where
  pub refused_here : this.holds ≡ true → answer_by (this ∷ behind) ≡ Err this.outcome
  unfolding first_case
  refused_here e = ap (λ (holds : Bool). cond holds (Err this.outcome) (answer_by behind)) e

  pub passed_here : this.holds ≡ false → answer_by (this ∷ behind) ≡ answer_by behind
  unfolding first_case
  passed_here e = ap (λ (holds : Bool). cond holds (Err this.outcome) (answer_by behind)) e

-- a call that is done: none of its refusals holds
pub done_none : (refusals : List (Case Refusal)) → answer_by refusals ≡ call_done → NoneOf (conditions refusals)
unfolding first_case
done_none [] e = tt
done_none (this ∷ behind) e = at this.holds refl e (done_none behind)
  where
    at : (holds : Bool) → this.holds ≡ holds → cond holds (Err this.outcome) (answer_by behind) ≡ call_done
        → (answer_by behind ≡ call_done → NoneOf (conditions behind)) → NoneOf (conditions (this ∷ behind))
    at true h e rest = absurd (not_done e)
    at false h e rest = (h, rest e)

-- each number is handed back exactly if its condition holds and none does that comes before it, and 0 exactly if none holds
pub numbers_in_order : (refusals : List (Case Refusal)) → differ (mapped answer_number (mapped Err refusals)) ≡ true
    → InOrder (answer_number (answer_by refusals)) [] (mapped answer_number (mapped Err refusals))
numbers_in_order refusals e = told_in_order answer_number (mapped Err refusals) call_done refl e
