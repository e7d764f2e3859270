-- The outcome of a call on a bank, from what it answers: a refusal leaves the bank, and a call that is done makes its stores.
-- Assumes nothing.
use mathlib.Core.Path.{◌≡◌, sym, ap, ◌∙◌}
use mathlib.Core.List.{List}
use Prim.Native.Nat.{ℕ}
use Rattle.std.specs.Prelude.{Err}
use Rattle.refusals.specs.declared.Refusal.{Refusal}
use Rattle.refusals.specs.Answers.{Answer, call_done}
use Rattle.bank_rules.specs.Stores.{Store, stored}
use Rattle.bank_rules.specs.Calls.{bank_outcome, effect_of}

module _ (bank : List ℕ) (stores : List Store) {answer : Answer} where
  pub outcome_refused : {refused : Answer} {refusal : Refusal} → refused ≡ Err refusal → answer ≡ Err refusal
      → bank_outcome refused bank ≡ bank_outcome answer (stored bank (effect_of answer stores))
  unfolding stored
  outcome_refused told is =
      ap (λ (a : Answer). bank_outcome a bank) told ∙ ap (λ (a : Answer). bank_outcome a (stored bank (effect_of a stores))) (sym is)

  pub outcome_done : {made : List ℕ} → answer ≡ call_done → made ≡ stored bank stores
      → bank_outcome call_done made ≡ bank_outcome answer (stored bank (effect_of answer stores))
  outcome_done is e = ap (bank_outcome call_done) e ∙ ap (λ (a : Answer). bank_outcome a (stored bank (effect_of a stores))) (sym is)
