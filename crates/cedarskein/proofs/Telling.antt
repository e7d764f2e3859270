-- From the library's outcomes to what the firmware is handed. Assumes nothing.
use mathlib.Core.Path.{◌≡◌, ap, ◌∙◌}
use mathlib.Core.List.{List}
use Prim.Native.Nat.{ℕ}
use Rattle.refusals.specs.Answers.{answer_number, Answer}
use Rattle.bank_rules.specs.Calls.{BankOutcome, bank_outcome}
use Rattle.ring_rules.specs.Calls.{RingOutcome, ring_outcome}
use Rattle.cedarskein.specs.Door.{told, told_of, ring_told, ring_told_of}

pub number_told : (answer : Answer) (left : List ℕ) (outcome : BankOutcome) {number : ℕ} → bank_outcome answer left ≡ outcome
    → number ≡ answer_number answer → told number left ≡ told_of outcome
number_told answer left outcome made is = ap (λ (n : ℕ). told n left) is ∙ ap told_of made

pub ring_number_told : (answer : Answer) (left : List ℕ) (outcome : RingOutcome) {number : ℕ} → ring_outcome answer left ≡ outcome
    → number ≡ answer_number answer → ring_told number left ≡ ring_told_of outcome
ring_number_told answer left outcome made is = ap (λ (n : ℕ). ring_told n left) is ∙ ap ring_told_of made
