-- What the tests of a judgement say: of a call whose answer was negated, and of a chain of tests. Assumes nothing.
use mathlib.Core.Path.{◌≡◌, refl, sym, ◌∙◌}
use mathlib.Core.Bool.{Bool, true, false, not, ◌&&◌, ◌||◌, and-eq-true_iff, or-false, or-true}
use borrow.Author.Tests.{not-true, not-false}

-- a call answers what a rule says, and its answer was refused, or passed
pub refused : {answer rule : Bool} → answer ≡ rule → not answer ≡ true → rule ≡ false
refused {answer} says e = sym says ∙ not-true answer e

pub passed : {answer rule : Bool} → answer ≡ rule → not answer ≡ false → rule ≡ true
passed {answer} says e = sym says ∙ not-false answer e

-- a chain of tests grows by one: the last was tested, or the chain had failed before
pub tested : {old new rules rule : Bool} → old ≡ rules → old ≡ true → new ≡ rule → new ≡ (rules && rule)
tested says e here = rw (sym says ∙ e) here

pub carried : {old new rules : Bool} (rule : Bool) → old ≡ rules → old ≡ false → new ≡ old → new ≡ (rules && rule)
carried rule says e here = rw (sym says ∙ e) (here ∙ e)

-- what is not found here was found before or not at all
pub found_before : (before : Bool) {here : Bool} → here ≡ false → before ≡ (before || here)
found_before before none = simp (none, or-false)

pub found_here : (before : Bool) {here : Bool} → here ≡ true → true ≡ (before || here)
found_here before one = simp (one, or-true)

pub all_three : {first second third : Bool} → first ≡ true → second ≡ true → third ≡ true → (first && second && third) ≡ true
all_three p q r = simp (p, q, r)

-- what is left to sort a chain of rules, beside `and_assoc` and `and_comm`
pub and_left_comm : (a b c : Bool) → (a && (b && c)) ≡ (b && (a && c))
and_left_comm true b c = refl
and_left_comm false true c = refl
and_left_comm false false c = refl

-- both of two rules hold
pub first_of : (a b : Bool) → (a && b) ≡ true → a ≡ true
first_of a b e = ((and-eq-true_iff a b).0 e).0

pub second_of_lem : (a b : Bool) → (a && b) ≡ true → b ≡ true
second_of_lem a b e = ((and-eq-true_iff a b).0 e).1
