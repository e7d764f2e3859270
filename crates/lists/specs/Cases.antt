-- Cases in an order: the first that holds wins, as rules J1 and N50 have it. Assumes nothing.
use Rattle.std.specs.Prelude.{◌≡◌, Bool, true, false, cond, ◌↔◌, List, [], ◌∷◌, ◌++◌, map, ℕ}

-- a condition, and what comes of it where it holds
pub record Case (A : Type 0) : Type 0 where
  pub holds : Bool
  pub outcome : A

abbrev pub when : {A : Type 0} → Bool → A → Case A
when condition result = record { holds = condition; outcome = result }

-- the outcome of the first case that holds, or another where none does
unfoldable pub first_case : {A : Type 0} → List (Case A) → A → A
first_case [] otherwise = otherwise
first_case (this ∷ behind) otherwise = cond this.holds this.outcome (first_case behind otherwise)

-- cases with their outcomes seen in another way
abbrev pub mapped : {A B : Type 0} → (A → B) → List (Case A) → List (Case B)
mapped seen cases = map (λ this. when this.holds (seen this.outcome)) cases

-- ---- what is said of cases

-- the conditions of cases
abbrev pub conditions : {A : Type 0} → List (Case A) → List Bool
conditions cases = map (λ this. this.holds) cases

-- none of some conditions holds
abbrev pub NoneOf : List Bool → Type 0
NoneOf [] = Unit {0}
NoneOf (condition ∷ more) = (condition ≡ false) × NoneOf more

-- none of some conditions holds, and then this one does
abbrev pub FirstAfter : List Bool → Bool → Type 0
FirstAfter earlier this = NoneOf earlier × (this ≡ true)

-- a number is handed back by cases in their order, of different numbers, some of which were passed before: it is a case's exactly if none of the earlier ones
-- holds and this one does, and 0 exactly if none holds
abbrev pub InOrder : ℕ → List Bool → List (Case ℕ) → Type 0
InOrder number earlier [] = (number ≡ 0) ↔ NoneOf earlier
InOrder number earlier (this ∷ behind) =
    ((number ≡ this.outcome) ↔ FirstAfter earlier this.holds) × InOrder number (earlier ++ (this.holds ∷ [])) behind

-- the numbers that cases can hand back: theirs, and 0
abbrev pub numbers_of : List (Case ℕ) → List ℕ
numbers_of [] = 0 ∷ []
numbers_of (this ∷ behind) = this.outcome ∷ numbers_of behind
