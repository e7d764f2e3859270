-- Walks over rows and over numbers: the one at hand, and those behind it. Assumes nothing.
use mathlib.Core.Path.{◌≡◌, sym, ap, ◌∙◌}
use mathlib.Core.Bool.{Bool, true, false, ◌&&◌}
use mathlib.Core.List.{List, [], ◌∷◌}
use Prim.Native.Nat.{ℕ, suc, ◌+◌, ◌-◌, ◌≤◌, ◌<◌}
use native.Mathlib.Omega.{arith}
use Rattle.lists.specs.Lists.{rows, each, up_from}

-- the rows that are left: the next one, and those behind it
module _ {A : Type 0} (row : ℕ → A) where
  pub rows_on : (k count : ℕ) → k < count → rows row k (count - k) ≡ row k ∷ rows row (k + 1) (count - (k + 1))
  unfolding rows
  rows_on k count inside =
      ap (λ (n : ℕ). rows row k n) (more) ∙ ap (λ (n : ℕ). row k ∷ rows row n (count - (k + 1))) next
    where
      more : count - k ≡ suc (count - (k + 1))
      more = omega arith

      next : suc k ≡ k + 1
      next = omega arith

  pub rows_end_lem : (k count : ℕ) → count ≤ k → rows row k (count - k) ≡ []
  unfolding rows
  rows_end_lem k count past = ap (λ (n : ℕ). rows row k n) none
    where
      none : count - k ≡ 0
      none = omega arith

  pub rows_all : (count : ℕ) → rows row 0 (count - 0) ≡ rows row 0 count
  rows_all count = ap (λ (n : ℕ). rows row 0 n) same
    where
      same : count - 0 ≡ count
      same = omega arith

-- the numbers that are left: the next one, and those behind it
pub up_on : (first k count : ℕ) → k < count → up_from first (count - k) ≡ first ∷ up_from (first + 1) (count - (k + 1))
unfolding up_from
up_on first k count inside =
    ap (up_from first) more ∙ ap (λ (n : ℕ). first ∷ up_from n (count - (k + 1))) next
  where
    more : count - k ≡ suc (count - (k + 1))
    more = omega arith

    next : suc first ≡ first + 1
    next = omega arith

pub up_end : (first k count : ℕ) → count ≤ k → up_from first (count - k) ≡ []
unfolding up_from
up_end first k count past = ap (up_from first) none
  where
    none : count - k ≡ 0
    none = omega arith

pub up_all : (first count : ℕ) → up_from first (count - 0) ≡ up_from first count
up_all first count = ap (up_from first) all
  where
    all : count - 0 ≡ count
    all = omega arith

-- a rule of each of a list, where the list's first row is at hand
module _ {A : Type 0} (rule : A → Bool) (l behind : List A) (row : A) (here : l ≡ row ∷ behind) (whole : Bool) (left : each rule l ≡ whole) where
  pub each_goes_on : rule row ≡ true → each rule behind ≡ whole
  unfolding each
  each_goes_on holds =
      sym (ap (each rule) here ∙ ap (λ (b : Bool). b && each rule behind) holds) ∙ left

  pub each_stops : rule row ≡ false → whole ≡ false
  unfolding each
  each_stops fails = sym left ∙ ap (each rule) here ∙ ap (λ (b : Bool). b && each rule behind) fails

pub each_ends : {A : Type 0} (rule : A → Bool) (l : List A) (whole : Bool) → l ≡ [] → each rule l ≡ whole → whole ≡ true
unfolding each
each_ends rule l whole none left = sym left ∙ ap (each rule) none
