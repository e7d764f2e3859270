-- A row among rows, and a place among places. Assumes nothing.
use mathlib.Core.Path.{◌≡◌, refl, ap, subst, ◌∙◌, ap₂, sym}
use mathlib.Core.Bool.{Bool, true, false, ◌||◌, false≢true, ◌&&◌}
use mathlib.Core.List.{List, [], ◌∷◌, ◌++◌}
use mathlib.Core.Logic.{◌⊎◌, inl, inr}
use Prim.Native.Nat.{ℕ, zero, suc, ◌+◌, ◌≤◌, ◌<◌}
use native.Mathlib.Omega.{arith}
use Rattle.lists.specs.Lists.{rows, each, some, up_from}
use Rattle.lists.proofs.Tests.{first_of, second_of_lem}

pub data Among {A : Type 0} (a : A) : List A → Type 0 where
  here : {l : List A} → Among a (a ∷ l)
  there : {b : A} {l : List A} → Among a l → Among a (b ∷ l)

module _ {A : Type 0} where
  pub among_nil : {a : A} → Among a [] → ⊥
  among_nil m = elim m [ ]

  pub among_cons : {a b : A} {l : List A} → Among a (b ∷ l) → (a ≡ b) ⊎ Among a l
  among_cons here = inl refl
  among_cons (there m) = inr m

  pub among_same : {a b : A} {l : List A} → a ≡ b → Among a (b ∷ l)
  among_same {a} {b} {l} e = subst (λ (c : A). Among a (c ∷ l)) e here

  pub among_left : {a : A} {s : List A} (t : List A) → Among a s → Among a (s ++ t)
  among_left t here = here
  among_left t (there m) = there (among_left t m)

  pub among_right : {a : A} (s : List A) {t : List A} → Among a t → Among a (s ++ t)
  among_right [] m = m
  among_right (x ∷ s) m = there (among_right s m)

  pub among_append : {a : A} (s t : List A) → Among a (s ++ t) → Among a s ⊎ Among a t
  among_append [] t m = inr m
  among_append (x ∷ s) t here = inl here
  among_append (x ∷ s) t (there m) = more (among_append s t m)
    where
      more : {a : A} → Among a s ⊎ Among a t → Among a (x ∷ s) ⊎ Among a t
      more (inl m) = inl (there m)
      more (inr m) = inr m

  -- a row is among the rows, and what is among them is a row
  pub row_among : (row : ℕ → A) (from count k : ℕ) → k < count → Among (row (from + k)) (rows row from count)
  unfolding rows
  row_among row from zero k inside = absurd (omega arith)
  row_among row from (suc count) zero inside =
      subst (λ (n : ℕ). Among (row n) (row from ∷ rows row (suc from) count)) (omega arith) here
  row_among row from (suc count) (suc k) inside =
      subst (λ (n : ℕ). Among (row n) (row from ∷ rows row (suc from) count)) (omega arith)
      (there (row_among row (suc from) count k (omega arith)))

  pub among_row : (row : ℕ → A) (from count : ℕ) {a : A} → Among a (rows row from count) → (k : ℕ) × (k < count) × (a ≡ row (from + k))
  unfolding rows
  among_row row from zero m = absurd (among_nil m)
  among_row row from (suc count) m = go m (λ r. among_row row (suc from) count r)
    where
      go : {a : A} → Among a (row from ∷ rows row (suc from) count)
          → (Among a (rows row (suc from) count) → (k : ℕ) × (k < count) × (a ≡ row (suc from + k)))
          → (k : ℕ) × (k < suc count) × (a ≡ row (from + k))
      go here rest = (0, omega arith, ap row (omega arith))
      go (there r) rest =
          let found = rest r in
          (suc found.0, omega arith, found.2 ∙ ap row (omega arith))

  -- a rule of each row, and of some row
  pub each_among : (rule : A → Bool) {a : A} {l : List A} → Among a l → each rule l ≡ true → rule a ≡ true
  unfolding each
  each_among rule {a} (here {l = l}) e = first_of (rule a) (each rule l) e
  each_among rule (there {b = b} {l = l} m) e = each_among rule m (second_of_lem (rule b) (each rule l) e)

  pub among_some : (rule : A → Bool) {a : A} {l : List A} → Among a l → rule a ≡ true → some rule l ≡ true
  unfolding some
  among_some rule {a} (here {l = l}) e = ap (λ (b : Bool). b || some rule l) e
  among_some rule (there {b = b} {l = l} m) e = go (rule b) (among_some rule m e)
    where
      go : (x : Bool) → some rule l ≡ true → (x || some rule l) ≡ true
      go true e = refl
      go false e = e

  pub some_among : (rule : A → Bool) (l : List A) → some rule l ≡ true → (a : A) × Among a l × (rule a ≡ true)
  unfolding some
  some_among rule [] e = absurd (false≢true e)
  some_among rule (b ∷ l) e = go (rule b) refl e (some_among rule l)
    where
      go : (x : Bool) → rule b ≡ x → (x || some rule l) ≡ true → (some rule l ≡ true → (a : A) × Among a l × (rule a ≡ true))
          → (a : A) × Among a (b ∷ l) × (rule a ≡ true)
      go true says e rest = (b, here, says)
      go false says e rest =
          let found = rest e in
          (found.0, there found.1, found.2)

-- numbers one after the other
pub up_among : (first count k : ℕ) → k < count → Among (first + k) (up_from first count)
unfolding up_from
up_among first zero k inside = absurd (omega arith)
up_among first (suc count) zero inside =
    subst (λ (n : ℕ). Among n (first ∷ up_from (suc first) count)) (omega arith) here
up_among first (suc count) (suc k) inside =
    subst (λ (n : ℕ). Among n (first ∷ up_from (suc first) count)) (omega arith)
    (there (up_among (suc first) count k (omega arith)))

pub among_up : (first count : ℕ) {n : ℕ} → Among n (up_from first count) → (first ≤ n) × (n < first + count)
unfolding up_from
among_up first zero m = absurd (among_nil m)
among_up first (suc count) m = go m (λ r. among_up (suc first) count r)
  where
    go : {n : ℕ} → Among n (first ∷ up_from (suc first) count)
        → (Among n (up_from (suc first) count) → (suc first ≤ n) × (n < suc first + count)) → (first ≤ n) × (n < first + suc count)
    go here rest = (omega arith, omega arith)
    go (there r) rest =
        let found = rest r in
        (omega arith, omega arith)

pub up_each : (rule : ℕ → Bool) (first count : ℕ) → ((k : ℕ) → k < count → rule (first + k) ≡ true) → each rule (up_from first count) ≡ true
unfolding each up_from
up_each rule first zero all = refl
up_each rule first (suc count) all =
    let here : first + 0 ≡ first = omega arith in
    let later : (k : ℕ) → first + suc k ≡ suc first + k = λ k. omega arith in
    ap₂ (λ (a b : Bool). a && b) (ap rule (sym here) ∙ all 0 (omega arith))
    (up_each rule (suc first) count (λ k less. ap rule (sym (later k)) ∙ all (suc k) (omega arith)))
