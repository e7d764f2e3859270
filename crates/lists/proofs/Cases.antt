-- Cases in an order: each one's outcome comes exactly if its condition holds and none does that comes before it. Assumes nothing.
use mathlib.Core.Path.{◌≡◌, refl, sym, ap, ◌∙◌}
use mathlib.Core.Bool.{Bool, true, false, not, ◌&&◌, cond, true≢false}
use mathlib.Core.List.{List, [], ◌∷◌, ◌++◌}
use Prim.Native.Nat.{ℕ}
use lib.Dec.{eqb}
use borrow.Author.Tests.{eqb-false, not-true}
use Rattle.lists.specs.Lists.{each}
use Rattle.lists.specs.Cases.{Case, first_case, mapped, conditions, NoneOf, FirstAfter, InOrder, numbers_of}
use Rattle.lists.proofs.Tests.{first_of, second_of_lem}
use Rattle.lists.proofs.Among.{Among, there, among_same}

-- a number is none of the cases'
unfoldable pub apart : ℕ → List (Case ℕ) → Bool
unfolding each
apart number cases = each (λ (this : Case ℕ). not (eqb this.outcome number)) cases

-- no two cases have one number, and none has 0
unfoldable pub differ : List (Case ℕ) → Bool
unfolding apart
differ [] = true
differ (this ∷ behind) = not (eqb this.outcome 0) && apart this.outcome behind && differ behind

-- ---- conditions one after the other

none_more : (earlier : List Bool) (this : Bool) → NoneOf earlier → this ≡ false → NoneOf (earlier ++ (this ∷ []))
none_more [] this none e = (e, tt)
none_more (condition ∷ earlier) this none e = (none.0, none_more earlier this none.1 e)

none_front : (earlier : List Bool) (this : Bool) → NoneOf (earlier ++ (this ∷ [])) → NoneOf earlier
none_front [] this none = tt
none_front (condition ∷ earlier) this none = (none.0, none_front earlier this none.1)

none_last : (earlier : List Bool) (this : Bool) → NoneOf (earlier ++ (this ∷ [])) → this ≡ false
none_last [] this none = none.0
none_last (condition ∷ earlier) this none = none_last earlier this none.1

-- ---- the law

not_equal : (a b : ℕ) → not (eqb a b) ≡ true → a ≡ b → ⊥
not_equal a b e = eqb-false a b (not-true (eqb a b) e)

apart_here : (number : ℕ) (this : Case ℕ) (behind : List (Case ℕ)) → apart number (this ∷ behind) ≡ true → number ≡ this.outcome → ⊥
unfolding apart each
apart_here number this behind e same =
    not_equal this.outcome number (first_of (not (eqb this.outcome number)) (apart number behind) e) (sym same)

apart_behind : (number : ℕ) (this : Case ℕ) (behind : List (Case ℕ)) → apart number (this ∷ behind) ≡ true → apart number behind ≡ true
unfolding apart each
apart_behind number this behind e = second_of_lem (not (eqb this.outcome number)) (apart number behind) e

-- a number that is none of the cases' and not 0 is not handed back
apart_first : (number : ℕ) (cases : List (Case ℕ)) → (0 ≡ number → ⊥) → apart number cases ≡ true → first_case cases 0 ≡ number → ⊥
unfolding first_case
apart_first number [] some e = some
apart_first number (this ∷ behind) some e =
    go this.holds (apart_first number behind some (apart_behind number this behind e))
  where
    go : (holds : Bool) → (first_case behind 0 ≡ number → ⊥) → cond holds this.outcome (first_case behind 0) ≡ number → ⊥
    go true rest same = apart_here number this behind e (sym same)
    go false rest same = rest same

module _ (number : ℕ) where
  -- an earlier case holds: its number is none of those behind
  told_before : (earlier : List Bool) (cases : List (Case ℕ)) → (NoneOf earlier → ⊥) → (number ≡ 0 → ⊥) → apart number cases ≡ true
      → InOrder number earlier cases
  told_before earlier [] one some e = (λ zero. absurd (some zero), λ none. absurd (one none))
  told_before earlier (this ∷ behind) one some e = (
    (λ same. absurd (apart_here number this behind e same), λ first. absurd (one first.0)),
    told_before (earlier ++ (this.holds ∷ [])) behind (λ none. one (none_front earlier this.holds none)) some
        (apart_behind number this behind e),
  )

  -- none of the earlier cases holds: the first of those left that holds gives its number
  told_after : (earlier : List Bool) (cases : List (Case ℕ)) → NoneOf earlier → differ cases ≡ true → number ≡ first_case cases 0
      → InOrder number earlier cases
  unfolding first_case differ
  told_after earlier [] none e is = (λ zero. none, λ all. is)
  told_after earlier (this ∷ behind) none e is =
      go this.holds refl is (λ left. told_after (earlier ++ (this.holds ∷ [])) behind left rest)
    where
      some : this.outcome ≡ 0 → ⊥
      some =
          not_equal this.outcome 0
          (first_of (not (eqb this.outcome 0)) (apart this.outcome behind)
          (first_of (not (eqb this.outcome 0) && apart this.outcome behind) (differ behind) e))

      others : apart this.outcome behind ≡ true
      others =
          second_of_lem (not (eqb this.outcome 0)) (apart this.outcome behind)
          (first_of (not (eqb this.outcome 0) && apart this.outcome behind) (differ behind) e)

      rest : differ behind ≡ true
      rest = second_of_lem (not (eqb this.outcome 0) && apart this.outcome behind) (differ behind) e

      go : (holds : Bool) → this.holds ≡ holds → number ≡ cond holds this.outcome (first_case behind 0)
          → (NoneOf (earlier ++ (this.holds ∷ [])) → number ≡ first_case behind 0 → InOrder number (earlier ++ (this.holds ∷ [])) behind)
          → InOrder number earlier (this ∷ behind)
      go true h is again = (
        (λ same. (none, h), λ first. is),
        told_before (earlier ++ (this.holds ∷ [])) behind
            (λ all. true≢false (sym h ∙ none_last earlier this.holds all))
            (λ zero. some (sym is ∙ zero)) (ap (λ (n : ℕ). apart n behind) is ∙ others),
      )
      go false h is again = (
        (
          λ same. absurd (apart_first this.outcome behind (λ zero. some (sym zero)) others (sym is ∙ same)),
          λ first. absurd (true≢false (sym first.1 ∙ h)),
        ),
        again (none_more earlier this.holds none h) is,
      )

-- ---- a number that cases hand back is one of theirs, or 0

pub told_among : (number : ℕ) (earlier : List Bool) (cases : List (Case ℕ)) → NoneOf earlier → InOrder number earlier cases
    → Among number (numbers_of cases)
told_among number earlier [] none told = among_same (told.1 none)
told_among number earlier (this ∷ behind) none told =
    go this.holds refl
    (λ e. told_among number (earlier ++ (this.holds ∷ [])) behind (none_more earlier this.holds none e) told.1)
  where
    go : (holds : Bool) → this.holds ≡ holds → (this.holds ≡ false → Among number (numbers_of behind))
        → Among number (this.outcome ∷ numbers_of behind)
    go true e rest = among_same (told.0.1 (none, e))
    go false e rest = there (rest e)

-- ---- cases and their conditions

module _ {A : Type 0} where
  -- where none holds, it is the other outcome
  pub first_none : (cases : List (Case A)) (otherwise : A) → NoneOf (conditions cases) → first_case cases otherwise ≡ otherwise
  unfolding first_case
  first_none [] otherwise none = refl
  first_none (this ∷ behind) otherwise none =
      ap (λ (b : Bool). cond b this.outcome (first_case behind otherwise)) none.0 ∙ first_none behind otherwise none.1

  -- where none in front holds and then this one does, it is its own
  pub first_after : (front : List (Case A)) (this : Case A) (behind : List (Case A)) (otherwise : A) → FirstAfter (conditions front) this.holds
      → first_case (front ++ (this ∷ behind)) otherwise ≡ this.outcome
  unfolding first_case
  first_after [] this behind otherwise first = ap (λ (b : Bool). cond b this.outcome (first_case behind otherwise)) first.1
  first_after (other ∷ front) this behind otherwise first =
      ap (λ (b : Bool). cond b other.outcome (first_case (front ++ (this ∷ behind)) otherwise)) first.0.0
      ∙ first_after front this behind otherwise (first.0.1, first.1)

  -- where one in front holds, it is one of those in front: what a test tells of all of these it tells of it
  pub first_in_front : (test : A → Bool) (front behind : List (Case A)) (otherwise : A) → each (λ this. test this.outcome) front ≡ true
      → (NoneOf (conditions front) → ⊥) → test (first_case (front ++ behind) otherwise) ≡ true
  unfolding first_case each
  first_in_front test [] behind otherwise all some = absurd (some tt)
  first_in_front test (this ∷ front) behind otherwise all some =
      go this.holds refl
      (λ none_here. first_in_front test front behind otherwise (second_of_lem (test this.outcome) (each (λ this. test this.outcome) front) all)
      (λ none. some (none_here, none)))
    where
      go : (holds : Bool) → this.holds ≡ holds → (this.holds ≡ false → test (first_case (front ++ behind) otherwise) ≡ true)
          → test (cond holds this.outcome (first_case (front ++ behind) otherwise)) ≡ true
      go true e rest = first_of (test this.outcome) (each (λ this. test this.outcome) front) all
      go false e rest = rest e

  -- where it is another outcome than any of the cases has, as a test tells, none holds
  pub none_holds : (test : A → Bool) (cases : List (Case A)) (otherwise : A) → each (λ this. not (test this.outcome)) cases ≡ true
      → test (first_case cases otherwise) ≡ true → NoneOf (conditions cases)
  unfolding first_case each
  none_holds test [] otherwise others e = tt
  none_holds test (this ∷ behind) otherwise others e =
      go this.holds refl e
      (none_holds test behind otherwise (second_of_lem (not (test this.outcome)) (each (λ this. not (test this.outcome)) behind) others))
    where
      go : (holds : Bool) → this.holds ≡ holds → test (cond holds this.outcome (first_case behind otherwise)) ≡ true
          → (test (first_case behind otherwise) ≡ true → NoneOf (conditions behind))
          → NoneOf (conditions (this ∷ behind))
      go true h e rest =
          absurd (true≢false (sym e
          ∙ not-true (test this.outcome) (first_of (not (test this.outcome)) (each (λ this. not (test this.outcome)) behind) others)))
      go false h e rest = (h, rest e)

-- cases with their outcomes seen in another way: the first that holds is the same
module _ {A B : Type 0} (seen : A → B) where
  pub mapped_first : (cases : List (Case A)) (otherwise : A) → seen (first_case cases otherwise) ≡ first_case (mapped seen cases) (seen otherwise)
  unfolding first_case
  mapped_first [] otherwise = refl
  mapped_first (this ∷ behind) otherwise = go this.holds (mapped_first behind otherwise)
    where
      go : (holds : Bool) → seen (first_case behind otherwise) ≡ first_case (mapped seen behind) (seen otherwise)
          → seen (cond holds this.outcome (first_case behind otherwise)) ≡ cond holds (seen this.outcome) (first_case (mapped seen behind) (seen otherwise))
      go true rest = refl
      go false rest = rest

module _ {A : Type 0} (number : A → ℕ) where
  -- an answer's number is handed back by its cases in their order, where no two have one number
  pub told_in_order : (cases : List (Case A)) (otherwise : A) → number otherwise ≡ 0 → differ (mapped number cases) ≡ true
      → InOrder (number (first_case cases otherwise)) [] (mapped number cases)
  told_in_order cases otherwise none e =
      told_after (number (first_case cases otherwise)) [] (mapped number cases) tt e
      (mapped_first number cases otherwise ∙ ap (first_case (mapped number cases)) none)
