-- `bank::post` meets its contract: the check's refusals first, then 7, then 6, then the stores. Assumes nothing.
use Rattle.std.proofs.Common.{◌≡◌, ℕ, ◌/◌, ◌%◌, ◌<◌, Bool, true, false, not, ◌||◌, List, [], ◌∷◌, length, refl, sym, ap, ◌∙◌, arith, true≢false, Err}
use Rattle.std.proofs.lemmas.Bool.{eqb-false}
use lib.Dec.{eqb}
use Rattle.lists.specs.Cases.{Case, when, first_case}
use Rattle.refusals.specs.declared.Refusal.{Refusal}
use Rattle.refusals.specs.declared.Refusal.TheVariants.{BadInput, NotReadOnly}
use Rattle.refusals.specs.Answers.{answer_by, Answer, call_done}
use Rattle.refusals.proofs.Answers.{front_refuses, front_passes, refused_here, passed_here}
use Rattle.bank_rules.specs.Bank.{posted_run, all_read_only, empty_or_odd, post_stores}
use Rattle.bank_rules.specs.Calls.{Lent, lent, bad_address, check_refusals, check_answer, post_answer, post_outcome}
use Rattle.bank_rules.proofs.Posting.{read_only_run}
use Rattle.bank.proofs.Refusals.{outcome_refused, outcome_done}
use Rattle.bank.proofs.post.Goals as goal

-- the refusals behind the bank's own check
abbrev these_bytes : List ℕ → Case Refusal
these_bytes bytes = when (empty_or_odd bytes) BadInput

abbrev this_address : Lent → ℕ → List ℕ → Case Refusal
this_address given address bytes = when (bad_address given address bytes) NotReadOnly

abbrev further : Lent → ℕ → List ℕ → List (Case Refusal)
further given address bytes = these_bytes bytes ∷ this_address given address bytes ∷ []

module _ (given : Lent) (address : ℕ) (bytes : List ℕ) {checked : Answer} (is : checked ≡ check_answer given) (told : checked ≡ call_done) where
  bytes_refused : empty_or_odd bytes ≡ true → post_answer given address bytes ≡ Err BadInput
  unfolding post_answer check_answer
  bytes_refused bad =
      front_passes (check_refusals given) (further given address bytes) is told
      ∙ refused_here (these_bytes bytes) (this_address given address bytes ∷ []) bad

  behind_bytes : empty_or_odd bytes ≡ false → post_answer given address bytes ≡ answer_by (this_address given address bytes ∷ [])
  unfolding post_answer check_answer
  behind_bytes even =
      front_passes (check_refusals given) (further given address bytes) is told
      ∙ passed_here (these_bytes bytes) (this_address given address bytes ∷ []) even

  address_refused : empty_or_odd bytes ≡ false → all_read_only given.sheet (posted_run address bytes) ≡ false
      → post_answer given address bytes ≡ Err NotReadOnly
  address_refused even bad = behind_bytes even ∙ refused_here (this_address given address bytes) [] (ap not bad)

  post_passes : empty_or_odd bytes ≡ false → all_read_only given.sheet (posted_run address bytes) ≡ true → post_answer given address bytes ≡ call_done
  unfolding first_case
  post_passes even right = behind_bytes even ∙ passed_here (this_address given address bytes) [] (ap not right)

-- bytes that are neither none nor odd are some words
some_posted : (bytes : List ℕ) → empty_or_odd bytes ≡ false → 0 < length bytes / 2
some_posted bytes even = go (eqb (length bytes) 0) refl even
  where
    go : (none : Bool) → eqb (length bytes) 0 ≡ none → (none || eqb (length bytes % 2) 1) ≡ false → 0 < length bytes / 2
    go true e odd = absurd (true≢false odd)
    go false e odd = omega (arith, eqb-false (length bytes) 0 e, eqb-false (length bytes % 2) 1 odd)

pub returns-in-Err : goal.returns-in-Err
unfolding post_outcome post_answer check_answer
returns-in-Err c =
    let a = c.args in
    let told = c.in-Err.is in
    outcome_refused a.bank.now (post_stores a.sheet.now a.address a.bytes.now) refl
    (front_refuses (check_refusals (lent a.sheet.now a.bank.now)) (further (lent a.sheet.now a.bank.now) a.address a.bytes.now)
    c.check.ensures told)

pub returns-then-empty_or_odd : goal.returns-then-empty_or_odd
unfolding post_outcome
returns-then-empty_or_odd c =
    let a = c.args in
    outcome_refused a.bank.now (post_stores a.sheet.now a.address a.bytes.now) refl
    (bytes_refused (lent a.sheet.now a.bank.now) a.address a.bytes.now c.check.ensures c.in-Ok.is
    (sym c.empty_or_odd.ensures ∙ c.if-empty_or_odd.true))

pub returns-then-not-all_read_only : goal.returns-then-not-all_read_only
unfolding post_outcome
returns-then-not-all_read_only c =
    let a = c.args in
    outcome_refused a.bank.now (post_stores a.sheet.now a.address a.bytes.now) refl
    (address_refused (lent a.sheet.now a.bank.now) a.address a.bytes.now c.check.ensures c.in-Ok.is
    (sym c.empty_or_odd.ensures ∙ c.if-empty_or_odd.false)
    (sym c.all_read_only.ensures ∙ c.if-not-all_read_only.true))

pub store_posted-requires : goal.store_posted-requires
store_posted-requires c =
    let a = c.args in
    read_only_run a.sheet.now (λ i. (c.type_inv.sheet i).fits) a.address (length a.bytes.now / 2)
    (some_posted a.bytes.now (sym c.empty_or_odd.ensures ∙ c.if-empty_or_odd.false))
    (sym c.all_read_only.ensures ∙ c.if-not-all_read_only.false)

pub returns : goal.returns
unfolding post_outcome
returns c =
    let a = c.args in
    outcome_done a.bank.now (post_stores a.sheet.now a.address a.bytes.now)
    (post_passes (lent a.sheet.now a.bank.now) a.address a.bytes.now c.check.ensures c.in-Ok.is
    (sym c.empty_or_odd.ensures ∙ c.if-empty_or_odd.false)
    (sym c.all_read_only.ensures ∙ c.if-not-all_read_only.false))
    c.store_posted.ensures
