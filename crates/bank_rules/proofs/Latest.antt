-- What a list of stores leaves in a bank: at each place the word of the last store there, or the word from before where none is at it.
-- Assumes nothing.
use mathlib.Core.Path.{◌≡◌, refl, sym, ap, subst, ◌∙◌}
use mathlib.Core.Bool.{Bool, true, false, cond}
use mathlib.Core.List.{List, [], ◌∷◌, ◌++◌}
use Prim.Native.Nat.{ℕ, ◌+◌, ◌*◌, ◌<◌}
use native.Mathlib.Omega.{arith}
use lib.Dec.{eqb}
use lib.ListN.{length}
use borrow.Author.Tests.{eqb-true, eqb-false, eq-eqb, ne_eqb}
use Rattle.words.specs.Words.{with_word}
use Rattle.words.proofs.Stores.{word_same, word_other, word_length}
use Rattle.lists.proofs.Among.{Among, here, there}
use Rattle.bank_rules.specs.Stores.{Store, word_of, stored}

-- the word of the last store at a place, or a given one where no store is at it
unfoldable pub latest : List Store → ℕ → ℕ → ℕ
latest [] place before = before
latest (store ∷ stores) place before = latest stores place (cond (eqb store.place place) store.word before)

-- a place lies inside a bank, with both its bytes
abbrev pub PlaceInside : List ℕ → ℕ → Type 0
PlaceInside bank place = 2 * place + 1 < length bank

-- each store lies inside a bank
abbrev pub StoresInside : List ℕ → List Store → Type 0
StoresInside bank stores = (store : Store) → Among store stores → PlaceInside bank store.place

-- after one store
pub word_after : (bank : List ℕ) (place word at : ℕ) → PlaceInside bank place
    → word_of (with_word bank (2 * place) word) at ≡ cond (eqb place at) word (word_of bank at)
word_after bank place word at inside = go (eqb place at) refl
  where
    go : (same : Bool) → eqb place at ≡ same → word_of (with_word bank (2 * place) word) at ≡ cond same word (word_of bank at)
    go true e =
        ap (λ (n : ℕ). word_of (with_word bank (2 * place) word) n) (sym (eqb-true place at e)) ∙ word_same bank (2 * place) word inside
    go false e =
        let apart = eqb-false place at e in
        word_other bank (2 * place) word (2 * at) (λ f. apart (omega arith)) (λ f. omega arith) (λ f. omega arith)

-- after stores
pub words_left : (bank : List ℕ) (stores : List Store) → StoresInside bank stores → (place : ℕ)
    → word_of (stored bank stores) place ≡ latest stores place (word_of bank place)
unfolding stored latest
words_left bank [] inside place = refl
words_left bank (store ∷ stores) inside place =
    words_left (with_word bank (2 * store.place) store.word) stores
    (λ later m. subst (λ (n : ℕ). 2 * later.place + 1 < n) (sym (word_length bank (2 * store.place) store.word)) (inside later (there m)))
    place
    ∙ ap (latest stores place) (word_after bank store.place store.word place (inside store here))

pub latest_append : (front back : List Store) (place before : ℕ) → latest (front ++ back) place before ≡ latest back place (latest front place before)
unfolding latest
latest_append [] back place before = refl
latest_append (store ∷ front) back place before =
    latest_append front back place (cond (eqb store.place place) store.word before)

-- no store is at the place
pub latest_none : (stores : List Store) (place before : ℕ) → ((store : Store) → Among store stores → store.place ≡ place → ⊥)
    → latest stores place before ≡ before
unfolding latest
latest_none [] place before none = refl
latest_none (store ∷ stores) place before none =
    ap (λ (b : Bool). latest stores place (cond b store.word before)) (ne_eqb store.place place (none store here))
    ∙ latest_none stores place before (λ later m. none later (there m))

-- every store at the place stores the same word, which was there before, or which one of them stores
module _ (place word : ℕ) where
  abbrev pub Agree : List Store → Type 0
  Agree stores = (store : Store) → Among store stores → store.place ≡ place → store.word ≡ word

  kept : (stores : List Store) → Agree stores → latest stores place word ≡ word
  unfolding latest
  kept [] agree = refl
  kept (store ∷ stores) agree = ap (latest stores place) (go (eqb store.place place) refl) ∙ kept stores (λ later m. agree later (there m))
    where
      go : (same : Bool) → eqb store.place place ≡ same → cond same store.word word ≡ word
      go true e = agree store here (eqb-true store.place place e)
      go false e = refl

  pub latest_agreed : {store : Store} {stores : List Store} → Among store stores → store.place ≡ place → Agree stores
      → (before : ℕ) → latest stores place before ≡ word
  unfolding latest
  latest_agreed {store} (here {l = stores}) at agree before =
      ap (λ (b : Bool). latest stores place (cond b store.word before)) (eq-eqb store.place place at)
      ∙ ap (latest stores place) (agree store here at) ∙ kept stores (λ later m. agree later (there m))
  latest_agreed (there {b = other} {l = stores} m) at agree before =
      latest_agreed m at (λ later n. agree later (there n)) (cond (eqb other.place place) other.word before)
