-- Stores one after another, and where a place's bytes stand. Assumes nothing.
use mathlib.Core.Path.{◌≡◌, refl, ◌∙◌, ap, sym}
use mathlib.Core.List.{List, [], ◌∷◌, ◌++◌, map}
use Prim.Native.Nat.{ℕ, ◌+◌, ◌*◌, ◌<◌, ◌≤◌, ◌-◌}
use native.Mathlib.Omega.{arith}
use lib.ListN.{length}
use Rattle.words.specs.Words.{with_word}
use Rattle.words.proofs.Stores.{word_length}
use Rattle.bank_rules.specs.Stores.{Store, stored}
use Rattle.lists.specs.Lists.{up_from}
use Rattle.lists.proofs.Walks.{up_all, up_end, up_on}

-- the bytes of the next place stand two further
pub next_place_lem : (place : ℕ) → 2 * place + 2 ≡ 2 * (place + 1)
next_place_lem place = omega arith

pub stored_append : (bank : List ℕ) (front back : List Store) → stored bank (front ++ back) ≡ stored (stored bank front) back
unfolding stored
stored_append bank [] back = refl
stored_append bank (store ∷ front) back = stored_append (with_word bank (2 * store.place) store.word) front back

pub stored_length : (bank : List ℕ) (stores : List Store) → length (stored bank stores) ≡ length bank
unfolding stored
stored_length bank [] = refl
stored_length bank (store ∷ stores) =
    stored_length (with_word bank (2 * store.place) store.word) stores ∙ word_length bank (2 * store.place) store.word

-- stores that are made one after another: those that are left make of the bank at hand what all make of the first one
module _ (store : ℕ → Store) where
  abbrev pub stores_from : ℕ → ℕ → List Store
  stores_from k count = map store (up_from k (count - k))

  pub stores_start : (bank : List ℕ) (count : ℕ) → stored bank (stores_from 0 count) ≡ stored bank (map store (up_from 0 count))
  stores_start bank count = ap (λ (l : List ℕ). stored bank (map store l)) (up_all 0 count)

  pub stores_go_on : (bank made whole : List ℕ) (k count : ℕ) → k < count → stored bank (stores_from k count) ≡ whole
      → made ≡ with_word bank (2 * (store k).place) (store k).word → stored made (stores_from (k + 1) count) ≡ whole
  unfolding stored
  stores_go_on bank made whole k count inside left here =
      ap (λ (b : List ℕ). stored b (stores_from (k + 1) count)) here
      ∙ sym (ap (λ (l : List ℕ). stored bank (map store l)) (up_on k k count inside)) ∙ left

  pub stores_end : (bank whole : List ℕ) (k count : ℕ) → count ≤ k → stored bank (stores_from k count) ≡ whole → bank ≡ whole
  unfolding stored
  stores_end bank whole k count past left = sym (ap (λ (l : List ℕ). stored bank (map store l)) (up_end k k count past)) ∙ left
