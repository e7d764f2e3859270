-- The stores of a fresh bank, made one group after another. Assumes nothing.
use mathlib.Core.Path.{◌≡◌, sym, ap, ◌∙◌}
use mathlib.Core.List.{List, [], ◌∷◌, ◌++◌, map}
use Prim.Native.Nat.{ℕ, ◌+◌, ◌*◌}
use Rattle.words.specs.Words.{with_word}
use Rattle.sheet_rules.specs.Rows.{bank_words, address_place, rate_place, items}
use Rattle.lists.specs.Lists.{up_from}
use Rattle.bank_rules.specs.Stores.{Store, stored}
use Rattle.bank_rules.specs.Bank.{zero_at, low_stores, fresh_stores}
use Rattle.bank_rules.proofs.Stores.{stored_append}

module _ (sheet first : List ℕ) {zeroed lows addressed made : List ℕ} where
  pub fresh_made : zeroed ≡ stored first (map zero_at (up_from 0 (bank_words sheet + 1))) → lows ≡ stored zeroed (low_stores (items sheet))
      → addressed ≡ with_word lows (2 * address_place sheet) 1 → made ≡ with_word addressed (2 * rate_place sheet) 1
      → made ≡ stored first (fresh_stores sheet)
  unfolding fresh_stores stored
  fresh_made p q r s =
      s ∙ ap (λ (b : List ℕ). with_word b (2 * rate_place sheet) 1)
      (r ∙ ap (λ (b : List ℕ). with_word b (2 * address_place sheet) 1)
      (q ∙ ap (λ (b : List ℕ). stored b (low_stores (items sheet))) p))
      ∙ sym (ap (λ (b : List ℕ). stored b last_two) (ap (λ (b : List ℕ). b) (stored_append first zeros lowest)))
      ∙ sym (stored_append first (zeros ++ lowest) last_two)
    where
      zeros : List Store
      zeros = map zero_at (up_from 0 (bank_words sheet + 1))

      lowest : List Store
      lowest = low_stores (items sheet)

      last_two : List Store
      last_two = record { place = address_place sheet; word = 1 } ∷ record { place = rate_place sheet; word = 1 } ∷ []
