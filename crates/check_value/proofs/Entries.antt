-- A rule's values at the first so many numbers, as a table, and that two rules with the same table agree at each of these numbers.
-- Assumes nothing.
use mathlib.Core.Path.{◌≡◌, sym, ap, ◌∙◌}
use mathlib.Core.List.{List, [], ◌∷◌}
use Prim.Native.Nat.{ℕ, zero, suc, ◌+◌, ◌<◌}
use native.Mathlib.Nat.{zero-add, add-zero, add-suc, suc-add, le_of_suc-le-suc, not-suc-le-zero}
use lib.ListN.{get_or}

-- the rule's values at so many numbers, from a first one on
unfoldable pub entries : (ℕ → ℕ) → ℕ → ℕ → List ℕ
entries rule first zero = []
entries rule first (suc count) = rule first ∷ entries rule (suc first) count

pub entry_at : (rule : ℕ → ℕ) (first count k : ℕ) → k < count → get_or (entries rule first count) k 0 ≡ rule (first + k)
unfolding entries
entry_at rule first zero k inside = absurd (not-suc-le-zero inside)
entry_at rule first (suc count) zero inside = ap rule (sym (add-zero first))
entry_at rule first (suc count) (suc k) inside =
    entry_at rule (suc first) count k (le_of_suc-le-suc inside) ∙ ap rule (suc-add first k ∙ sym (add-suc first k))

pub rules_agree : (one other : ℕ → ℕ) (count : ℕ) → entries one 0 count ≡ entries other 0 count
    → (k : ℕ) → k < count → one k ≡ other k
rules_agree one other count same k inside =
    ap one (sym (zero-add k)) ∙ sym (entry_at one 0 count k inside) ∙ ap (λ (table : List ℕ). get_or table k 0) same
    ∙ entry_at other 0 count k inside ∙ ap other (zero-add k)
