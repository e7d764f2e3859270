-- What follows from what a call leaves: a word that lies in an access 1 area is as before, and a word that is not as before is one that a write goes to, which lies in
-- an area of access 2 or 3, or the mark of a clear. Assumes nothing.
use mathlib.Core.Path.{◌≡◌, sym, ap, ◌∙◌}
use mathlib.Core.Bool.{true}
use mathlib.Core.Logic.{◌⊎◌, inl, inr}
use mathlib.Core.List.{List}
use Prim.Native.Nat.{ℕ, ◌*◌, ◌<◌}
use native.Mathlib.Omega.{arith}
use Rattle.sheet_rules.specs.Rows.{areas}
use Rattle.sheet_rules.specs.Rules.{sound}
use Rattle.sheet_rules.specs.Lookup.{lies_in}
use Rattle.sheet_rules.proofs.Addresses.{place_address, lies_below, at_access}
use Rattle.bank_rules.specs.Calls.{Lent}
use Rattle.plain.specs.Numbers.{byte, word}
use Rattle.plain.specs.Sheet.{LiesAt}
use Rattle.plain.specs.Frame.{Goes}
use Rattle.plain.specs.Left as left
use Rattle.plain.specs.Left.{WordLeft}
use Rattle.plain.proofs.Rows.{word_same, plain_lies}

module _ (sheet : List ℕ) (keeps : sound sheet ≡ true) where
  -- a place has one access, whatever address leads to it
  pub one_access : {a b place x y : ℕ} → LiesAt sheet a place x → LiesAt sheet b place y → x ≡ y
  one_access {a} {b} {place} {x} {y} one other =
      let here = plain_lies sheet keeps one in
      let there = plain_lies sheet keeps other in
      let same : a ≡ b = sym (place_address sheet keeps a place x here) ∙ place_address sheet keeps b place y there in
      at_access here (ap (lies_in (areas sheet)) same ∙ there)

  below : {a place x : ℕ} → LiesAt sheet a place x → place < word sheet 10
  below {a} {place} {x} lies = omega (arith, lies_below sheet keeps a place x (plain_lies sheet keeps lies), word_same sheet 10)

module _ (given : Lent) (frame : List ℕ) (keeps : sound given.sheet ≡ true) {place : ℕ} where
  pub read_only_kept : {a w : ℕ} → LiesAt given.sheet a place 1 → WordLeft given frame place w → w ≡ word given.bank (2 * place)
  read_only_kept lies (left.stored k stored is) = absurd (never stored.goes.1.permitted)
    where
      never : (stored.goes.1.access ≡ 2) ⊎ (stored.goes.1.access ≡ 3) → ⊥
      never (inl e) = omega (arith, one_access given.sheet keeps lies stored.goes.1.lies, e)
      never (inr e) = omega (arith, one_access given.sheet keeps lies stored.goes.1.lies, e)
  read_only_kept lies (left.cleared clears is) = absurd (omega (arith, below given.sheet keeps lies, clears.2))
  read_only_kept lies (left.as_before none unclear is) = is

  pub changed_writable : {w : ℕ} → WordLeft given frame place w → (w ≡ word given.bank (2 * place) → ⊥)
      → (((byte frame 1 ≡ 0x06) ⊎ (byte frame 1 ≡ 0x10)) × ((k : ℕ) × Goes given.sheet frame k place)) ⊎ ((byte frame 1 ≡ 0x05) × (place ≡ word given.sheet 10))
  changed_writable (left.stored k stored is) other = inl (stored.through.writes, (k, stored.goes))
  changed_writable (left.cleared clears is) other = inr (clears.1, clears.2)
  changed_writable (left.as_before none unclear is) other = absurd (other is)
