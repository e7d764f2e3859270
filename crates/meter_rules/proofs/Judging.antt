-- What the tests on a run, on an item and on what would be there say. Assumes nothing.
use mathlib.Core.Path.{◌≡◌, refl, sym, ap, ◌∙◌}
use mathlib.Core.Bool.{Bool, true, false, ◌&&◌}
use Prim.Native.Nat.{ℕ, ◌+◌, ◌-◌, ◌≤◌, ◌<◌}
use native.Mathlib.Omega.{arith}
use lib.Dec.{leb, ltb}
use borrow.Author.Tests.{le-leb, lt-leb, lt-ltb, le-ltb, leb-true, ltb-true, ltb-false}
use Rattle.lists.proofs.Tests.{first_of}
use Rattle.meter_rules.specs.Write.{in_run}

-- a place is in a run by how far it stands from the first one
pub run_test : (first many place : ℕ) → first ≤ place → ltb (place - first) many ≡ in_run first many place
run_test first many place low =
    go (ltb (place - first) many) refl ∙ sym (ap (λ (b : Bool). b && ltb place (first + many)) (le-leb first place low))
  where
    go : (inside : Bool) → ltb (place - first) many ≡ inside → ltb (place - first) many ≡ ltb place (first + many)
    go true e = e ∙ sym (lt-ltb place (first + many) (omega (arith, ltb-true (place - first) many e)))
    go false e = e ∙ sym (le-ltb place (first + many) (omega (arith, ltb-false (place - first) many e)))

-- no place in front of the first one is in the run
pub run_none : (first many place : ℕ) → place < first → in_run first many place ≡ false
run_none first many place low = ap (λ (b : Bool). b && ltb place (first + many)) (lt-leb first place low)

-- a place of the run does not stand in front of the first one
pub run_above : (first many place : ℕ) → in_run first many place ≡ true → first ≤ place
run_above first many place e = leb-true first place (first_of (leb first place) (ltb place (first + many)) e)
