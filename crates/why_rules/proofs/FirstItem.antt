-- The first bad item of a write: the address that is told is its own first one. (That the write stops at one that is bad, and the side that is told,
-- is `stopped` of meter_rules; that none in front of the stop is bad, `front_fine`.) Assumes nothing.
use mathlib.Core.Path.{◌≡◌, refl, sym, ap, ◌∙◌}
use mathlib.Core.Bool.{Bool, true, ◌&&◌, ◌||◌}
use mathlib.Core.List.{List}
use Prim.Native.Nat.{ℕ, ◌+◌, ◌<◌}
use native.Mathlib.Omega.{arith}
use lib.Dec.{eqb}
use borrow.Author.Tests.{eq-eqb}
use Rattle.sheet_rules.specs.Rows.{areas, bank_words}
use Rattle.sheet_rules.specs.Rules.{is_pair, writable, sound}
use Rattle.sheet_rules.proofs.Places.{in_covered}
use Rattle.sheet_rules.specs.Lookup.{lies_in, found_at}
use Rattle.sheet_rules.proofs.Sound.{sound_numbers}
use Rattle.sheet_rules.proofs.Addresses.{address_lies}
use Rattle.bank_rules.specs.Calls.{Lent}
use Rattle.bank_rules.proofs.Held.{held_covered, covered_below, covered_access}
use Rattle.meter_rules.specs.Write.{some_bad, stop_place}
use Rattle.meter_rules.proofs.WhichSide.{stopped}
use Rattle.why_rules.specs.Facts.{first_bad_item}

module _ (given : Lent) (frame : List ℕ) where
  module _ (one : some_bad given frame ≡ true) where
    module _ (keeps : sound given.sheet ≡ true) where
      held : in_covered (areas given.sheet) (stop_place given frame) ≡ true
      held =
          let found = stopped given frame one in
          ap (in_covered (areas given.sheet)) (sym found.at_place)
          ∙ held_covered given.sheet keeps found.item.place found.among
          (ap (λ (b : Bool). b || (is_pair found.item && eqb (found.item.place + 1) found.item.place))
          (eq-eqb found.item.place found.item.place refl))

      stop_below : stop_place given frame < bank_words given.sheet
      stop_below = covered_below given.sheet keeps (stop_place given frame) held

      pub stop_small : stop_place given frame < 65536
      stop_small = omega (arith, stop_below, sound_numbers given.sheet keeps)

      -- rule Y21: what lies at the address that is told is the first place of that item, in an area that can be written
      pub stop_lies : (access : ℕ) × (lies_in (areas given.sheet) (first_bad_item given frame) ≡ found_at (stop_place given frame) access) × (writable access ≡ true)
      stop_lies =
          let found = address_lies given.sheet keeps (stop_place given frame) stop_below in (
            found.0,
            found.1,
            covered_access given.sheet keeps (first_bad_item given frame) (stop_place given frame) found.0 found.1 held,
          )
