-- An order that has a frame: its numbers fit the query's bytes, and the query fits a frame. Assumes nothing.
use mathlib.Core.Path.{◌≡◌, refl, sym, ap, ◌∙◌}
use mathlib.Core.Bool.{Bool, true, false, not, ◌||◌}
use mathlib.Core.List.{List}
use Prim.Native.Nat.{ℕ, ◌+◌, ◌*◌, ◌%◌, ◌≤◌}
use native.Mathlib.Omega.{arith}
use lib.Dec.{leb, eqb}
use lib.ListN.{length}
use borrow.Author.Tests.{leb-true, ltb-false, eqb-true, not-false}
use Rattle.lists.specs.Lists.{between}
use Rattle.lists.proofs.Tests.{first_of, second_of_lem}
use Rattle.frame.specs.Frame.{most_read}
use Rattle.controller_rules.specs.declared.Order.{Order}
use Rattle.controller_rules.specs.declared.Order.TheVariants.{Read, Record, Write, Writes, Clear, Unknown}
use Rattle.controller_rules.specs.Order.{Asked, address_of, value_count, second_of, address_count, word_count, least_station, most_station, no_station, most_written, wrong_values, highest_word, wrong_number, past_last, no_frame}

or_none : (a b : Bool) → (a || b) ≡ false → (a ≡ false) × (b ≡ false)
or_none true b e = absurd (let z : ◌≡◌ {A = ℕ} 0 1 = cc in omega arith)
or_none false b e = (refl, e)

pub within : (low high n : ℕ) → not (between low high n) ≡ false → (low ≤ n) × (n ≤ high)
within low high n e =
    let inside = not-false (between low high n) e in
    (leb-true low n (first_of (leb low n) (leb n high) inside), leb-true n high (second_of_lem (leb low n) (leb n high) inside))

pub values_fit_lem : (values : List ℕ) → wrong_values values ≡ false
    → (length values ≡ 2 * value_count values) × (1 ≤ value_count values) × (value_count values ≤ most_written)
values_fit_lem values e =
    let found = or_none (not (eqb (length values % 2) 0)) (not (between 1 most_written (value_count values))) e in
    let counted = within 1 most_written (value_count values) found.1 in
    let even = eqb-true (length values % 2) 0 (not-false (eqb (length values % 2) 0) found.0) in
    (omega (arith, even), counted.0, counted.1)

-- ---- by the order

module _ (values : List ℕ) where
  pub count_fits : (order : Order) → wrong_number order values ≡ false → (1 ≤ address_count order values) × (address_count order values ≤ most_read)
  count_fits (Read start count) e = within 1 most_read count e
  count_fits (Record address words) e = (omega arith, omega arith)
  count_fits (Write address value) e = (omega arith, omega arith)
  count_fits (Writes start) e = let found = values_fit_lem values e in (found.1, omega (arith, found.2))
  count_fits (Clear address) e = (omega arith, omega arith)
  count_fits Unknown e = (omega arith, omega arith)

  pub second_fits_lem : (order : Order) → wrong_number order values ≡ false → second_of order values ≤ highest_word
  second_fits_lem (Read start count) e = omega (arith, (within 1 most_read count e).1)
  second_fits_lem (Record address words) e = omega arith
  second_fits_lem (Write address value) e = ltb-false highest_word value e
  second_fits_lem (Writes start) e = omega (arith, (values_fit_lem values e).2)
  second_fits_lem (Clear address) e = omega arith
  second_fits_lem Unknown e = omega arith

  pub words_fit : (order : Order) → wrong_number order values ≡ false → word_count order ≤ most_read
  words_fit (Read start count) e = (within 1 most_read count e).1
  words_fit (Record address words) e = (within 1 most_read words e).1
  words_fit (Write address value) e = omega arith
  words_fit (Writes start) e = omega arith
  words_fit (Clear address) e = omega arith
  words_fit Unknown e = omega arith

-- ---- the whole

pub record Framed (asked : Asked) : Type 0 where
  pub least : least_station ≤ asked.station
  pub most : asked.station ≤ most_station
  pub number : wrong_number asked.order asked.values ≡ false
  pub inside : address_of asked.order + address_count asked.order asked.values ≤ highest_word + 1

module _ (asked : Asked) (has : no_frame asked ≡ false) where
  pub framed : Framed asked
  unfolding no_frame
  framed =
      let order : Order = asked.order in
      let values : List ℕ = asked.values in
      let front = or_none (no_station asked.station || wrong_number order values) (past_last order values) has in
      let first = or_none (no_station asked.station) (wrong_number order values) front.0 in
      let station = within least_station most_station asked.station first.0 in
      record {
        least = station.0;
        most = station.1;
        number = first.1;
        inside = ltb-false (highest_word + 1) (address_of order + address_count order values) front.1;
      }

  pub address_fits_lem : address_of asked.order ≤ highest_word
  address_fits_lem = omega (arith, framed.inside, (count_fits asked.values asked.order framed.number).0)

  pub known : asked.order ≡ Unknown → ⊥
  known e = let z : true ≡ false = ap (λ (o : Order). wrong_number o asked.values) (sym e) ∙ framed.number in let y : ◌≡◌ {A = ℕ} 0 1 = cc in omega arith
