-- The station of a sound bank is one that a meter may have: rules S63 and J21. Assumes nothing.
use mathlib.Core.Path.{◌≡◌, sym, ap, subst, ◌∙◌}
use mathlib.Core.Bool.{true}
use mathlib.Core.List.{List}
use Prim.Native.Nat.{ℕ, ◌≤◌}
use native.Mathlib.Omega.{arith}
use lib.Dec.{leb}
use borrow.Author.Tests.{leb-true}
use Rattle.range.specs.Range.{unsigned_word, number_of, not_above, in_range}
use Rattle.range.proofs.Sides.{in_range_between}
use Rattle.sheet_rules.specs.Rules.{lowest_station, highest_station, sound}
use Rattle.lists.proofs.Tests.{first_of, second_of_lem}
use Rattle.bank_rules.specs.Stores.{word_of}
use Rattle.bank_rules.specs.Bank.{good_by, bank_sound, station_of}
use Rattle.bank_rules.proofs.Held.{address_item_lem, address_bounds}
use Rattle.bank_rules.proofs.Values.{setting_value, sound_items}

-- a word without sign that is in its range lies between its bounds
plain_between : (low high value : ℕ) → in_range unsigned_word low high value ≡ true → (low ≤ value) × (value ≤ high)
unfolding not_above number_of
plain_between low high value is =
    let e = sym (in_range_between unsigned_word low high value) ∙ is in
    (leb-true low value (first_of (leb low value) (leb value high) e), leb-true value high (second_of_lem (leb low value) (leb value high) e))

pub station_within : (sheet bank : List ℕ) → sound sheet ≡ true → bank_sound sheet bank ≡ true
    → (lowest_station ≤ station_of sheet bank) × (station_of sheet bank ≤ highest_station)
unfolding good_by in_range
station_within sheet bank keeps whole =
    let address = address_item_lem sheet keeps in
    let item = address.item in
    let bounds = address_bounds sheet keeps in
    let good = sound_items sheet bank whole address.among in
    let between = plain_between item.low item.high (station_of sheet bank)
    (subst (λ (kind : ℕ). in_range kind item.low item.high (station_of sheet bank) ≡ true) address.plain
    (sym (ap (in_range item.kind item.low item.high) (setting_value (word_of bank) address)) ∙ good)) in
    (omega (arith, bounds.0, between.0), omega (arith, bounds.1, between.1))
