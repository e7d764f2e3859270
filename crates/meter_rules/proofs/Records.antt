-- A read that starts in the record area: its count is 1 where step 5 lets it through, and its address lies in no area. Assumes nothing.
use mathlib.Core.Path.{◌≡◌, refl, sym, ap, ◌∙◌}
use mathlib.Core.Bool.{Bool, true, false, not, ◌&&◌, ◌||◌, true≢false}
use mathlib.Core.List.{List}
use Prim.Native.Nat.{ℕ, ◌+◌, ◌≤◌}
use native.Mathlib.Omega.{arith}
use lib.Dec.{eqb}
use borrow.Author.Tests.{eqb-true}
use Rattle.std.specs.Prelude.{Option}
use Rattle.lists.specs.Lists.{each, up_from}
use Rattle.lists.proofs.Among.{up_among, each_among}
use Rattle.sheet_rules.specs.Rows.{areas, record_area}
use Rattle.sheet_rules.specs.Rules.{sound, in_records}
use Rattle.sheet_rules.specs.Lookup.{lies_in}
use Rattle.sheet_rules.specs.declared.Purpose.TheVariants.{Read}
use Rattle.sheet_rules.specs.Runs.{opens, all_open}
use Rattle.sheet_rules.proofs.Records.{record_nowhere}
use Rattle.sheet_rules.specs.declared.Lies.{Lies}
use Rattle.frame.specs.Frame.{reads, function, start, second, run}
use Rattle.meter_rules.specs.Steps.{starts_in_records, wrong_count}
use Rattle.meter_rules.proofs.Order.{asks_for, many_is}

module _ (sheet frame : List ℕ) (is : function frame ≡ reads) (inside : starts_in_records sheet frame ≡ true) where
  -- rule J53
  pub record_count : wrong_count sheet frame ≡ false → second frame ≡ 1
  record_count right =
      eqb-true (second frame) 1
      (go (eqb (function frame) reads) (eqb (second frame) 0) (starts_in_records sheet frame) (eqb (second frame) 1) _ (asks_for frame reads is).is_read inside right)
    where
      go : (read none starts one more : Bool) → read ≡ true → starts ≡ true → (read && (none || (starts && not one)) || more) ≡ false → one ≡ true
      go true none true true more r s e = refl
      go true true true false more r s e = absurd (true≢false e)
      go true false true false more r s e = absurd (true≢false e)
      go true none false one more r s e = absurd (true≢false (sym s))
      go false none starts one more r s e = absurd (true≢false (sym r))

  -- its run is its own address, which is not open
  pub record_shut : sound sheet ≡ true → second frame ≡ 1 → all_open Read sheet (run frame) ≡ false
  unfolding all_open each up_from
  record_shut keeps one =
      ap (λ (n : ℕ). all_open Read sheet (up_from (start frame) n)) (many_is frame (asks_for frame reads is) ∙ one)
      ∙ ap (λ (lies : Option Lies). opens Read lies && true) (record_nowhere sheet keeps (start frame) inside)

-- where each address of a run is open, the first is no record's
pub open_outside : (sheet : List ℕ) (first many : ℕ) → sound sheet ≡ true → 1 ≤ many → all_open Read sheet (up_from first many) ≡ true
    → in_records first (record_area sheet) ≡ false
unfolding all_open
open_outside sheet first many keeps some all = go (in_records first (record_area sheet)) refl
  where
    go : (inside : Bool) → in_records first (record_area sheet) ≡ inside → inside ≡ false
    go false e = refl
    go true e =
        let here : first + 0 ≡ first = omega arith in
        let open-here = each_among (λ address. opens Read (lies_in (areas sheet) address)) (up_among first many 0 (omega (arith, some))) all in
        absurd (true≢false (sym open-here ∙ ap (λ (n : ℕ). opens Read (lies_in (areas sheet) n)) here ∙ ap (opens Read) (record_nowhere sheet keeps first e)))
