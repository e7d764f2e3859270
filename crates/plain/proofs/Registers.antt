-- A 06 to a register is good exactly if the value that its item would have is within the item's bounds; and so for each row of the makers'
-- maps as printed. Assumes nothing.
use mathlib.Core.Path.{◌≡◌, refl, sym, ap, subst, ◌∙◌}
use mathlib.Core.Bool.{Bool, true, not}
use mathlib.Core.Logic.{inl, inr}
use mathlib.Core.List.{List}
use Prim.Native.Nat.{ℕ, ◌+◌, ◌≤◌, ◌<◌}
use native.Mathlib.Omega.{arith}
use borrow.Author.Tests.{eq-eqb}
use Rattle.check_value.proofs.Zero.{closed_passes}
use Rattle.lists.proofs.Among.{Among}
use Rattle.sheet_rules.specs.declared.Item.{Item}
use Rattle.sheet_rules.specs.Rows.{items}
use Rattle.sheet_rules.specs.Rules.{sound}
use Rattle.sheet_rules.specs.Lookup.{holds}
use Rattle.bank_rules.specs.Bank.{value_by}
use Rattle.bank_rules.specs.Calls.{Lent}
use Rattle.bank_rules.proofs.Held.{holds_first, holds_second, holder_alone}
use Rattle.sheet_rules.specs.declared.Purpose.TheVariants.{Write}
use Rattle.sheet_rules.specs.Runs.{all_open}
use Rattle.frame.specs.Frame.{count, run}
use Rattle.meter_rules.specs.Write.{first_place, would_be}
use Rattle.meter_rules.proofs.Soundness.{open_write}
use Rattle.sheet_rules.proofs.Addresses.{at_place}
use Rattle.plain.specs.Numbers.{byte, word, Bytes}
use Rattle.plain.specs.Sheet.{LiesAt, WritableAt}
use Rattle.plain.specs.Frame as plain
use Rattle.plain.specs.Frame.{Gets, error, good, Set, Whole, RightAddress, RightValue, Within, ValueWouldBe, Touches, Writable}
use Rattle.plain.specs.Registers.{one_body, write_one, TakenWithin}
use Rattle.plain.proofs.Conditions.{whole_tells}
use Rattle.plain.proofs.Rows.{item_row_lem, row_item, plain_lies}
use Rattle.plain.proofs.Addresses.{address_tells}
use Rattle.plain.proofs.Values.{value_so}
use Rattle.plain.proofs.Fates.{one_fate}

module _ (given : Lent) (at v : ℕ) (small : at ≤ 0xFFFF) (word-sent : v < 65536) where
  abbrev frame : List ℕ
  frame = write_one given at v

  whole : Whole frame
  whole = (whole_tells frame).right (let passes-it = closed_passes (one_body given at v) (omega arith) (omega arith) in ap (λ (b : Bool). not b) passes-it)

  at_same : word frame 2 ≡ at
  at_same = omega arith

  pub sent_same : word frame 4 ≡ v
  sent_same = omega arith

-- an address lies at one place
pub lies_once : (sheet : List ℕ) → sound sheet ≡ true → {at p q x y : ℕ} → LiesAt sheet at p x → LiesAt sheet at q y → p ≡ q
lies_once sheet keeps {at} {p} {q} {x} {y} one other =
    at_place (plain_lies sheet keeps one) (plain_lies sheet keeps other)

module _ (given : Lent) (keeps : sound given.sheet ≡ true) (bytes : Bytes given.sheet) (at v : ℕ) (small : at ≤ 0xFFFF) (word-sent : v < 65536)
    (set06 : Set (word given.sheet 12) 4) (q : ℕ) (lies : WritableAt given.sheet at q) where
  abbrev sent : List ℕ
  sent = write_one given at v

  no_other : {code : ℕ} → (6 ≡ code → ⊥) → byte sent 1 ≡ code → ⊥
  no_other apart e = apart e

  addresses : RightAddress given sent
  addresses =
      record {
        at_most47 = λ e. absurd (no_other (λ f. omega (arith, f)) e);
        read = λ e. absurd (no_other (λ f. omega (arith, f)) e);
        recorded = λ e. absurd (no_other (λ f. omega (arith, f)) e);
        written = λ is k less. let none : k ≡ 0 = omega (arith, less) in
            let here : word sent 2 + k ≡ at = omega (arith, none, at_same given at v small word-sent) in
            subst (Writable given.sheet) (sym here) record { small = small; place = q; written = lies };
        cleared = λ e. absurd (no_other (λ f. omega (arith, f)) e);
      }

  pub goes : (k place : ℕ) → plain.Goes given.sheet sent k place → place ≡ q
  goes k place is =
      let none : k ≡ 0 = omega (arith, is.0) in
      let here : word sent 2 + k ≡ at = omega (arith, none, at_same given at v small word-sent) in
      lies_once given.sheet keeps (subst (λ (n : ℕ). WritableAt given.sheet n place) here is.1).lies lies.lies

  pub goes_here : plain.Goes given.sheet sent 0 q
  goes_here =
      let here : word sent 2 + 0 ≡ at = omega (arith, at_same given at v small word-sent) in
      (omega arith, subst (λ (n : ℕ). WritableAt given.sheet n q) (sym here) lies)

  all_open_lem : all_open Write given.sheet (run sent) ≡ true
  all_open_lem = (open_write given sent refl ((address_tells given keeps bytes sent).wrongly addresses)).all

  -- what is touched holds the place
  touched_holds : (item : Item) → Touches given.sheet sent item.kind item.place → holds item q ≡ true
  touched_holds item (k, inl is) = holds_first item q (goes k item.place is)
  touched_holds item (k, inr is) = holds_second item q (eq-eqb item.kind 2 is.0) (goes k (item.place + 1) is.1)

  module _ (item : Item) (among : Among item (items given.sheet)) (touch : Touches given.sheet sent item.kind item.place) (value : ℕ)
      (is : ValueWouldBe given sent item.place value item.kind) where
    values : Within item.kind item.low item.high value → RightValue given sent
    values within =
        record {
          of_clear = λ e. absurd (no_other (λ f. omega (arith, f)) e);
          of_items = λ write kind place low high other row touches is-other.
              let that : Item = record { kind = kind; place = place; low = low; high = high } in
              let same : item ≡ that = holder_alone given.sheet keeps q among (touched_holds item touch) (row_item given.sheet row) (touched_holds that touches) in
              let equal : value ≡ other =
              value_so given sent keeps all_open_lem item value is
              ∙ ap (value_by (would_be (first_place given.sheet sent) (count sent) given.bank sent)) same
              ∙ sym (value_so given sent keeps all_open_lem that other is-other) in
              subst (λ (i : Item). Within i.kind i.low i.high other) same
              (subst (Within item.kind item.low item.high) equal within);
        }

    within_values : RightValue given sent → Within item.kind item.low item.high value
    within_values right =
        right.of_items (inl refl) item.kind item.place item.low item.high value (item_row_lem given.sheet item among) touch is

    eight : plain.RightLength sent
    eight = record { eight = λ e. refl; nine_and_more = λ e. absurd (no_other (λ f. omega (arith, f)) e) }

    counted : plain.RightCount given.sheet sent
    counted =
        record {
          of_read = λ e. absurd (no_other (λ f. omega (arith, f)) e);
          of_record = λ e. absurd (no_other (λ f. omega (arith, f)) e);
          of_many = λ e. absurd (no_other (λ f. omega (arith, f)) e);
        }

    gets_good : RightValue given sent → Gets given sent good
    gets_good right = plain.all_right (whole given at v small word-sent) refl (inr (inr (inl (refl, set06)))) eight counted addresses right

    gets_error : (RightValue given sent → ⊥) → Gets given sent (error 3)
    gets_error wrong = plain.wrong_value (whole given at v small word-sent) refl (inr (inr (inl (refl, set06)))) eight counted addresses wrong

    good_right : Gets given sent good → RightValue given sent
    good_right (plain.all_right a b c d e f g) = g

    not_both : Gets given sent (error 3) → Gets given sent good → ⊥
    not_both bad fine = let same = one_fate given sent keeps bytes bad fine in let z : ◌≡◌ {A = ℕ} 0 1 = cc in omega arith

    pub taken_within : TakenWithin given at v item.kind item.low item.high value
    taken_within =
        record {
          taken = (λ fine. within_values (good_right fine), λ within. gets_good (values within));
          refused = (λ bad within. not_both bad (gets_good (values within)), λ outside. gets_error (λ right. outside (within_values right)));
        }
