-- Condition 7 in plain numbers is what step 7 tests: the value of a clear, and each item that a write touches within its bounds; and the side at which a
-- value misses its range. Assumes nothing.
use mathlib.Core.Path.{◌≡◌, refl, sym, ap, ap₂, subst, ◌∙◌}
use mathlib.Core.Bool.{Bool, true, false, not, cond, ◌&&◌, ◌||◌, false≢true, true≢false}
use mathlib.Core.List.{List}
use mathlib.Core.Logic.{inl, inr}
use Prim.Native.Nat.{ℕ, ◌+◌, ◌-◌, ◌*◌, ◌<◌}
use native.Mathlib.Omega.{arith}
use lib.Dec.{leb, ltb, eqb}
use lib.IntN.{ℤ, pos, ◌+ℤ◌, -ℤ-+ℤ_cancel}
use lib.Signed.{le_z}
use borrow.Author.Tests.{eqb-true, eqb-false, eq-eqb, ne_eqb, leb-true, leb-false, le-leb, lt-leb, lt-ltb, ltb-true, ltb-false, not-true, not-false}
use Rattle.range.specs.declared.Side.{Side}
use Rattle.range.specs.Range.{signed_word, number_of, not_above, side_of, inside, in_range, side_number}
use Rattle.range.proofs.Numbers.{number_plain, number_low, number_high, order_kept}
use Rattle.range.proofs.Sides.{side_low, side_high, side_inside, in_range_between}
use Rattle.lists.proofs.Tests.{first_of, second_of_lem}
use Rattle.lists.proofs.Among.{among_some, some_among}
use Rattle.sheet_rules.specs.declared.Item.{Item}
use Rattle.sheet_rules.specs.Rows.{areas, items}
use Rattle.sheet_rules.specs.Rules.{sound, is_pair}
use Rattle.sheet_rules.specs.Lookup.{lies_in, place_in, found_at}
use Rattle.bank_rules.specs.Stores.{word_of}
use Rattle.bank_rules.specs.Bank.{value_by, good_by}
use Rattle.bank_rules.specs.Calls.{Lent}
use Rattle.sheet_rules.specs.declared.Purpose.TheVariants.{Write}
use Rattle.sheet_rules.specs.Runs.{all_open}
use Rattle.frame.specs.Frame.{function, start, second, is_write, count, run, sent}
use Rattle.meter_rules.specs.Write.{first_place, in_run, would_be, touched, bad_item, some_bad}
use Rattle.meter_rules.specs.Steps.{wrong_value, bad_write}
use Rattle.meter_rules.proofs.Written.{each_open, run_place}
use Rattle.meter_rules.proofs.Judging.{run_above}
use Rattle.meter_rules.proofs.Stopping.{run_below}
use Rattle.plain.specs.Numbers.{signed_and_more}
use Rattle.plain.specs.Sheet.{ItemRow}
use Rattle.plain.specs.Frame.{sent_word, Goes, WouldBe, written, kept, ValueWouldBe, of_word, of_pair, Touches, Within, RightValue}
use Rattle.plain.specs.Why.{Under, Misses, too_low, too_high}
use Rattle.plain.proofs.Rows.{word_same, writable_plain, plain_lies, item_row_lem, row_item}
use Rattle.plain.proofs.Conditions.{Tells, neither_first, neither_second, neither, where_so, so_where}
use Rattle.plain.proofs.Addresses.{address_same, registers_same, writes, which}

-- ---- a value between its bounds

above_plain : (kind a b : ℕ) → (kind ≡ 1 → ⊥) → not_above kind a b ≡ leb a b
unfolding not_above
above_plain kind a b other = ap₂ (λ (x y : ℤ). le_z x y) (number_plain kind a other) (number_plain kind b other)

more_signed : (w : ℕ) → pos (signed_and_more w) ≡ number_of signed_word w +ℤ pos 0x10000
more_signed w = go (ltb w 0x8000) refl
  where
    go : (low : Bool) → ltb w 0x8000 ≡ low → pos (cond low (w + 0x10000) w) ≡ number_of signed_word w +ℤ pos 0x10000
    go true e = ap (λ (n : ℤ). n +ℤ pos 0x10000) (sym (number_low signed_word w refl (ltb-true w 0x8000 e)))
    go false e =
        sym (ap (λ (n : ℤ). n +ℤ pos 0x10000) (number_high signed_word w refl (ltb-false w 0x8000 e)) ∙ -ℤ-+ℤ_cancel (pos w) (pos 0x10000))

above_signed : (kind a b : ℕ) → kind ≡ 1 → not_above kind a b ≡ leb (signed_and_more a) (signed_and_more b)
unfolding not_above
above_signed kind a b is =
    ap (λ (k : ℕ). le_z (number_of k a) (number_of k b)) is
    ∙ sym (order_kept 0x10000 (number_of signed_word a) (number_of signed_word b) (signed_and_more a) (signed_and_more b) (more_signed a) (more_signed b))

module _ (kind low high value : ℕ) where
  pub within_so : in_range kind low high value ≡ true → Within kind low high value
  within_so is =
      let e = sym (in_range_between kind low high value) ∙ is in
      let p = first_of (not_above kind low value) (not_above kind value high) e in
      let q = second_of_lem (not_above kind low value) (not_above kind value high) e in
      record {
        plain = λ other. (leb-true low value (sym (above_plain kind low value other) ∙ p), leb-true value high (sym (above_plain kind value high other) ∙ q));
        signed = λ is. (
          leb-true (signed_and_more low) (signed_and_more value) (sym (above_signed kind low value is) ∙ p),
          leb-true (signed_and_more value) (signed_and_more high) (sym (above_signed kind value high is) ∙ q),
        );
      }

  pub so_within : Within kind low high value → in_range kind low high value ≡ true
  so_within within = in_range_between kind low high value ∙ go (eqb kind 1) refl
    where
      go : (is : Bool) → eqb kind 1 ≡ is → (not_above kind low value && not_above kind value high) ≡ true
      go true e =
          let one = eqb-true kind 1 e in
          let both = within.signed one in
          ap₂ ◌&&◌ (above_signed kind low value one ∙ le-leb (signed_and_more low) (signed_and_more value) both.0)
          (above_signed kind value high one ∙ le-leb (signed_and_more value) (signed_and_more high) both.1)
      go false e =
          let other = eqb-false kind 1 e in
          let both = within.plain other in
          ap₂ ◌&&◌ (above_plain kind low value other ∙ le-leb low value both.0) (above_plain kind value high other ∙ le-leb value high both.1)

-- ---- a value that misses its range

under_so : (kind a b : ℕ) → not_above kind b a ≡ false → Under kind a b
under_so kind a b e =
    record {
      plain = λ other. leb-false b a (sym (above_plain kind b a other) ∙ e);
      signed = λ is. leb-false (signed_and_more b) (signed_and_more a) (sym (above_signed kind b a is) ∙ e);
    }

so_under : (kind a b : ℕ) → Under kind a b → not_above kind b a ≡ false
so_under kind a b under = go (eqb kind 1) refl
  where
    go : (is : Bool) → eqb kind 1 ≡ is → not_above kind b a ≡ false
    go true e =
        let one = eqb-true kind 1 e in
        above_signed kind b a one ∙ lt-leb (signed_and_more b) (signed_and_more a) (under.signed one)
    go false e =
        let other = eqb-false kind 1 e in
        above_plain kind b a other ∙ lt-leb b a (under.plain other)

-- a value above a bound that is not below another is not below that other
over_both : (kind low high value : ℕ) → not_above kind low high ≡ true → Under kind high value → not_above kind low value ≡ true
over_both kind low high value ordered over = go (eqb kind 1) refl
  where
    go : (is : Bool) → eqb kind 1 ≡ is → not_above kind low value ≡ true
    go true e =
        let one = eqb-true kind 1 e in
        above_signed kind low value one
        ∙ le-leb (signed_and_more low) (signed_and_more value)
        (omega (arith, over.signed one, leb-true (signed_and_more low) (signed_and_more high) (sym (above_signed kind low high one) ∙ ordered)))
    go false e =
        let other = eqb-false kind 1 e in
        above_plain kind low value other
        ∙ le-leb low value (omega (arith, over.plain other, leb-true low high (sym (above_plain kind low high other) ∙ ordered)))

module _ (kind low high value : ℕ) where
  -- a side that is not the inside is so
  pub misses_so : inside (side_of kind low high value) ≡ false → Misses kind low high value (side_number (side_of kind low high value))
  misses_so missed = go (not_above kind low value) (not_above kind value high) refl refl
    where
      go : (one two : Bool) → not_above kind low value ≡ one → not_above kind value high ≡ two → Misses kind low high value (side_number (side_of kind low high value))
      go false two e f =
          subst (λ (s : Side). Misses kind low high value (side_number s)) (sym (side_low kind low high value e)) (too_low (under_so kind value low e))
      go true false e f =
          subst (λ (s : Side). Misses kind low high value (side_number s)) (sym (side_high kind low high value e f)) (too_high (under_so kind high value f))
      go true true e f = absurd (true≢false (sym (ap inside (side_inside kind low high value e f)) ∙ missed))

  -- and no other is, where the bounds are in order
  pub so_misses : not_above kind low high ≡ true → {side : ℕ} → Misses kind low high value side → side ≡ side_number (side_of kind low high value)
  so_misses ordered (too_low under) = sym (ap side_number (side_low kind low high value (so_under kind value low under)))
  so_misses ordered (too_high over) =
      sym (ap side_number (side_high kind low high value (over_both kind low high value ordered over) (so_under kind high value over)))

  -- a value that misses its range is not within it
  pub misses_outside : {side : ℕ} → Misses kind low high value side → Within kind low high value → ⊥
  misses_outside (too_low under) within =
      let e = sym (in_range_between kind low high value) ∙ so_within kind low high value within in
      false≢true (sym (so_under kind value low under) ∙ first_of (not_above kind low value) (not_above kind value high) e)
  misses_outside (too_high over) within =
      let e = sym (in_range_between kind low high value) ∙ so_within kind low high value within in
      false≢true (sym (so_under kind high value over) ∙ second_of_lem (not_above kind low value) (not_above kind value high) e)

-- ---- the places that a write goes to

pub sent_same : (frame : List ℕ) (k : ℕ) → sent_word frame k ≡ sent frame k
sent_same frame k = word_same frame (cond (eqb (function frame) 0x06) 4 7 + 2 * k)

module _ (given : Lent) (frame : List ℕ) (keeps : sound given.sheet ≡ true) (all : all_open Write given.sheet (run frame) ≡ true) where
  abbrev first : ℕ
  first = first_place given.sheet frame

  abbrev many : ℕ
  many = count frame

  pub goes_at : (k place : ℕ) → Goes given.sheet frame k place → place ≡ first + k
  goes_at k place goes =
      sym (ap place_in (plain_lies given.sheet keeps goes.1.lies)) ∙ ap (λ (n : ℕ). place_in (lies_in (areas given.sheet) n)) (address_same frame k)
      ∙ run_place Write given.sheet keeps (start frame) many all k (omega (arith, goes.0, registers_same frame))

  pub goes_in : (k place : ℕ) → Goes given.sheet frame k place → in_run first many place ≡ true
  goes_in k place goes =
      let at = goes_at k place goes in
      ap₂ ◌&&◌ (le-leb first place (omega (arith, at))) (lt-ltb place (first + many) (omega (arith, at, goes.0, registers_same frame)))

  pub in_goes : (place : ℕ) → in_run first many place ≡ true → Goes given.sheet frame (place - first) place
  in_goes place e =
      let low = run_above first many place e in
      let high = run_below first many place e in
      let k : ℕ = place - first in
      let less : k < many = omega arith in
      let one = each_open Write given.sheet keeps (start frame) many all k less in
      let there : place_in (lies_in (areas given.sheet) (start frame + k)) ≡ place =
      run_place Write given.sheet keeps (start frame) many all k less ∙ (let sum : first + k ≡ place = omega arith in sum) in (
        omega (arith, registers_same frame),
        writable_plain given.sheet keeps (ap (lies_in (areas given.sheet)) (address_same frame k) ∙ one.at ∙ ap (λ (n : ℕ). found_at n one.access) there)
            one.permitted,
      )

  -- ---- the word that would be at a place

  would_so : (place w : ℕ) → WouldBe given frame place w → w ≡ would_be first many given.bank frame place
  would_so place w (written k goes is) =
      is ∙ sent_same frame k ∙ ap (sent frame) (let back : k ≡ place - first = omega (arith, goes_at k place goes) in back)
      ∙ ap (λ (b : Bool). cond b (sent frame (place - first)) (word_of given.bank place)) (sym (goes_in k place goes))
  would_so place w (kept none is) = go (in_run first many place) refl
    where
      go : (b : Bool) → in_run first many place ≡ b → w ≡ cond b (sent frame (place - first)) (word_of given.bank place)
      go true e = absurd (none (place - first) (in_goes place e))
      go false e = is ∙ word_same given.bank (2 * place)

  so_would : (place : ℕ) → WouldBe given frame place (would_be first many given.bank frame place)
  so_would place = go (in_run first many place) refl
    where
      go : (b : Bool) → in_run first many place ≡ b → WouldBe given frame place (cond b (sent frame (place - first)) (word_of given.bank place))
      go true e = written (place - first) (in_goes place e) (sym (sent_same frame (place - first)))
      go false e = kept (λ k goes. false≢true (sym e ∙ goes_in k place goes)) (sym (word_same given.bank (2 * place)))

  -- ---- the value that an item would have

  abbrev would : ℕ → ℕ
  would = would_be first many given.bank frame

  pub value_so : (item : Item) (value : ℕ) → ValueWouldBe given frame item.place value item.kind → value ≡ value_by would item
  value_so item value (of_word other is) =
      would_so item.place value is
      ∙ ap (λ (b : Bool). cond b (would item.place * 65536 + would (item.place + 1)) (would item.place)) (sym (ne_eqb item.kind 2 other))
  value_so item value (of_pair pair upper lower up down is) =
      is ∙ omega (arith, would_so item.place upper up, would_so (item.place + 1) lower down)
      ∙ ap (λ (b : Bool). cond b (would item.place * 65536 + would (item.place + 1)) (would item.place)) (sym (eq-eqb item.kind 2 pair))

  pub so_value : (item : Item) → ValueWouldBe given frame item.place (value_by would item) item.kind
  so_value item = go (is_pair item) refl
    where
      go : (pair : Bool) → is_pair item ≡ pair
          → ValueWouldBe given frame item.place (cond pair (would item.place * 65536 + would (item.place + 1)) (would item.place)) item.kind
      go true e =
          of_pair (eqb-true item.kind 2 e) (would item.place) (would (item.place + 1)) (so_would item.place) (so_would (item.place + 1)) (omega arith)
      go false e = of_word (eqb-false item.kind 2 e) (so_would item.place)

  -- ---- the items that a write touches

  pub touches_so : (item : Item) → Touches given.sheet frame item.kind item.place → touched first many item ≡ true
  touches_so item (k, inl goes) =
      ap (λ (b : Bool). b || (is_pair item && in_run first many (item.place + 1))) (goes_in k item.place goes)
  touches_so item (k, inr second) =
      either (in_run first many item.place) (is_pair item && in_run first many (item.place + 1))
      (ap₂ ◌&&◌ (eq-eqb item.kind 2 second.0) (goes_in k (item.place + 1) second.1))
    where
      either : (a b : Bool) → b ≡ true → (a || b) ≡ true
      either true b e = refl
      either false b e = e

  pub so_touches : (item : Item) → touched first many item ≡ true → Touches given.sheet frame item.kind item.place
  so_touches item e = go (in_run first many item.place) refl e
    where
      go : (b : Bool) → in_run first many item.place ≡ b → (b || (is_pair item && in_run first many (item.place + 1))) ≡ true
          → Touches given.sheet frame item.kind item.place
      go true here e = (item.place - first, inl (in_goes item.place here))
      go false here e = (
        item.place + 1 - first,
        inr (
          eqb-true item.kind 2 (first_of (is_pair item) (in_run first many (item.place + 1)) e),
          in_goes (item.place + 1) (second_of_lem (is_pair item) (in_run first many (item.place + 1)) e),
        ),
      )

  -- ---- no item is bad

  abbrev ItemsRight : Type 0
  ItemsRight = (kind place low high value : ℕ) → ItemRow given.sheet kind place low high → Touches given.sheet frame kind place
      → ValueWouldBe given frame place value kind → Within kind low high value

  items_so : some_bad given frame ≡ false → ItemsRight
  unfolding some_bad bad_item good_by in_range
  items_so none kind place low high value row touch is =
      let item : Item = record { kind = kind; place = place; low = low; high = high } in
      within_so kind low high value
      (ap (in_range kind low high) (value_so item value is)
      ∙ go (in_range kind low high (value_by would item)) refl)
    where
      go : (fine : Bool) → in_range kind low high (value_by would record { kind = kind; place = place; low = low; high = high }) ≡ fine
          → in_range kind low high (value_by would record { kind = kind; place = place; low = low; high = high }) ≡ true
      go true e = e
      go false e =
          absurd (false≢true (sym none ∙ among_some (bad_item first many given.bank frame) (row_item given.sheet row)
          (ap₂ ◌&&◌ (touches_so record { kind = kind; place = place; low = low; high = high } touch) (ap not e))))

  pub so_items : ItemsRight → some_bad given frame ≡ false
  unfolding some_bad bad_item good_by in_range
  so_items right = go (some_bad given frame) refl
    where
      go : (bad : Bool) → some_bad given frame ≡ bad → some_bad given frame ≡ false
      go false e = e
      go true e =
          let found = some_among (bad_item first many given.bank frame) (items given.sheet) e in
          let item = found.0 in
          let touch = first_of (touched first many item) (not (good_by would item)) found.2 in
          let unfit = not-true (good_by would item) (second_of_lem (touched first many item) (not (good_by would item)) found.2) in
          absurd (false≢true (sym unfit ∙ so_within item.kind item.low item.high (value_by would item)
          (right item.kind item.place item.low item.high (value_by would item) (item_row_lem given.sheet item found.1) (so_touches item touch) (so_value item))))

-- ---- the whole of step 7

module _ (given : Lent) (frame : List ℕ) (keeps : sound given.sheet ≡ true) (opened : is_write frame ≡ true → all_open Write given.sheet (run frame) ≡ true) where
  value_right : (wrong_value frame || bad_write given frame) ≡ false → RightValue given frame
  value_right e =
      record {
        of_clear = λ is. word_same frame 4 ∙ eqb-true (second frame) 0 (not-false (eqb (second frame) 0)
            (where_so (eqb (function frame) 0x05) (not (eqb (second frame) 0)) (neither_first (wrong_value frame) (bad_write given frame) e)
            (eq-eqb (function frame) 0x05 is)));
        of_items = λ is. let write = writes frame is in
            items_so given frame keeps (opened write)
            (where_so (is_write frame) (some_bad given frame) (neither_second (wrong_value frame) (bad_write given frame) e) write);
      }

  right_value : RightValue given frame → (wrong_value frame || bad_write given frame) ≡ false
  right_value right =
      neither
      (so_where (eqb (function frame) 0x05) (not (eqb (second frame) 0))
      (λ is. ap not (eq-eqb (second frame) 0 (sym (word_same frame 4) ∙ right.of_clear (eqb-true (function frame) 0x05 is)))))
      (so_where (is_write frame) (some_bad given frame)
      (λ is. so_items given frame keeps (opened is) (right.of_items (which frame is))))

  pub value_tells : Tells (wrong_value frame || bad_write given frame) (RightValue given frame)
  value_tells = record { right = value_right; wrongly = right_value }
