-- Each row of the makers' maps is kept as printed. Assumes nothing.
use mathlib.Core.Path.{◌≡◌, refl, sym, ap, subst, ◌∙◌}
use mathlib.Core.Bool.{Bool, true, false, not, ◌&&◌, ◌||◌, true≢false}
use mathlib.Core.Logic.{inl, inr}
use mathlib.Core.List.{List, [], ◌∷◌}
use Prim.Native.Nat.{ℕ, ◌+◌, ◌-◌, ◌*◌, ◌/◌, ◌%◌, ◌≤◌, ◌<◌}
use native.Mathlib.Omega.{arith}
use lib.Dec.{T, leb, ltb}
use lib.Pow.{are_bytes}
use borrow.Author.Tests.{eq-eqb, leb-true, ltb-true}
use Rattle.words.proofs.Small.{tested_bytes}
use Rattle.lists.specs.Lists.{each}
use Rattle.lists.proofs.Tests.{first_of, second_of_lem}
use Rattle.lists.proofs.Among.{Among, here, there, among_nil, each_among, some_among}
use Rattle.sheet_rules.specs.declared.Area.{Area}
use Rattle.sheet_rules.specs.declared.Item.{Item}
use Rattle.sheet_rules.specs.Rows.{areas, items}
use Rattle.sheet_rules.specs.Rules.{sound, is_pair, length_of, place_in_area, pair_within, pair_rule, kind_rule, bounds_rule, low_high_rule, cover_rule, items_sound}
use Rattle.sheet_rules.specs.Lookup.{address_of, found_at}
use Rattle.sheet_rules.proofs.Sound.{sound_parts, sound_areas}
use Rattle.sheet_rules.proofs.Addresses.{address_there, lies_there, address_lies, lies_word}
use Rattle.bank_rules.specs.Calls.{Lent}
use Rattle.bank_rules.proofs.Held.{holds_first, holds_second, held_below, held_covered, covered_access}
use Rattle.makers.specs.Maps.{Row}
use Rattle.makers.specs.Sheets.{sheet_of}
use Rattle.makers.proofs.Sheets.{Meter, ux15_25, aswe_40, aswe_50, aswe_80, map_of, counts_of, Said, said_by, meant, says, row_of, rows_of, sheet_sound_lem}
use Rattle.plain.specs.Numbers.{Bytes, word}
use Rattle.plain.specs.Sheet.{WritableAt}
use Rattle.plain.specs.Frame as plain
use Rattle.plain.specs.Frame.{Set, WouldBe}
use Rattle.plain.specs.Registers.{write_one, TakenWithin, AsPrinted}
use Rattle.plain.proofs.Rows.{word_same, plain_lies, writable_plain}
use Rattle.plain.proofs.Registers.{goes, goes_here, lies_once, sent_same, taken_within}

module _ (given : Lent) (keeps : sound given.sheet ≡ true) (bytes : Bytes given.sheet) (set06 : Set (word given.sheet 12) 4) (item : Item)
    (among : Among item (items given.sheet)) where
  abbrev first : ℕ
  first = address_of (areas given.sheet) item.place

  -- ---- where an item lies

  item_lies : WritableAt given.sheet first item.place
  item_lies =
      let found = address_lies given.sheet keeps item.place (held_below given.sheet keeps item.place among (holds_first item item.place refl)) in
      writable_plain given.sheet keeps found.1
      (covered_access given.sheet keeps first item.place found.0 found.1
      (held_covered given.sheet keeps item.place among (holds_first item item.place refl)))

  small_at : {at place : ℕ} → WritableAt given.sheet at place → at ≤ 0xFFFF
  small_at {at} {place} one =
      omega (arith, lies_word given.sheet bytes at place one.access (plain_lies given.sheet keeps one.lies))

  small : first ≤ 0xFFFF
  small = small_at item_lies

  pair_rule_lem : pair_rule (areas given.sheet) item ≡ true
  unfolding items_sound
  pair_rule_lem =
      each_among (pair_rule (areas given.sheet)) among
      (second_of_lem (each kind_rule (items given.sheet) && each bounds_rule (items given.sheet) && each low_high_rule (items given.sheet) && cover_rule given.sheet)
      (each (pair_rule (areas given.sheet)) (items given.sheet)) (sound_parts given.sheet keeps).item_rows_lem)

  module _ (pair : item.kind ≡ 2) where
    next_lies : WritableAt given.sheet (first + 1) (item.place + 1)
    next_lies = go (some_among (λ (area : Area). place_in_area item.place area && place_in_area (item.place + 1) area) (areas given.sheet) within)
      where
        left : (b c : Bool) → b ≡ true → (not b || c) ≡ true → c ≡ true
        left true c e f = f
        left false c e f = absurd (true≢false (sym e))

        within : pair_within (areas given.sheet) item.place ≡ true
        within = left (is_pair item) (pair_within (areas given.sheet) item.place) (eq-eqb item.kind 2 pair) pair_rule_lem

        go : (area : Area) × Among area (areas given.sheet) × ((place_in_area item.place area && place_in_area (item.place + 1) area) ≡ true)
            → WritableAt given.sheet (first + 1) (item.place + 1)
        go (area, m, both) =
            let rules = sound_areas given.sheet keeps in
            let p = item.place in
            let one = first_of (place_in_area p area) (place_in_area (p + 1) area) both in
            let two = second_of_lem (place_in_area p area) (place_in_area (p + 1) area) both in
            let low = leb-true area.place p (first_of (leb area.place p) (ltb p (area.place + length_of area)) one) in
            let high = ltb-true p (area.place + length_of area) (second_of_lem (leb area.place p) (ltb p (area.place + length_of area)) one) in
            let top = ltb-true (p + 1) (area.place + length_of area) (second_of_lem (leb area.place (p + 1)) (ltb (p + 1) (area.place + length_of area)) two) in
            let at = address_there 0 p m rules.follow low high in
            let there-now = lies_there (first + 1) m rules.ascend (omega (arith, at, low)) (omega (arith, at, low, top)) in
            let place : area.place + (first + 1 - area.first) ≡ p + 1 = omega (arith, at, low) in
            let lies = there-now ∙ ap (λ (n : ℕ). found_at n area.access) place in
            writable_plain given.sheet keeps lies (covered_access given.sheet keeps (first + 1) (p + 1) area.access lies
            (held_covered given.sheet keeps (p + 1) among (holds_second item (p + 1) (eq-eqb item.kind 2 pair) refl)))

    small_next : first + 1 ≤ 0xFFFF
    small_next = small_at next_lies

  -- ---- the word that would be at the place written, and at another

  module _ (at v q : ℕ) (at_small : at ≤ 0xFFFF) (v-small : v < 65536) (lies : WritableAt given.sheet at q) where
    sent_there : WouldBe given (write_one given at v) q v
    sent_there =
        plain.written 0 (goes_here given keeps bytes at v at_small v-small set06 q lies) (sym (sent_same given at v at_small v-small))

    kept_elsewhere : (other : ℕ) → (other ≡ q → ⊥) → WouldBe given (write_one given at v) other (word given.bank (2 * other))
    kept_elsewhere other apart =
        plain.kept (λ k is. apart (goes given keeps bytes at v at_small v-small set06 q lies k other is)) refl

  -- ---- the three ways to write to an item

  pub word_taken : (item.kind ≡ 2 → ⊥) → (v : ℕ) → v < 65536 → TakenWithin given first v item.kind item.low item.high v
  word_taken single v v-small =
      let lies = item_lies in
      taken_within given keeps bytes first v small v-small set06 item.place lies item among
      (0, inl (goes_here given keeps bytes first v small v-small set06 item.place lies)) v
      (plain.of_word single (sent_there first v item.place small v-small lies))

  pub upper_taken : item.kind ≡ 2 → (v place : ℕ) → v < 65536 → WritableAt given.sheet (first + 1) place
      → TakenWithin given first v item.kind item.low item.high (65536 * v + word given.bank (2 * place))
  upper_taken pair v place v-small next =
      let lies = item_lies in
      let same : place ≡ item.place + 1 = lies_once given.sheet keeps next.lies (next_lies pair).lies in
      taken_within given keeps bytes first v small v-small set06 item.place lies item among
      (0, inl (goes_here given keeps bytes first v small v-small set06 item.place lies)) (65536 * v + word given.bank (2 * place))
      (plain.of_pair pair v (word given.bank (2 * place)) (sent_there first v item.place small v-small lies)
      (subst (λ (n : ℕ). WouldBe given (write_one given first v) n (word given.bank (2 * place))) same
      (kept_elsewhere first v item.place small v-small lies place (λ e. omega (arith, e, same)))) refl)

  pub lower_taken : item.kind ≡ 2 → (v place : ℕ) → v < 65536 → WritableAt given.sheet first place
      → TakenWithin given (first + 1) v item.kind item.low item.high (65536 * word given.bank (2 * place) + v)
  lower_taken pair v place v-small front =
      let lies = next_lies pair in
      let same : place ≡ item.place = lies_once given.sheet keeps front.lies item_lies.lies in
      taken_within given keeps bytes (first + 1) v (small_next pair) v-small set06 (item.place + 1) lies item among
      (0, inr (pair, goes_here given keeps bytes (first + 1) v (small_next pair) v-small set06 (item.place + 1) lies))
      (65536 * word given.bank (2 * place) + v)
      (plain.of_pair pair (word given.bank (2 * place)) v
      (subst (λ (n : ℕ). WouldBe given (write_one given (first + 1) v) n (word given.bank (2 * place))) same
      (kept_elsewhere (first + 1) v (item.place + 1) (small_next pair) v-small lies place (λ e. omega (arith, e, same))))
      (sent_there (first + 1) v (item.place + 1) (small_next pair) v-small lies) refl)

-- ---- the makers' maps

-- a row of those that items make is an item's
row_of_lem : (all : List Area) (l : List Item) {row : Row} → Among row (rows_of all l) → (item : Item) × Among item l × (row ≡ row_of all item)
unfolding rows_of
row_of_lem all [] m = absurd (among_nil m)
row_of_lem all (item ∷ l) here = (item, here, refl)
row_of_lem all (item ∷ l) (there m) =
    let found = row_of_lem all l m in
    (found.0, there found.1, found.2)

sheet_bytes : (meter : Meter) → T (are_bytes (sheet_of (map_of meter)))
unfolding sheet_of
sheet_bytes ux15_25 = tt
sheet_bytes aswe_40 = tt
sheet_bytes aswe_50 = tt
sheet_bytes aswe_80 = tt

allows_06 : (meter : Meter) → (map_of meter).functions / 4 % 2 ≡ 1
allows_06 ux15_25 = refl
allows_06 aswe_40 = refl
allows_06 aswe_50 = refl
allows_06 aswe_80 = refl

-- every row of every map, whatever is lent beside the sheet
pub as_printed : (meter : Meter) (given : Lent) → given.sheet ≡ sheet_of (map_of meter) → (row : Row) → Among row (map_of meter).rows → AsPrinted given row
unfolding said_by meant
as_printed meter given its row m = go (row_of_lem (areas given.sheet) (items given.sheet) (subst (Among row) (sym rows) m))
  where
    said : said_by given.sheet ≡ meant (map_of meter) (counts_of meter)
    said = ap said_by its ∙ says meter

    rows : rows_of (areas given.sheet) (items given.sheet) ≡ (map_of meter).rows
    rows = ap (λ (s : Said). s.rows) said

    set06 : Set (word given.sheet 12) 4
    set06 = ap (λ (n : ℕ). n / 4 % 2) (word_same given.sheet 12 ∙ ap (λ (s : Said). s.functions) said) ∙ allows_06 meter

    go : (item : Item) × Among item (items given.sheet) × (row ≡ row_of (areas given.sheet) item) → AsPrinted given row
    go (item, among, same) =
        let keeps = ap sound its ∙ sheet_sound_lem meter in
        let bytes = subst Bytes (sym its) (tested_bytes (sheet_of (map_of meter)) (sheet_bytes meter)) in
        subst (AsPrinted given) (sym same)
        record {
          of_word = word_taken given keeps bytes set06 item among;
          of_upper = upper_taken given keeps bytes set06 item among;
          of_lower = lower_taken given keeps bytes set06 item among;
        }
