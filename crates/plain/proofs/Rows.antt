-- The rows of a sheet, and what lies at an address: plain numbers say what the definitions say. Assumes nothing.
use mathlib.Core.Path.{◌≡◌, refl, sym, ap, ap₂, subst, ◌∙◌}
use mathlib.Core.Bool.{Bool, true, false, ◌||◌, or-true}
use mathlib.Core.List.{List}
use mathlib.Core.Logic.{◌⊎◌, inl, inr}
use Prim.Native.Nat.{ℕ, ◌+◌, ◌*◌}
use native.Mathlib.Omega.{arith}
use lib.Dec.{eqb}
use borrow.Author.Tests.{eqb-true, eq-eqb}
use Rattle.words.specs.Words.{word_at}
use Rattle.sheet_rules.specs.declared.Area.{Area}
use Rattle.sheet_rules.specs.declared.Item.{Item}
use Rattle.sheet_rules.specs.Rows.{area_count, item_count, area_at, item_at, areas, items, item_from}
use Rattle.sheet_rules.specs.Rules.{writable, sound}
use Rattle.sheet_rules.specs.Lookup.{lies_in, found_at}
use Rattle.sheet_rules.proofs.Sound.{sound_areas}
use Rattle.sheet_rules.proofs.Addresses.{lies_found, lies_there}
use Rattle.lists.proofs.Among.{Among, row_among, among_row}
use Rattle.plain.specs.Numbers.{word}
use Rattle.plain.specs.Sheet.{AreaRow, ItemRow, LiesAt, WritableAt}

-- a word is a word
pub word_same : (bytes : List ℕ) (at : ℕ) → word bytes at ≡ word_at bytes at
unfolding word_at
word_same bytes at = omega arith

word_at_lem : (bytes : List ℕ) {n m : ℕ} → n ≡ m → word bytes n ≡ word_at bytes m
word_at_lem bytes {n} e = word_same bytes n ∙ ap (word_at bytes) e

-- one of two numbers, by tests and as such
pub one_of_lem : (n a b : ℕ) → (eqb n a || eqb n b) ≡ true → (n ≡ a) ⊎ (n ≡ b)
one_of_lem n a b = go (eqb n a) refl
  where
    go : (one : Bool) → eqb n a ≡ one → (one || eqb n b) ≡ true → (n ≡ a) ⊎ (n ≡ b)
    go true is e = inl (eqb-true n a is)
    go false is e = inr (eqb-true n b e)

pub of_one : {n a b : ℕ} → (n ≡ a) ⊎ (n ≡ b) → (eqb n a || eqb n b) ≡ true
of_one {n} {a} {b} (inl e) = ap (λ (one : Bool). one || eqb n b) (eq-eqb n a e)
of_one {n} {a} {b} (inr e) = ap (λ (other : Bool). eqb n a || other) (eq-eqb n b e) ∙ or-true (eqb n a)

module _ (sheet : List ℕ) where
  -- ---- area rows

  pub area_row : (area : Area) → Among area (areas sheet) → AreaRow sheet area.first area.last area.place area.access
  unfolding areas area_at
  area_row area m =
      let found = among_row (area_at sheet) 0 (area_count sheet) m in
      let k = found.0 in
      let same = found.2 in
      record {
        index = k;
        counted = rw word_same found.1;
        its_first = word_at_lem sheet (omega arith) ∙ sym (ap (λ (a : Area). a.first) same);
        its_last = word_at_lem sheet (omega arith) ∙ sym (ap (λ (a : Area). a.last) same);
        its_place = word_at_lem sheet (omega arith) ∙ sym (ap (λ (a : Area). a.place) same);
        its_access = word_at_lem sheet (omega arith) ∙ sym (ap (λ (a : Area). a.access) same);
      }

  -- the area that a row of plain numbers is
  abbrev pub area_of : {first last place access : ℕ} → AreaRow sheet first last place access → Area
  area_of {first} {last} {place} {access} row = record { first = first; last = last; place = place; access = access }

  pub row_area : {first last place access : ℕ} (row : AreaRow sheet first last place access) → Among (area_of row) (areas sheet)
  unfolding areas area_at
  row_area {first} {last} {place} {access} row =
      subst (λ (a : Area). Among a (areas sheet)) same
      (row_among (area_at sheet) 0 (area_count sheet) row.index (rw word_same at row.counted))
    where
      field : {n m value : ℕ} → n ≡ m → word sheet n ≡ value → word_at sheet m ≡ value
      field e f = sym (word_at_lem sheet e) ∙ f

      same : area_at sheet (0 + row.index) ≡ area_of row
      same =
          ap₂ (λ (f l : ℕ). record { first = f; last = l; place = (area_at sheet (0 + row.index)).place; access = (area_at sheet (0 + row.index)).access })
          (field (omega arith) row.its_first) (field (omega arith) row.its_last)
          ∙ ap₂ (λ (p a : ℕ). record { first = first; last = last; place = p; access = a })
          (field (omega arith) row.its_place) (field (omega arith) row.its_access)

  -- ---- what lies at an address

  module _ (keeps : sound sheet ≡ true) {address place access : ℕ} where
    pub lies_plain : lies_in (areas sheet) address ≡ found_at place access → LiesAt sheet address place access
    lies_plain e =
        let found = lies_found (areas sheet) address place access e in
        let area = found.area in
        record {
          first = area.first;
          last = area.last;
          begins = area.place;
          row = subst (AreaRow sheet area.first area.last area.place) (sym found.opened) (area_row area found.among);
          not_before = found.low;
          not_behind = found.high;
          there = found.at;
        }

    pub plain_lies : LiesAt sheet address place access → lies_in (areas sheet) address ≡ found_at place access
    plain_lies at =
        lies_there address (row_area at.row) (sound_areas sheet keeps).ascend at.not_before at.not_behind
        ∙ ap (λ (n : ℕ). found_at n access) (sym at.there)

    -- .. and can be written
    pub writable_plain : lies_in (areas sheet) address ≡ found_at place access → writable access ≡ true → WritableAt sheet address place
    writable_plain e open? = record { access = access; lies = lies_plain e; permitted = one_of_lem access 2 3 open? }

  pub plain_writable : sound sheet ≡ true → {address place : ℕ} → WritableAt sheet address place
      → (access : ℕ) × (lies_in (areas sheet) address ≡ found_at place access) × (writable access ≡ true)
  plain_writable keeps one = (one.access, plain_lies keeps one.lies, of_one one.permitted)

  -- ---- item rows

  pub item_row_lem : (item : Item) → Among item (items sheet) → ItemRow sheet item.kind item.place item.low item.high
  unfolding items item_from
  item_row_lem item m =
      let found = among_row (item_at sheet) 0 (item_count sheet) m in
      let same = found.2 in
      record {
        index = found.0;
        counted = rw word_same found.1;
        its_kind = word_at_lem sheet (omega (arith, word_same sheet 2)) ∙ sym (ap (λ (i : Item). i.kind) same);
        its_place = word_at_lem sheet (omega (arith, word_same sheet 2)) ∙ sym (ap (λ (i : Item). i.place) same);
        its_low = two (omega (arith, word_same sheet 2)) (omega (arith, word_same sheet 2)) ∙ sym (ap (λ (i : Item). i.low) same);
        its_high = two (omega (arith, word_same sheet 2)) (omega (arith, word_same sheet 2)) ∙ sym (ap (λ (i : Item). i.high) same);
      }
    where
      two : {n m i j : ℕ} → n ≡ i → m ≡ j → 65536 * word sheet n + word sheet m ≡ word_at sheet i * 65536 + word_at sheet j
      two {n} {m} {i} {j} e f = omega (arith, word_at_lem sheet e, word_at_lem sheet f)

  abbrev pub item_of : {kind place low high : ℕ} → ItemRow sheet kind place low high → Item
  item_of {kind} {place} {low} {high} row = record { kind = kind; place = place; low = low; high = high }

  pub row_item : {kind place low high : ℕ} (row : ItemRow sheet kind place low high) → Among (item_of row) (items sheet)
  unfolding items item_from
  row_item {kind} {place} {low} {high} row =
      subst (λ (i : Item). Among i (items sheet)) same
      (row_among (item_at sheet) 0 (item_count sheet) row.index (rw word_same at row.counted))
    where
      one : {n m value : ℕ} → n ≡ m → word sheet n ≡ value → word_at sheet m ≡ value
      one e f = sym (word_at_lem sheet e) ∙ f

      two : {n m i j value : ℕ} → n ≡ i → m ≡ j → 65536 * word sheet n + word sheet m ≡ value → word_at sheet i * 65536 + word_at sheet j ≡ value
      two e f g = omega (arith, word_at_lem sheet e, word_at_lem sheet f, g)

      same : item_at sheet (0 + row.index) ≡ item_of row
      same =
          ap₂ (λ (k p : ℕ). record { kind = k; place = p; low = (item_at sheet (0 + row.index)).low; high = (item_at sheet (0 + row.index)).high })
          (one (omega (arith, word_same sheet 2)) row.its_kind) (one (omega (arith, word_same sheet 2)) row.its_place)
          ∙ ap₂ (λ (l h : ℕ). record { kind = kind; place = place; low = l; high = h })
          (two (omega (arith, word_same sheet 2)) (omega (arith, word_same sheet 2)) row.its_low)
          (two (omega (arith, word_same sheet 2)) (omega (arith, word_same sheet 2)) row.its_high)
