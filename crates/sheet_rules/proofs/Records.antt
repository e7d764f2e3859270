-- The record area of a sheet: what its words say, and what a sound sheet says of it. None of its addresses lies in an area. Assumes nothing.
use mathlib.Core.Path.{◌≡◌, refl, sym, ap, ◌∙◌}
use mathlib.Core.Bool.{Bool, true, false, not, cond, ◌&&◌, ◌||◌, and-false}
use mathlib.Core.List.{List}
use mathlib.Core.Logic.{◌⊎◌, inl, inr, ⊎_elim}
use Prim.Native.Nat.{ℕ, ◌+◌, ◌≤◌, ◌<◌}
use native.Mathlib.Omega.{arith}
use lib.Dec.{leb, ltb}
use borrow.Author.Tests.{leb-true, ltb-true, le-ltb}
use Rattle.std.specs.Prelude.{Option, None, Some}
use Rattle.lists.specs.Lists.{each}
use Rattle.lists.proofs.Tests.{first_of, second_of_lem}
use Rattle.lists.proofs.Among.{each_among}
use Rattle.sheet_rules.specs.declared.Area.{Area}
use Rattle.sheet_rules.specs.declared.RecordArea.{RecordArea}
use Rattle.sheet_rules.specs.Rows.{areas, has_records, record_row, no_records, record_area, clear_address}
use Rattle.sheet_rules.specs.Rules.{allowed, bit_of05, record_count_rule, record_words_rule, records_end_rule, records_end, in_records, apart_rule, record_clear_rule, records_sound, sound}
use Rattle.sheet_rules.specs.Lookup.{lies_in}
use Rattle.sheet_rules.proofs.Addresses.{lies_found}
use Rattle.sheet_rules.proofs.Sound.{sound_parts, between_low, between_high}
use Rattle.sheet_rules.specs.declared.Lies.{Lies}

-- ---- the words of it

module _ (sheet : List ℕ) where
  pub records_read : has_records sheet ≡ true → record_row sheet ≡ record_area sheet
  unfolding record_area
  records_read has = sym (ap (λ (b : Bool). cond b (record_row sheet) no_records) has)

  pub records_none : has_records sheet ≡ false → no_records ≡ record_area sheet
  unfolding record_area
  records_none none = sym (ap (λ (b : Bool). cond b (record_row sheet) no_records) none)

  -- an address of a record is one of a sheet that has records
  pub in_records_has : (address : ℕ) → in_records address (record_area sheet) ≡ true → has_records sheet ≡ true
  unfolding record_area
  in_records_has address inside = go (has_records sheet) inside
    where
      go : (has : Bool) → in_records address (cond has (record_row sheet) no_records) ≡ true → has ≡ true
      go true e = refl
      go false e = absurd (omega (arith, ltb-true address 0 (second_of_lem (leb 0 address) (ltb address 0) e)))

  -- and of one that has none no address is
  pub none_in_records : has_records sheet ≡ false → (address : ℕ) → in_records address (record_area sheet) ≡ false
  none_in_records none address =
      ap (in_records address) (sym (records_none none)) ∙ simp (le-ltb address 0 (omega arith), and-false)

-- ---- what a sound sheet says of it

pub record InRecords (records : RecordArea) (address : ℕ) : Type 0 where
  pub low : records.first ≤ address
  pub high : address < records.first + records.records

pub in_records_lem : (records : RecordArea) (address : ℕ) → in_records address records ≡ true → InRecords records address
in_records_lem records address e =
    record {
      low = leb-true records.first address (first_of (leb records.first address) (ltb address (records_end records)) e);
      high = ltb-true address (records_end records) (second_of_lem (leb records.first address) (ltb address (records_end records)) e);
    }

five : (a b c d e : Bool) → (a && b && c && d && e) ≡ true → (a ≡ true) × (b ≡ true) × (c ≡ true) × (d ≡ true) × (e ≡ true)
five a b c d e h =
    let h4 = first_of (a && b && c && d) e h in
    let h3 = first_of (a && b && c) d h4 in
    let h2 = first_of (a && b) c h3 in (
      first_of a b h2,
      second_of_lem a b h2,
      second_of_lem (a && b) c h3,
      second_of_lem (a && b && c) d h4,
      second_of_lem (a && b && c && d) e h,
    )

module _ (sheet : List ℕ) where
  -- the numbers and rules of a sound record area
  pub record RecordsRules : Type 0 where
    pub count_low : 1 ≤ (record_area sheet).records
    pub count_high : (record_area sheet).records ≤ 6600
    pub words_low : 1 ≤ (record_area sheet).words
    pub words_high : (record_area sheet).words ≤ 47
    pub end : records_end (record_area sheet) ≤ 0x10000
    pub apart : each (apart_rule (record_area sheet)) (areas sheet) ≡ true
    pub clear : record_clear_rule sheet ≡ true

  pub records_rules : sound sheet ≡ true → has_records sheet ≡ true → RecordsRules
  unfolding records_sound
  records_rules keeps has =
      let records = record_area sheet in
      let rules = five (record_count_rule records) (record_words_rule records) (records_end_rule records) (each (apart_rule records) (areas sheet))
      (record_clear_rule sheet)
      (sym (ap (λ (b : Bool). not b || (record_count_rule records && record_words_rule records && records_end_rule records
      && each (apart_rule records) (areas sheet) && record_clear_rule sheet)) has) ∙ (sound_parts sheet keeps).records) in
      record {
        count_low = between_low 1 6600 records.records rules.0;
        count_high = between_high 1 6600 records.records rules.0;
        words_low = between_low 1 47 records.words rules.1;
        words_high = between_high 1 47 records.words rules.1;
        end = leb-true (records_end records) 0x10000 rules.2;
        apart = rules.3;
        clear = rules.4;
      }

  -- rule S84: no address is an area's and a record's
  either : (a b : Bool) → (a || b) ≡ true → (a ≡ true) ⊎ (b ≡ true)
  either true b e = inl refl
  either false b e = inr e

  shared : (area : Area) (address : ℕ) → apart_rule (record_area sheet) area ≡ true → in_records address (record_area sheet) ≡ true
      → area.first ≤ address → address ≤ area.last → ⊥
  shared area address apart inside low high =
      let records = record_area sheet in
      let at = in_records_lem records address inside in
      ⊎_elim (λ e. omega (arith, ltb-true area.last records.first e, at.low, high))
      (λ e. omega (arith, leb-true (records_end records) area.first e, at.high, low))
      (either (ltb area.last records.first) (leb (records_end records) area.first) apart)

  pub record_nowhere : sound sheet ≡ true → (address : ℕ) → in_records address (record_area sheet) ≡ true
      → lies_in (areas sheet) address ≡ None
  record_nowhere keeps address inside = go (lies_in (areas sheet) address) refl
    where
      go : (lies : Option Lies) → lies_in (areas sheet) address ≡ lies → lies ≡ None
      go None e = refl
      go (Some lies) e =
          let found = lies_found (areas sheet) address lies.place lies.access e in
          let rules = records_rules keeps (in_records_has sheet address inside) in
          absurd (shared found.area address (each_among (apart_rule (record_area sheet)) found.among rules.apart) inside found.low found.high)

-- ---- its rules, one by one

module _ (sheet : List ℕ) where
  pub records_unasked : has_records sheet ≡ false → records_sound sheet ≡ true
  unfolding records_sound
  records_unasked none = simp none

  -- where there is a record area, read as one value: its numbers, its addresses apart from the areas', and the clear address
  pub records_asked : (records : RecordArea) → records ≡ record_area sheet → has_records sheet ≡ true
      → records_sound sheet
      ≡ (record_count_rule records && record_words_rule records && records_end_rule records && each (apart_rule records) (areas sheet)
      && not (allowed sheet bit_of05 && in_records (clear_address sheet) records))
  unfolding records_sound
  records_asked records read asked =
      ap (λ (has : Bool). not has || (record_count_rule (record_area sheet) && record_words_rule (record_area sheet) && records_end_rule (record_area sheet)
      && each (apart_rule (record_area sheet)) (areas sheet) && record_clear_rule sheet)) asked
      ∙ sym (ap (λ (r : RecordArea). record_count_rule r && record_words_rule r && records_end_rule r && each (apart_rule r) (areas sheet)
      && not (allowed sheet bit_of05 && in_records (clear_address sheet) r)) read)
