-- The records of a sheet and of a ring: plain numbers say what the definitions say. Assumes nothing.
use mathlib.Core.Path.{◌≡◌, refl, sym, ap, subst, ◌∙◌}
use mathlib.Core.Bool.{Bool, true, false, ◌&&◌, true≢false}
use mathlib.Core.List.{List}
use mathlib.Core.Logic.{◌⊎◌, inl, inr}
use Prim.Native.Nat.{ℕ, ◌+◌, ◌-◌, ◌*◌, ◌≤◌, ◌<◌}
use native.Mathlib.Omega.{arith}
use lib.Dec.{leb, ltb}
use borrow.Author.Tests.{eqb-true, eq-eqb, le-leb, lt-ltb, ltb-true, ltb-false}
use Rattle.words.specs.Words.{word_at}
use Rattle.sheet_rules.specs.declared.RecordArea.{RecordArea}
use Rattle.sheet_rules.specs.Rows.{record_areas, rows_end, record_row, record_area}
use Rattle.sheet_rules.specs.Rules.{records_end, in_records}
use Rattle.sheet_rules.specs.Lookup.{record_number}
use Rattle.sheet_rules.proofs.Records.{records_read, in_records_lem, in_records_has}
use Rattle.ring_rules.specs.Ring.{newest_place, place_of}
use Rattle.ring_rules.specs.Calls.{ring_fits}
use Rattle.ring_rules.proofs.Places.{back_straight, back_round}
use Rattle.ring_rules.proofs.Sound.{SoundRing, ring_told_lem}
use Rattle.ring_rules.proofs.Calls.{fits_sound}
use Rattle.plain.specs.Numbers.{word}
use Rattle.plain.specs.Sheet.{area_rows, item_rows}
use Rattle.plain.specs.Records.{RecordRow, RecordAt, AtRecord, newest, how_many, StandsAt}
use Rattle.plain.proofs.Rows.{word_same}

module _ (sheet : List ℕ) where
  abbrev area : RecordArea
  area = record_area sheet

  -- ---- the row

  -- a word behind the item rows, by its byte and by its index
  behind : (k n : ℕ) → n ≡ 24 + 2 * k + 8 * area_rows sheet + 12 * item_rows sheet → word sheet n ≡ word_at sheet (2 * (rows_end sheet + k))
  behind k n is =
      word_same sheet n
      ∙ ap (word_at sheet) (let same : n ≡ 2 * (rows_end sheet + k) = omega (arith, is, word_same sheet 2, word_same sheet 6) in same)

  first_word : word sheet (24 + 8 * area_rows sheet + 12 * item_rows sheet) ≡ (record_row sheet).first
  first_word =
      behind 0 (24 + 8 * area_rows sheet + 12 * item_rows sheet) (omega arith)
      ∙ ap (λ (n : ℕ). word_at sheet (2 * n)) (let none : rows_end sheet + 0 ≡ rows_end sheet = omega arith in none)

  row_so : record_areas sheet ≡ 1 → RecordRow sheet area.first area.records area.words
  row_so one =
      let is = records_read sheet (eq-eqb (record_areas sheet) 1 one) in
      record {
        one = word_same sheet 22 ∙ one;
        its_first = first_word ∙ ap (λ (r : RecordArea). r.first) is;
        its_many = behind 1 (26 + 8 * area_rows sheet + 12 * item_rows sheet) (omega arith) ∙ ap (λ (r : RecordArea). r.records) is;
        its_words = behind 2 (28 + 8 * area_rows sheet + 12 * item_rows sheet) (omega arith) ∙ ap (λ (r : RecordArea). r.words) is;
      }

  pub record SameRow (first many words : ℕ) : Type 0 where
    pub its_first : first ≡ area.first
    pub its_many : many ≡ area.records
    pub its_words : words ≡ area.words

  so_row : {first many words : ℕ} → RecordRow sheet first many words → SameRow first many words
  so_row row =
      let is = records_read sheet (eq-eqb (record_areas sheet) 1 (sym (word_same sheet 22) ∙ row.one)) in
      record {
        its_first = sym row.its_first ∙ first_word ∙ ap (λ (r : RecordArea). r.first) is;
        its_many = sym row.its_many ∙ behind 1 (26 + 8 * area_rows sheet + 12 * item_rows sheet) (omega arith) ∙ ap (λ (r : RecordArea). r.records) is;
        its_words = sym row.its_words ∙ behind 2 (28 + 8 * area_rows sheet + 12 * item_rows sheet) (omega arith) ∙ ap (λ (r : RecordArea). r.words) is;
      }

  -- ---- the record at an address

  pub record_so : (at : ℕ) → in_records at area ≡ true → RecordAt sheet at (record_number area at) area.records area.words
  record_so at inside =
      let held = in_records_lem area at inside in
      record {
        first = area.first;
        row = row_so (eqb-true (record_areas sheet) 1 (in_records_has sheet at inside));
        not_before = held.low;
        not_behind = held.high;
        its_number = omega (arith, held.low);
      }

  pub record SameRecord (at number many words : ℕ) : Type 0 where
    pub inside : in_records at area ≡ true
    pub its_number : number ≡ record_number area at
    pub its_many : many ≡ area.records
    pub its_words : words ≡ area.words

  pub so_record : {at number many words : ℕ} → RecordAt sheet at number many words → SameRecord at number many words
  so_record {at} {number} one =
      let row = so_row one.row in
      let low : area.first ≤ at = omega (arith, one.not_before, row.its_first) in
      let high : at < records_end area = omega (arith, one.not_behind, row.its_first, row.its_many) in
      let number_is : number ≡ record_number area at = omega (arith, one.its_number, one.not_before, row.its_first) in
      record {
        inside = go (leb area.first at) (ltb at (records_end area)) (le-leb area.first at low) (lt-ltb at (records_end area) high);
        its_number = number_is;
        its_many = row.its_many;
        its_words = row.its_words;
      }
    where
      go : (a b : Bool) → a ≡ true → b ≡ true → (a && b) ≡ true
      go a b p q = simp (p, q)

  -- an address is some record's, or none's
  pub at_record : (at : ℕ) → in_records at area ≡ true → AtRecord sheet at
  at_record at inside = (record_number area at, area.records, area.words, record_so at inside)

  pub no_record : (at : ℕ) → in_records at area ≡ false → AtRecord sheet at → ⊥
  no_record at outside one = true≢false (sym (so_record one.3).inside ∙ outside)

  pub outside_so : (at : ℕ) → (AtRecord sheet at → ⊥) → in_records at area ≡ false
  outside_so at none = go (in_records at area) refl
    where
      go : (b : Bool) → in_records at area ≡ b → in_records at area ≡ false
      go true e = absurd (none (at_record at e))
      go false e = e

-- ---- where a record stands

module _ (records : RecordArea) (ring : List ℕ) (number : ℕ) (some : 1 ≤ number) (few : number ≤ records.records) (inside : newest_place ring < records.records) where
  place_straight : number ≤ newest_place ring + 1 → place_of records ring number ≡ newest_place ring + 1 - number
  place_straight short =
      back_straight records.records (newest_place ring) (number - 1) inside (omega arith)
      ∙ (let same : newest_place ring - (number - 1) ≡ newest_place ring + 1 - number = omega (arith, some) in same)

  place_round : newest_place ring + 1 < number → place_of records ring number ≡ newest_place ring + 1 + records.records - number
  place_round past =
      back_round records.records (newest_place ring) (number - 1) inside (omega arith) (omega arith)
      ∙ (let same : newest_place ring + records.records - (number - 1) ≡ newest_place ring + 1 + records.records - number = omega (arith, some) in same)

  -- rule T20, in plain numbers: a record stands at its place, and at no other
  pub stands : StandsAt ring records.records number (place_of records ring number)
  stands = go (ltb (newest_place ring + 1) number) refl
    where
      go : (past : Bool) → ltb (newest_place ring + 1) number ≡ past → StandsAt ring records.records number (place_of records ring number)
      go true e =
          let past = ltb-true (newest_place ring + 1) number e in
          let is = place_round past in
          record { below = omega (arith, is, past); back = inr (omega (arith, is, word_same ring 0)) }
      go false e =
          let short = ltb-false (newest_place ring + 1) number e in
          let is = place_straight short in
          record { below = omega (arith, is, inside); back = inl (omega (arith, is, short, word_same ring 0)) }

  pub stands_once : (place : ℕ) → StandsAt ring records.records number place → place ≡ place_of records ring number
  stands_once place one = go (ltb (newest_place ring + 1) number) refl one.back
    where
      go : (past : Bool) → ltb (newest_place ring + 1) number ≡ past
          → (place + number ≡ newest ring + 1) ⊎ (place + number ≡ newest ring + records.records + 1) → place ≡ place_of records ring number
      go true e (inl back) = absurd (omega (arith, ltb-true (newest_place ring + 1) number e, back, word_same ring 0))
      go true e (inr back) = omega (arith, place_round (ltb-true (newest_place ring + 1) number e), back, word_same ring 0)
      go false e (inl back) = omega (arith, place_straight (ltb-false (newest_place ring + 1) number e), back, word_same ring 0)
      go false e (inr back) = absurd (omega (arith, ltb-false (newest_place ring + 1) number e, back, word_same ring 0, one.below))

-- ---- with a ring that goes with its sheet

module _ (sheet ring : List ℕ) (ringed : ring_fits sheet ring ≡ true) {at number many words : ℕ} (one : RecordAt sheet at number many words)
    (stored : number ≤ how_many ring) where
  same : SameRecord sheet at number many words
  same = so_record sheet one

  whole : SoundRing (record_area sheet) ring
  whole = ring_told_lem (record_area sheet) ring (fits_sound sheet ring (in_records_has sheet at same.inside) ringed)

  some : 1 ≤ number
  some = omega (arith, one.its_number, one.not_before)

  few : number ≤ (record_area sheet).records
  few = omega (arith, stored, whole.count, word_same ring 2)

  pub its_place_lem : StandsAt ring many number (place_of (record_area sheet) ring number)
  its_place_lem =
      subst (λ (n : ℕ). StandsAt ring n number (place_of (record_area sheet) ring number)) (sym same.its_many)
      (stands (record_area sheet) ring number some few whole.place)

  pub its_place_once : (place : ℕ) → StandsAt ring many number place → place ≡ place_of (record_area sheet) ring number
  its_place_once place there =
      stands_once (record_area sheet) ring number some few whole.place place
      (subst (λ (n : ℕ). StandsAt ring n number place) same.its_many there)

-- an address is one record's: its number, and what its sheet says of all of them
pub record_once : (sheet : List ℕ) {at number many words : ℕ} {number' many' words' : ℕ} → RecordAt sheet at number many words
    → RecordAt sheet at number' many' words' → (number ≡ number') × (many ≡ many') × (words ≡ words')
record_once sheet one other =
    let mine = so_record sheet one in
    let theirs = so_record sheet other in
    (mine.its_number ∙ sym theirs.its_number, mine.its_many ∙ sym theirs.its_many, mine.its_words ∙ sym theirs.its_words)
