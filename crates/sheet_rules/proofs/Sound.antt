-- What the rules of a sound sheet say one by one. Assumes nothing.
use mathlib.Core.Path.{◌≡◌, refl, sym, ap, ap₂, ◌∙◌}
use mathlib.Core.Bool.{Bool, true, false, not, cond, ◌&&◌}
use mathlib.Core.List.{List, [], ◌∷◌}
use Prim.Native.Nat.{ℕ, ◌<◌}
use Prim.Native.Nat.{◌*◌, ◌≤◌}
use native.Mathlib.Omega.{arith}
use lib.Dec.{leb}
use lib.ListN.{length}
use borrow.Author.Tests.{leb-true, eqb-true, not-false}
use Rattle.std.specs.Prelude.{Err}
use Rattle.sheet_rules.specs.Rows.{version, areas, items, area_count, item_count, bank_words, functions, sheet_words, record_areas, sheet_end, item_end}
use Rattle.lists.specs.Lists.{between, each}
use Rattle.sheet_rules.specs.Rules.{version_rule, area_count_rule, area_offset_rule, item_count_rule, item_offset_rule, bank_words_rule, functions_rule, sheet_words_rule, record_areas_rule, byte_length_rule, kind_rule, bounds_rule, low_high_rule, cover_rule, pair_rule, access_rule, write_only_rule, first_last_rule, areas_ascend, places_follow, lengths_sum_rule, clear_address_rule, header_sound, areas_sound, items_sound, settings_sound, records_sound, sound, sheet_refusals, sheet_answer}
use Rattle.lists.specs.Cases.{when, first_case}
use Rattle.refusals.specs.declared.Refusal.TheVariants.{BrokenSheet}
use Rattle.refusals.specs.Answers.{answer_by, call_done}
use Rattle.refusals.proofs.Answers.{done_none}
use Rattle.lists.proofs.Tests.{first_of, second_of_lem}

six : (a b c d e f : Bool) → (a && b && c && d && e && f) ≡ true
    → (a ≡ true) × (b ≡ true) × (c ≡ true) × (d ≡ true) × (e ≡ true) × (f ≡ true)
six a b c d e f h =
    let h5 = first_of (a && b && c && d && e) f h in
    let h4 = first_of (a && b && c && d) e h5 in
    let h3 = first_of (a && b && c) d h4 in
    let h2 = first_of (a && b) c h3 in (
      first_of a b h2,
      second_of_lem a b h2,
      second_of_lem (a && b) c h3,
      second_of_lem (a && b && c) d h4,
      second_of_lem (a && b && c && d) e h5,
      second_of_lem (a && b && c && d && e) f h,
    )

seven : (a b c d e f g : Bool) → (a && b && c && d && e && f && g) ≡ true
    → (a ≡ true) × (b ≡ true) × (c ≡ true) × (d ≡ true) × (e ≡ true) × (f ≡ true) × (g ≡ true)
seven a b c d e f g h =
    let low = six a b c d e f (first_of (a && b && c && d && e && f) g h) in
    (low.0, low.1, low.2, low.3, low.4, low.5, second_of_lem (a && b && c && d && e && f) g h)

ten : (a b c d e f g h i j : Bool) → (a && b && c && d && e && f && g && h && i && j) ≡ true
    → (a ≡ true) × (b ≡ true) × (c ≡ true) × (d ≡ true) × (e ≡ true) × (f ≡ true) × (g ≡ true) × (h ≡ true) × (i ≡ true) × (j ≡ true)
ten a b c d e f g h i j p =
    let p9 = first_of (a && b && c && d && e && f && g && h && i) j p in
    let p8 = first_of (a && b && c && d && e && f && g && h) i p9 in
    let p7 = first_of (a && b && c && d && e && f && g) h p8 in
    let p6 = first_of (a && b && c && d && e && f) g p7 in
    let low = six a b c d e f p6 in (
      low.0,
      low.1,
      low.2,
      low.3,
      low.4,
      low.5,
      second_of_lem (a && b && c && d && e && f) g p7,
      second_of_lem (a && b && c && d && e && f && g) h p8,
      second_of_lem (a && b && c && d && e && f && g && h) i p9,
      second_of_lem (a && b && c && d && e && f && g && h && i) j p,
    )

pub between_low : (low high n : ℕ) → between low high n ≡ true → low ≤ n
between_low low high n e = leb-true low n (first_of (leb low n) (leb n high) e)

pub between_high : (low high n : ℕ) → between low high n ≡ true → n ≤ high
between_high low high n e = leb-true n high (second_of_lem (leb low n) (leb n high) e)

module _ (sheet : List ℕ) where
  -- the areas' rules, taken apart
  pub record AreasRules : Type 0 where
    pub access : each access_rule (areas sheet) ≡ true
    pub write_only : each (write_only_rule (version sheet)) (areas sheet) ≡ true
    pub first_last : each first_last_rule (areas sheet) ≡ true
    pub ascend : areas_ascend (areas sheet) ≡ true
    pub follow : places_follow 0 (areas sheet) ≡ true
    pub total : lengths_sum_rule sheet ≡ true

  pub areas_rules : areas_sound sheet ≡ true → AreasRules
  unfolding areas_sound
  areas_rules e =
      let rules = seven (each access_rule (areas sheet)) (each (write_only_rule (version sheet)) (areas sheet)) (each first_last_rule (areas sheet))
      (areas_ascend (areas sheet)) (places_follow 0 (areas sheet)) (lengths_sum_rule sheet) (clear_address_rule sheet) e in
      record { access = rules.0; write_only = rules.1; first_last = rules.2; ascend = rules.3; follow = rules.4; total = rules.5 }

  pub follows : areas_sound sheet ≡ true → places_follow 0 (areas sheet) ≡ true
  follows e = (areas_rules e).follow

  pub rest_of : header_sound sheet ≡ true → areas_sound sheet ≡ true → sound sheet ≡ (items_sound sheet && settings_sound sheet && records_sound sheet)
  unfolding sound
  rest_of header area_rows_lem =
      ap₂ (λ (x y : Bool). x && y && items_sound sheet && settings_sound sheet && records_sound sheet) header area_rows_lem

  -- the five parts of a sound sheet
  pub record SoundParts : Type 0 where
    pub header : header_sound sheet ≡ true
    pub area_rows_lem : areas_sound sheet ≡ true
    pub item_rows_lem : items_sound sheet ≡ true
    pub settings : settings_sound sheet ≡ true
    pub records : records_sound sheet ≡ true

  pub sound_parts : sound sheet ≡ true → SoundParts
  unfolding sound
  sound_parts e =
      let h = header_sound sheet in
      let a = areas_sound sheet in
      let i = items_sound sheet in
      let s = settings_sound sheet in
      let e4 = first_of (h && a && i && s) (records_sound sheet) e in
      let e3 = first_of (h && a && i) s e4 in
      let e2 = first_of (h && a) i e3 in
      record {
        header = first_of h a e2;
        area_rows_lem = second_of_lem h a e2;
        item_rows_lem = second_of_lem (h && a) i e3;
        settings = second_of_lem (h && a && i) s e4;
        records = second_of_lem (h && a && i && s) (records_sound sheet) e;
      }

  pub sound_areas : sound sheet ≡ true → AreasRules
  sound_areas e = areas_rules (sound_parts e).area_rows_lem

  pub sound_cover : sound sheet ≡ true → cover_rule sheet ≡ true
  unfolding items_sound
  sound_cover e =
      let k = each kind_rule (items sheet) in
      let b = each bounds_rule (items sheet) in
      let l = each low_high_rule (items sheet) in
      second_of_lem (k && b && l) (cover_rule sheet)
      (first_of (k && b && l && cover_rule sheet) (each (pair_rule (areas sheet)) (items sheet)) (sound_parts e).item_rows_lem)

  -- the numbers of a sound header
  pub record HeaderNumbers : Type 0 where
    pub areas_low : 1 ≤ area_count sheet
    pub areas_high : area_count sheet ≤ 8
    pub items_low : 2 ≤ item_count sheet
    pub items_high : item_count sheet ≤ 64
    pub bank_low : 2 ≤ bank_words sheet
    pub bank_high : bank_words sheet ≤ 256
    pub functions_high : functions sheet ≤ 15
    pub words : sheet_words sheet ≡ sheet_end sheet
    pub record_areas_lem : record_areas sheet ≤ 1
    pub bytes : length sheet ≡ 2 * sheet_words sheet

  pub header_numbers : header_sound sheet ≡ true → HeaderNumbers
  unfolding header_sound
  header_numbers e =
      let rules = ten (version_rule sheet) (area_count_rule sheet) (area_offset_rule sheet) (item_count_rule sheet) (item_offset_rule sheet)
      (bank_words_rule sheet) (functions_rule sheet) (sheet_words_rule sheet) (record_areas_rule sheet) (byte_length_rule sheet) e in
      record {
        areas_low = between_low 1 8 (area_count sheet) rules.1;
        areas_high = between_high 1 8 (area_count sheet) rules.1;
        items_low = between_low 2 64 (item_count sheet) rules.3;
        items_high = between_high 2 64 (item_count sheet) rules.3;
        bank_low = between_low 2 256 (bank_words sheet) rules.5;
        bank_high = between_high 2 256 (bank_words sheet) rules.5;
        functions_high = between_high 0 15 (functions sheet) rules.6;
        words = eqb-true (sheet_words sheet) (sheet_end sheet) rules.7;
        record_areas_lem = between_high 0 1 (record_areas sheet) rules.8;
        bytes = eqb-true (length sheet) (2 * sheet_words sheet) rules.9;
      }

  -- the rows that the header counts, and the record area's, end where the sheet ends
  pub rows_length : header_sound sheet ≡ true → length sheet ≡ 2 * sheet_end sheet
  rows_length e =
      let n = header_numbers e in
      n.bytes ∙ ap (λ (words : ℕ). 2 * words) n.words

  pub sound_numbers : sound sheet ≡ true → HeaderNumbers
  sound_numbers e = header_numbers (sound_parts e).header

  -- rule S12: at most 862 bytes
  pub length_bound : sound sheet ≡ true → length sheet ≤ 862
  length_bound e =
      let n = sound_numbers e in
      omega (arith, n.words, n.bytes, n.areas_high, n.items_high, n.record_areas_lem)

-- an item row of a sound sheet is one that the header counts just where it is inside the sheet
module _ (sheet : List ℕ) (keeps : sound sheet ≡ true) (k : ℕ) {before end : ℕ} (count : before ≡ area_count sheet) (says : end ≡ item_end before k) where
  pub row_counted : end ≤ length sheet → k < item_count sheet
  row_counted inside =
      let numbers = sound_numbers sheet keeps in
      omega (arith, numbers.words, numbers.bytes, numbers.record_areas_lem, inside, says, count)

  pub row_past : length sheet < end → item_count sheet ≤ k
  row_past past =
      let numbers = sound_numbers sheet keeps in
      omega (arith, numbers.words, numbers.bytes, numbers.record_areas_lem, past, says, count)

-- ---- what the check of a sheet answers, by whether it is sound, and read back

pub sheet_answered : (sheet : List ℕ) {right : Bool} → sound sheet ≡ right → cond right call_done (Err BrokenSheet) ≡ sheet_answer sheet
unfolding first_case
sheet_answered sheet {right} e = go right ∙ ap (λ (b : Bool). answer_by (when (not b) BrokenSheet ∷ [])) (sym e)
  where
    go : (b : Bool) → cond b call_done (Err BrokenSheet) ≡ answer_by (when (not b) BrokenSheet ∷ [])
    go true = refl
    go false = refl

pub answered_sound : (sheet : List ℕ) → sheet_answer sheet ≡ call_done → sound sheet ≡ true
answered_sound sheet done = not-false (sound sheet) (done_none (sheet_refusals sheet) done).0
