-- A row is what its words say. Assumes nothing.
use mathlib.Core.Path.{◌≡◌, ap, ap₂, ◌∙◌}
use mathlib.Core.Bool.{true}
use mathlib.Core.List.{List}
use Prim.Native.Nat.{ℕ, ◌+◌, ◌*◌}
use native.Mathlib.Omega.{arith}
use Rattle.sheet_rules.specs.declared.Area.{Area}
use Rattle.sheet_rules.specs.declared.Item.{Item}
use Rattle.sheet_rules.specs.declared.RecordArea.{RecordArea}
use Rattle.sheet_rules.specs.Rows.{word, two_words, area_count, item_count, has_records, area_rows, item_start, record_from, record_area, area_at, item_from}
use Rattle.sheet_rules.proofs.Records.{records_read}

module _ (sheet : List ℕ) where
  pub area_read : (k : ℕ) (area : Area) → area.first ≡ word sheet (area_rows + 4 * k)
      → area.last ≡ word sheet (area_rows + 4 * k + 1) → area.place ≡ word sheet (area_rows + 4 * k + 2)
      → area.access ≡ word sheet (area_rows + 4 * k + 3) → area ≡ area_at sheet k
  unfolding area_at
  area_read k area first last place access =
      λ i. record { first = first i; last = last i; place = place i; access = access i }

  -- two words that were joined
  pair_read : (n : ℕ) {read upper lower : ℕ} → read ≡ upper * 65536 + lower → upper ≡ word sheet n → lower ≡ word sheet (n + 1)
      → read ≡ two_words sheet n
  pair_read n says first second = says ∙ ap₂ (λ (u l : ℕ). u * 65536 + l) first second

  -- an item row from a word on, of six words that were read there
  pub item_read : {start n : ℕ} → start ≡ n → (item : Item) {third fourth fifth sixth : ℕ} → item.kind ≡ word sheet start
      → item.place ≡ word sheet (start + 1)
      → item.low ≡ third * 65536 + fourth → third ≡ word sheet (start + 2) → fourth ≡ word sheet (start + 3)
      → item.high ≡ fifth * 65536 + sixth → fifth ≡ word sheet (start + 4) → sixth ≡ word sheet (start + 5) → item ≡ item_from sheet n
  unfolding item_from
  item_read {start} {n} same item kind place low third fourth high fifth sixth =
      let behind_third : start + 3 ≡ start + 2 + 1 = omega arith in
      let behind_fifth : start + 5 ≡ start + 4 + 1 = omega arith in
      let lows = pair_read (start + 2) low third (fourth ∙ ap (word sheet) behind_third) in
      let highs = pair_read (start + 4) high fifth (sixth ∙ ap (word sheet) behind_fifth) in
      (λ i. record { kind = kind i; place = place i; low = lows i; high = highs i }) ∙ ap (item_from sheet) same

  -- a record row from a word on, of three words that were read there
  pub record_read : {start n : ℕ} → start ≡ n → (records : RecordArea) → records.first ≡ word sheet start
      → records.records ≡ word sheet (start + 1) → records.words ≡ word sheet (start + 2) → records ≡ record_from sheet n
  record_read {start} {n} same records first many words =
      (λ i. record { first = first i; records = many i; words = words i }) ∙ ap (record_from sheet) same

  -- the sheet's, where it has one
  pub area_of_records : has_records sheet ≡ true → {areas items : ℕ} → areas ≡ area_count sheet → items ≡ item_count sheet
      → (records : RecordArea) → records ≡ record_from sheet (item_start areas items) → records ≡ record_area sheet
  area_of_records one areas items records says =
      says ∙ ap₂ (λ (a i : ℕ). record_from sheet (item_start a i)) areas items ∙ records_read sheet one
