-- `sheet::headed::Headed::records_sound` meets its contract: each return by the tests that led there. Assumes nothing.
use Rattle.std.proofs.Common.{◌≡◌, sym, ap, ◌∙◌, true, not, ◌&&◌, ℕ, eq-eqb, ne_eqb}
use mathlib.Core.Bool.{and-false}
use Rattle.lists.specs.Lists.{each}
use Rattle.sheet_rules.specs.declared.RecordArea.{RecordArea}
use Rattle.sheet_rules.specs.Rows.{areas, clear_address, record_areas, has_records, item_start, record_from}
use Rattle.sheet_rules.specs.Rules.{allowed, bit_of05, record_count_rule, record_words_rule, records_end_rule, apart_rule, in_records, records_sound}
use Rattle.sheet_rules.proofs.Records.{records_unasked, records_asked}
use Rattle.rows.proofs.Fields.{area_of_records}
use Rattle.sheet.proofs.Areas.{allowed_word}
use Rattle.sheet.specs.declared.headed.Headed.{Headed}
use Rattle.sheet.proofs.HeaderWords.{areas_is, clear_is, functions_is, items_is, record_areas_is}
use Rattle.sheet.proofs.headed.Headed.records_sound.Goals as goal

-- the rules of the row that was read where the header says
asked : (headed : Headed) {records : RecordArea} → headed.header.record_areas ≡ 1
    → records ≡ record_from headed.sheet.now (item_start headed.header.areas headed.header.items)
    → records_sound headed.sheet.now
    ≡ (record_count_rule records && record_words_rule records && records_end_rule records && each (apart_rule records) (areas headed.sheet.now)
    && not (allowed headed.sheet.now bit_of05 && in_records (clear_address headed.sheet.now) records))
asked headed {records} one read =
    let sheet = headed.sheet.now in
    let has : has_records sheet ≡ true = eq-eqb (record_areas sheet) 1 (sym (record_areas_is headed) ∙ one) in
    records_asked sheet records
    (area_of_records sheet has (areas_is headed) (items_is headed) records read) has

pub returns-then-self-ne1 : goal.returns-then-self-ne1
returns-then-self-ne1 c =
    let s = c.args.self.sheet.now in
    sym (records_unasked s (ne_eqb (record_areas s) 1 (λ one. c.if-self-ne1.true (record_areas_is c.args.self ∙ one))))

pub returns-then-not-records_sound : goal.returns-then-not-records_sound
returns-then-not-records_sound c =
    sym (asked c.args.self c.if-self-ne1.false c.record_row-records.ensures
    ∙ simp (sym c.records_sound.ensures ∙ c.if-not-records_sound.true))

pub returns-then-not-all_apart : goal.returns-then-not-all_apart
returns-then-not-all_apart c =
    sym (asked c.args.self c.if-self-ne1.false c.record_row-records.ensures
    ∙ simp (sym c.all_apart.ensures ∙ c.if-not-all_apart.true, and-false))

pub returns-then-not-sums_05 : goal.returns-then-not-sums_05
returns-then-not-sums_05 c =
    let s = c.args.self.sheet.now in
    let without = sym (allowed_word s (functions_is c.args.self) c.sums_05.ensures) in
    sym (asked c.args.self c.if-self-ne1.false c.record_row-records.ensures
    ∙ simp (
      sym c.records_sound.ensures ∙ c.if-not-records_sound.false,
      sym c.all_apart.ensures ∙ c.if-not-all_apart.false,
      without ∙ c.if-not-sums_05.true,
    ))

pub returns : goal.returns
returns c =
    let s = c.args.self.sheet.now in
    let with_05 = sym (allowed_word s (functions_is c.args.self) c.sums_05.ensures) in
    sym (asked c.args.self c.if-self-ne1.false c.record_row-records.ensures
    ∙ simp (
      sym c.records_sound.ensures ∙ c.if-not-records_sound.false,
      sym c.all_apart.ensures ∙ c.if-not-all_apart.false,
      with_05 ∙ c.if-not-sums_05.false,
    )
    (ap (λ (clear : ℕ). not (in_records clear c.record_row-records.result)) (sym (clear_is c.args.self))
    ∙ sym (ap not c.in_records.ensures)))
