-- `bank::sound` meets its contract: each item is read and judged, then the mark. Assumes nothing.
use Rattle.std.proofs.Common.{ℕ, ◌+◌, ◌-◌, ◌*◌, sym, ap, ◌∙◌, arith}
use lib.Dec.{leb}
use Rattle.words.specs.Words.{word_at}
use Rattle.lists.specs.Lists.{rows, each}
use Rattle.lists.proofs.Walks.{rows_on, rows_end_lem, rows_all, each_goes_on, each_stops, each_ends}
use Rattle.sheet_rules.specs.Rows.{item_count, item_row, item_at, items}
use Rattle.sheet_rules.proofs.Rows.{items_rows}
use Rattle.sheet_rules.proofs.Sound.{row_counted, row_past, sound_numbers}
use Rattle.bank_rules.specs.Stores.{word_of}
use Rattle.bank_rules.specs.Bank.{good_by, bank_sound}
use Rattle.bank.proofs.Good.{good_told}
use Rattle.bank.proofs.sound.Goals as goal

pub loop-item-init : goal.loop-item-init
loop-item-init c =
    let s = c.args.sheet.bytes.now in
    record {
      within = omega arith;
      left = ap (each (good_by (word_of c.args.bank.now))) (rows_all (item_at s) (item_count s) ∙ items_rows s);
    }

pub returns-then-not-inside : goal.returns-then-not-inside
unfolding bank_sound
returns-then-not-inside c =
    let a = c.args in
    let s = a.sheet.bytes.now in
    let k = c.loop-item.k in
    let inside = row_counted s c.args.sheet.keeps k c.area_count-areas.ensures c.item_end.ensures c.loop-item-test.true in
    let item_says = c.item_row-item.ensures ∙ ap (λ (n : ℕ). item_row s n k) c.area_count-areas.ensures in
    let count = item_count s in
    let good = good_by (word_of a.bank.now) in
    let row = item_at s in
    let none = each_stops good (rows row k (count - k)) (rows row (k + 1) (count - (k + 1))) (row k) (rows_on row k count inside)
    (each good (items s)) c.loop-item.invariant.left
    (good_told (word_of a.bank.now) item_says c.value_in-value.ensures c.side_of.ensures ∙ sym c.inside.ensures ∙ c.if-not-inside.true) in
    simp none

pub overflow_add-k : goal.overflow_add-k
overflow_add-k c =
    let s = c.args.sheet.bytes.now in
    omega (
      arith,
      row_counted s c.args.sheet.keeps c.loop-item.k c.area_count-areas.ensures c.item_end.ensures c.loop-item-test.true,
      (sound_numbers s c.args.sheet.keeps).items_high,
    )

pub loop-item-smaller : goal.loop-item-smaller
loop-item-smaller c =
    omega (arith, row_counted c.args.sheet.bytes.now c.args.sheet.keeps c.loop-item.k c.area_count-areas.ensures c.item_end.ensures c.loop-item-test.true)

pub loop-item-preserved : goal.loop-item-preserved
loop-item-preserved c =
    let a = c.args in
    let s = a.sheet.bytes.now in
    let k = c.loop-item.k in
    let inside = row_counted s c.args.sheet.keeps k c.area_count-areas.ensures c.item_end.ensures c.loop-item-test.true in
    let item_says = c.item_row-item.ensures ∙ ap (λ (n : ℕ). item_row s n k) c.area_count-areas.ensures in
    let count = item_count s in
    let good = good_by (word_of a.bank.now) in
    let row = item_at s in
    record {
      within = omega (arith, inside);
      left = each_goes_on good (rows row k (count - k)) (rows row (k + 1) (count - (k + 1))) (row k) (rows_on row k count inside)
          (each good (items s)) c.loop-item.invariant.left
          (good_told (word_of a.bank.now) item_says c.value_in-value.ensures c.side_of.ensures ∙ sym c.inside.ensures ∙ c.if-not-inside.false);
    }

pub returns : goal.returns
unfolding bank_sound
returns c =
    let a = c.args in
    let s = a.sheet.bytes.now in
    let k = c.loop-item.k in
    let past = row_past s c.args.sheet.keeps k c.area_count-areas.ensures c.item_end.ensures c.loop-item-test.false in
    let count = item_count s in
    let good = good_by (word_of a.bank.now) in
    let row = item_at s in
    let all = each_ends good (rows row k (count - k)) (each good (items s)) (rows_end_lem row k count past) c.loop-item.invariant.left in
    simp all (ap (λ (word : ℕ). leb word 1) (c.word_at.ensures ∙ ap (λ (n : ℕ). word_at a.bank.now (2 * n)) c.bank_words.ensures))
