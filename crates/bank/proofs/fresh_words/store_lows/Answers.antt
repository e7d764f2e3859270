-- `bank::fresh_words::store_lows` meets its contract: the stores of one item more, and at the end none is left. Assumes nothing.
use Rattle.std.proofs.Common.{ℕ, ◌+◌, ◌-◌, List, ◌∷◌, sym, ap, ◌∙◌, arith}
use Rattle.lists.specs.Lists.{rows}
use Rattle.lists.proofs.Walks.{rows_on, rows_end_lem, rows_all}
use Rattle.sheet_rules.specs.declared.Item.{Item}
use Rattle.sheet_rules.specs.Rows.{item_count, item_row, item_at}
use Rattle.sheet_rules.proofs.Rows.{items_rows}
use Rattle.sheet_rules.proofs.Sound.{row_counted, row_past, sound_numbers}
use Rattle.bank_rules.specs.Stores.{stored}
use Rattle.bank_rules.specs.Bank.{item_stores, low_stores}
use Rattle.bank_rules.proofs.Stores.{stored_append}
use Rattle.bank.proofs.fresh_words.store_lows.Goals as goal

pub loop-item-init : goal.loop-item-init
loop-item-init c =
    let s = c.args.sheet.bytes.now in
    record {
      within = omega arith;
      left = ap (λ (l : List Item). stored c.args.bank.now (low_stores l)) (rows_all (item_at s) (item_count s) ∙ items_rows s);
    }

pub overflow_add-k : goal.overflow_add-k
overflow_add-k c =
    let s = c.args.sheet.bytes.now in
    omega (
      arith,
      row_counted s c.args.sheet.keeps c.loop-item.k c.area_count-areas.ensures c.item_end.ensures c.loop-item-test.true,
      (sound_numbers s c.args.sheet.keeps).items_high,
    )

pub loop-item-smaller : goal.loop-item-smaller
loop-item-smaller c =
    omega (arith, row_counted c.args.sheet.bytes.now c.args.sheet.keeps c.loop-item.k c.area_count-areas.ensures c.item_end.ensures c.loop-item-test.true)

pub loop-item-preserved : goal.loop-item-preserved
unfolding low_stores
loop-item-preserved c =
    let s = c.args.sheet.bytes.now in
    let k = c.loop-item.k in
    let bank = c.loop-item.bank in
    let inside = row_counted s c.args.sheet.keeps k c.area_count-areas.ensures c.item_end.ensures c.loop-item-test.true in
    let item_says = c.item_row-item.ensures ∙ ap (λ (n : ℕ). item_row s n k) c.area_count-areas.ensures in
    let item = c.item_row-item.result in
    let behind = rows (item_at s) (k + 1) (item_count s - (k + 1)) in
    record {
      within = omega (arith, inside);
      left = ap (λ (b : List ℕ). stored b (low_stores behind)) c.store_item.ensures
          ∙ sym (stored_append bank (item_stores item item.low) (low_stores behind))
          ∙ ap (λ (i : Item). stored bank (low_stores (i ∷ behind))) item_says
          ∙ sym (ap (λ (l : List Item). stored bank (low_stores l)) (rows_on (item_at s) k (item_count s) inside))
          ∙ c.loop-item.invariant.left;
    }

pub returns : goal.returns
unfolding stored low_stores
returns c =
    let s = c.args.sheet.bytes.now in
    let past = row_past s c.args.sheet.keeps c.loop-item.k c.area_count-areas.ensures c.item_end.ensures c.loop-item-test.false in
    sym (ap (λ (l : List Item). stored c.loop-item.bank (low_stores l)) (rows_end_lem (item_at s) c.loop-item.k (item_count s) past))
    ∙ c.loop-item.invariant.left
