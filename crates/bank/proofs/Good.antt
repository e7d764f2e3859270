-- An item that is judged by its row and its value lies at the side that its definition says, and is good where that is in range. Assumes nothing.
use mathlib.Core.Path.{◌≡◌, sym, ap, ◌∙◌}
use Prim.Native.Nat.{ℕ}
use Rattle.range.specs.declared.Side.{Side}
use Rattle.range.specs.Range.{side_of, inside}
use Rattle.sheet_rules.specs.declared.Item.{Item}
use Rattle.bank_rules.specs.Bank.{value_by, side_by, good_by}

pub side_told : (at : ℕ → ℕ) {item row : Item} {value : ℕ} {side : Side} → item ≡ row → value ≡ value_by at item
    → side ≡ side_of item.kind item.low item.high value → side_by at row ≡ side
unfolding side_by
side_told at {item} here valued judged =
    sym (judged ∙ ap (side_of item.kind item.low item.high) valued ∙ ap (side_by at) here)

pub good_told : (at : ℕ → ℕ) {item row : Item} {value : ℕ} {side : Side} → item ≡ row → value ≡ value_by at item
    → side ≡ side_of item.kind item.low item.high value → good_by at row ≡ inside side
unfolding good_by
good_told at here valued judged = ap inside (side_told at here valued judged)
