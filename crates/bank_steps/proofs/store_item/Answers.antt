-- `bank_steps::store_item` meets its contract: a word's store, or for a pair two. Assumes nothing.
use Rattle.std.proofs.Common.{ℕ, List, ◌%◌, ◌∙◌, ap₂, eq-eqb, ne_eqb}
use Rattle.words.specs.Words.{with_word}
use Rattle.range.specs.Range.{unsigned_pair}
use Rattle.bank_rules.specs.Stores.{stored}
use Rattle.bank_rules.proofs.Stores.{next_place_lem}
use Rattle.bank_steps.proofs.store_item.Goals as goal

pub returns-then-item-ne2 : goal.returns-then-item-ne2
unfolding stored
returns-then-item-ne2 c = simp (ne_eqb c.args.item.kind unsigned_pair c.if-item-ne2.true) c.store_word.ensures

pub returns : goal.returns
unfolding stored
returns c =
    let a = c.args in
    simp (eq-eqb a.item.kind unsigned_pair c.if-item-ne2.false)
    (c.store_word-3.ensures
    ∙ ap₂ (λ (bank : List ℕ) (at : ℕ). with_word bank at (a.value % 65536)) c.store_word-2.ensures (next_place_lem a.item.place))
