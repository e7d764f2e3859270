-- `bank::fresh_words::store_fresh` meets its contract: the groups of stores, one after another. Assumes nothing.
use Rattle.std.proofs.Common.{ℕ, ◌+◌, ◌*◌, map, ap, ◌∙◌}
use Rattle.words.specs.Words.{with_word}
use Rattle.lists.specs.Lists.{up_from}
use Rattle.bank_rules.specs.Stores.{stored}
use Rattle.bank_rules.specs.Bank.{zero_at}
use Rattle.bank.proofs.Making.{fresh_made}
use Rattle.bank.proofs.fresh_words.store_fresh.Goals as goal

pub returns : goal.returns
returns c =
    let a = c.args in
    fresh_made a.sheet.bytes.now a.bank.now
    (c.zero_words.ensures ∙ ap (λ (n : ℕ). stored a.bank.now (map zero_at (up_from 0 (n + 1)))) c.bank_words.ensures)
    c.store_lows.ensures
    (c.store_word.ensures ∙ ap (λ (n : ℕ). with_word c.store_lows.new.bank (2 * n) 1) c.address_place.ensures)
    (c.store_word-2.ensures ∙ ap (λ (n : ℕ). with_word c.store_word.new.bytes (2 * n) 1) c.rate_place.ensures)
