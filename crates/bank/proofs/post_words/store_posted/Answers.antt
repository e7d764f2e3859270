-- `bank::post_words::store_posted` meets its contract: each word at the place of its address. Assumes nothing.
use Rattle.std.proofs.Common.{ℕ, ◌*◌, ◌/◌, length, ap, ap₂, ◌∙◌, arith}
use Rattle.words.specs.Words.{with_word}
use Rattle.sheet_rules.specs.Lookup.{place_in}
use Rattle.bank_rules.specs.Stores.{stored}
use Rattle.bank_rules.specs.Bank.{post_store, post_stores}
use Rattle.bank_rules.proofs.Stores.{stores_start, stores_go_on, stores_end}
use Rattle.bank.proofs.post_words.store_posted.Goals as goal

pub loop-k-init : goal.loop-k-init
unfolding post_stores
loop-k-init c =
    let a = c.args in
    stores_start (post_store a.sheet.now a.address a.bytes.now) a.bank.now (length a.bytes.now / 2)

pub loop-k-preserved : goal.loop-k-preserved
loop-k-preserved c =
    let a = c.args in
    let loop = c.loop-k in
    let store = post_store a.sheet.now a.address a.bytes.now in
    let placed = c.place_in-place.ensures ∙ ap place_in c.lies_at.ensures in
    let made = c.store_word.ensures ∙ ap₂ (λ (place word : ℕ). with_word loop.bank (2 * place) word) placed c.word_at.ensures in
    stores_go_on store loop.bank c.store_word.new.bytes (stored a.bank.now (post_stores a.sheet.now a.address a.bytes.now)) loop.k
    (length a.bytes.now / 2) (omega arith) loop.invariant made

pub returns : goal.returns
returns c =
    let a = c.args in
    let loop = c.loop-k in
    stores_end (post_store a.sheet.now a.address a.bytes.now) loop.bank (stored a.bank.now (post_stores a.sheet.now a.address a.bytes.now)) loop.k
    (length a.bytes.now / 2) (omega arith) loop.invariant
