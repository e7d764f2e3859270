-- `meter::stages::for_station` meets its contract: step 2. Assumes nothing.
use Rattle.std.proofs.Common.{ℕ, ◌*◌, sym, ap, ◌∙◌, eq-eqb, ne_eqb}
use Rattle.words.specs.Words.{word_at}
use Rattle.bank_rules.specs.Bank.{station_of}
use Rattle.meter.specs.Stages.{addressed_to}
use Rattle.meter.proofs.stages.for_station.Goals as goal

pub returns-then-parts-address : goal.returns-then-parts-address
unfolding addressed_to
returns-then-parts-address c =
    let a = c.args in
    let station = c.word_at-address.ensures ∙ ap (λ (n : ℕ). word_at a.bank.now (2 * n)) c.address_place.ensures in
    simp (ne_eqb a.parts.station (station_of a.sheet.now a.bank.now) (λ e. c.if-parts-address.true (e ∙ sym station)))

pub returns : goal.returns
unfolding addressed_to
returns c =
    let a = c.args in
    let station = c.word_at-address.ensures ∙ ap (λ (n : ℕ). word_at a.bank.now (2 * n)) c.address_place.ensures in
    simp (eq-eqb a.parts.station (station_of a.sheet.now a.bank.now) (c.if-parts-address.false ∙ station))
