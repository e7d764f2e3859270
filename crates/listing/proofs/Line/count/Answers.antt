-- `listing::Line::count` meets its contract: a text behind a text. Assumes nothing.
use Rattle.std.proofs.Common.{ℕ, ap₂, ◌∙◌}
use Rattle.listing.specs.declared.Line.{Line}
use Rattle.listing.specs.Text.{decimal}
use Rattle.listing.specs.Line.{with_text}
use Rattle.listing.proofs.Lines.{text_text}
use Rattle.listing.proofs.Line.count.Goals as goal

pub returns : goal.returns
returns c =
    let a = c.args in
    c.decimal.ensures
    ∙ ap₂ (λ (line : Line) (n : ℕ). with_text line (decimal n)) c.text.ensures c.from.ensures
    ∙ text_text a.self a.word.now (decimal a.count)
