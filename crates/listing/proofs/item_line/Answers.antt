-- `listing::item_line` meets its contract, piece by piece. Assumes nothing.
use Rattle.std.proofs.Common.{ℕ, [], ◌∷◌, refl, ap, ◌∙◌}
use Rattle.sheet_rules.specs.declared.Item.{Item}
use Rattle.sheet_rules.specs.Rows.{areas, item_row}
use Rattle.listing.specs.Text.{blank, line_feed, hexadecimal, item_text}
use Rattle.listing.specs.Line.{line_of}
use Rattle.listing.proofs.Lines.{line_on, line_on_byte}
use Rattle.listing.proofs.item_line.Goals as goal

pub returns : goal.returns
unfolding item_text
returns c =
    let a = c.args in
    line_on_byte _ line_feed
    (line_on _ _
    (line_on_byte _ blank
    (line_on _ _
    (line_on _ _
    (line_on [] _ c.empty.ensures c.hexadecimal.ensures (ap hexadecimal c.address_of.ensures))
    c.text.ensures (ap (λ (letter : ℕ). blank ∷ letter ∷ blank ∷ []) c.letter.ensures))
    c.value.ensures refl)
    c.byte.ensures)
    c.value-2.ensures refl)
    c.byte-2.ensures
    ∙ ap (λ (row : Item). line_of (item_text (areas a.sheet.now) row))
    (c.item_row-item.ensures ∙ ap (λ (before : ℕ). item_row a.sheet.now before a.k) c.area_count.ensures)
