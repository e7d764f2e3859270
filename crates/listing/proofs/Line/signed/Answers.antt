-- `listing::Line::signed` meets its contract: a sign in front of a number below zero, and then its size. Assumes nothing.
use Rattle.std.proofs.Common.{ℕ, [], ◌∷◌, w64, nat_abs, sym, ap, ap₂, ◌∙◌}
use Prim.Native.Char.{code}
use mir.ValLaws.{to_z-of_z}
use Rattle.listing.specs.declared.Line.{Line}
use Rattle.listing.specs.Text.{decimal}
use Rattle.listing.specs.Line.{with_text}
use Rattle.listing.proofs.Lines.{byte_text, text_text}
use Rattle.listing.proofs.Signs.{text_below_zero, text_from_zero}
use Rattle.listing.proofs.Line.signed.Goals as goal

pub returns-then-n-lt0 : goal.returns-then-n-lt0
returns-then-n-lt0 c =
    let a = c.args in
    let read = to_z-of_z w64 a.n c.ranges.n in
    c.decimal.ensures
    ∙ ap₂ (λ (line : Line) (n : ℕ). with_text line (decimal n))
    (c.byte.ensures ∙ byte_text a.self (code "-")) (c.unsigned_abs-size.ensures.value ∙ ap nat_abs read)
    ∙ text_text a.self (code "-" ∷ []) (decimal (nat_abs a.n))
    ∙ ap (with_text a.self) (sym (text_below_zero a.n (rw read at c.if-n-lt0.true)))

pub returns : goal.returns
returns c =
    let a = c.args in
    let read = to_z-of_z w64 a.n c.ranges.n in
    c.decimal-2.ensures
    ∙ ap (λ (n : ℕ). with_text a.self (decimal n)) (c.unsigned_abs-size.ensures.value ∙ ap nat_abs read)
    ∙ ap (with_text a.self) (sym (text_from_zero a.n (rw read at c.if-n-lt0.false)))
