-- `listing::Line::decimal` meets its contract: one digit, or the digits of a tenth with the last one behind them. Assumes nothing.
use Rattle.std.proofs.Common.{◌≡◌, ◌/◌, ◌%◌, ◌^◌, ◌<◌, [], ◌∷◌, sym, ap, ap₂, ◌∙◌, arith}
use Rattle.listing.specs.Text.{digit_of, decimal}
use Rattle.listing.specs.Line.{with_character, with_text}
use Rattle.listing.proofs.Digits.{decimal_one, decimal_more}
use Rattle.listing.proofs.Lines.{byte_text, text_text}
use Rattle.listing.proofs.Line.+decimal.Goals as goal

pub returns-then-n-lt10 : goal.returns-then-n-lt10
returns-then-n-lt10 t c =
    let a = c.args in
    let low : a.n % 16 ≡ a.n = omega arith in
    c.byte.ensures
    ∙ ap (with_character a.self) (c.digit.ensures ∙ ap digit_of low)
    ∙ byte_text a.self (digit_of a.n)
    ∙ ap (with_text a.self) (sym (decimal_one a.n c.if-n-lt10.true))

pub returns : goal.returns
returns t c =
    let a = c.args in
    let low : a.n % 10 % 16 ≡ a.n % 10 = omega arith in
    let small : a.n < 2 ^ 32 = c.ranges.n.fits in
    c.byte-2.ensures
    ∙ ap₂ with_character c.decimal.ensures (c.digit-2.ensures ∙ ap digit_of low)
    ∙ byte_text (with_text a.self (decimal (a.n / 10))) (digit_of (a.n % 10))
    ∙ text_text a.self (decimal (a.n / 10)) (digit_of (a.n % 10) ∷ [])
    ∙ ap (with_text a.self) (sym (decimal_more a.n c.if-n-lt10.false small))
