-- Every line of a listing fits its room, so that no text is cut. Assumes nothing.
use Prim.Native.Nat.{ℕ, zero, suc, ◌/◌, ◌%◌, ◌≤◌, ◌<◌}
use mathlib.Core.Path.{◌≡◌, refl, ap, subst⁻¹, ◌∙◌}
use mathlib.Core.Bool.{Bool, true, false, cond}
use mathlib.Core.List.{List, [], ◌∷◌, ◌++◌}
use native.Mathlib.Omega.{arith}
use native.Mathlib.Nat.{min-eq_left}
use lib.Dec.{ltb}
use lib.IntN.{ℤ, pos, negsuc}
use lib.ListN.{length, take, replicate, length-append}
use Rattle.range.specs.Range.{number_of}
use Rattle.sheet_rules.specs.declared.Area.{Area}
use Rattle.sheet_rules.specs.declared.Item.{Item}
use Rattle.sheet_rules.specs.Rows.{area_count, item_count, bank_words}
use Rattle.listing.specs.Ascii.{ascii}
use Rattle.listing.specs.Text.{digit_of, decimal, decimal_within, signed_decimal, summary_text, item_text}
use Rattle.listing.specs.Line.{room, line_of}
use Rattle.listing.proofs.Digits.{within_more}

within_length : (places n : ℕ) → length (decimal_within places n) ≤ places
unfolding decimal_within
within_length zero n = omega arith
within_length (suc places) n = go (ltb n 10) (within_length places (n / 10))
  where
    go : (one : Bool) → length (decimal_within places (n / 10)) ≤ places
        → length (cond one (digit_of n ∷ []) (decimal_within places (n / 10) ++ (digit_of (n % 10) ∷ []))) ≤ suc places
    go true front = omega arith
    go false front = omega (arith, length-append (decimal_within places (n / 10)) (digit_of (n % 10) ∷ []))

signed_length : (z : ℤ) → length (signed_decimal z) ≤ 11
unfolding signed_decimal decimal
signed_length (pos n) = omega (arith, within_length 10 n)
signed_length (negsuc n) = omega (arith, within_length 10 (suc n))

-- a word has at most five digits
word_length : (n : ℕ) → n < 0x10000 → length (decimal n) ≤ 5
unfolding decimal
word_length n small = subst⁻¹ (λ (digits : List ℕ). length digits ≤ 5) five (within_length 5 n)
  where
    five : decimal_within 10 n ≡ decimal_within 5 n
    five =
        within_more 8 n (omega arith) ∙ within_more 7 n (omega arith) ∙ within_more 6 n (omega arith)
        ∙ within_more 5 n (omega arith) ∙ within_more 4 n (omega arith)

pub item_fits : (all : List Area) (item : Item) → length (item_text all item) ≤ room
unfolding item_text
item_fits all item =
    simp length-append
    (omega (arith, signed_length (number_of item.kind item.low), signed_length (number_of item.kind item.high)))

pub summary_fits : (sheet : List ℕ) → area_count sheet < 0x10000 → item_count sheet < 0x10000 → bank_words sheet < 0x10000
    → length (summary_text sheet) ≤ room
unfolding summary_text ascii
summary_fits sheet areas items bank =
    simp length-append
    (omega (arith, word_length (area_count sheet) areas, word_length (item_count sheet) items, word_length (bank_words sheet) bank))

-- the bytes of a line, as far as its length says, are a text that fits
pub line_holds : (text : List ℕ) → length text ≤ room → take (line_of text).len (line_of text).bytes ≡ text
unfolding line_of
line_holds text fits =
    ap (λ (n : ℕ). take n (take room (text ++ replicate room 0))) (min-eq_left fits) ∙ held text room fits
  where
    held : (text : List ℕ) (n : ℕ) → length text ≤ n → take (length text) (take n (text ++ replicate room 0)) ≡ text
    held [] n fits = refl
    held (byte ∷ behind) zero fits = absurd (omega arith)
    held (byte ∷ behind) (suc n) fits = ap (λ (rest : List ℕ). byte ∷ rest) (held behind n (omega arith))
