-- `check_value::eight_shifts` meets its contract: one test, computed over all 256 bytes, says that the rotation is eight shifts.
-- Assumes nothing.
use Rattle.std.proofs.Common.{◌≡◌, ℕ, ◌+◌, ◌*◌, ◌/◌, ◌%◌, ◌<◌, refl, ap, ◌∙◌, arith}
use lib.Bits.{bit_xor}
use lib.Count.{ones}
use Rattle.check_value.specs.Check.{bits_of_byte, shifted_times}
use Rattle.check_value.proofs.Entries.{entries, rules_agree}
use Rattle.check_value.proofs.eight_shifts.Goals as goal

-- the code's last two lines: a number combined with its double in 32 bits, and of that, rotated by six, the lowest sixteen bits
abbrev both : ℕ → ℕ
both marked = bit_xor marked (marked % 0x80000000 * 2)

abbrev rotated : ℕ → ℕ
rotated marked = both marked % 1024 * 64 + both marked / 0x4000000

closed_form : (low : ℕ) → low < 256 → rotated (low + ones low % 2 * 0xFC000100) ≡ shifted_times bits_of_byte low
unfolding entries shifted_times ones
closed_form = rules_agree (λ (low : ℕ). rotated (low + ones low % 2 * 0xFC000100)) (shifted_times bits_of_byte) 256 refl

by_the_mark : (marked low : ℕ) → low < 256 → marked ≡ low + ones low % 2 * 0xFC000100 → rotated marked ≡ shifted_times bits_of_byte low
by_the_mark marked low small is = ap rotated is ∙ closed_form low small

-- either way through the `if` marks the byte so
pub returns : goal.returns
returns c = by_the_mark _ c.args.low c.ranges.low.fits (grind arith)
