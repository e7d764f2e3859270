-- `frame::top_bit_set` meets its contract: one test, computed over all 256 bytes. Assumes nothing.
use Rattle.std.proofs.Common.{◌≡◌, ℕ, ◌<◌, refl}
use lib.Bits.{bit_or}
use Rattle.check_value.proofs.Entries.{entries, rules_agree}
use Rattle.frame.specs.Reply.{top_bit, top_bit_set}
use Rattle.frame.proofs.top_bit_set.Goals as goal

with_top_bit : (byte : ℕ) → byte < 256 → bit_or byte top_bit ≡ top_bit_set byte
unfolding entries
with_top_bit = rules_agree (λ (byte : ℕ). bit_or byte top_bit) top_bit_set 256 refl

pub returns : goal.returns
returns c = with_top_bit c.args.function c.ranges.function.fits
