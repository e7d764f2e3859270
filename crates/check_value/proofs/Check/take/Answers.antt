-- `check_value::Check::take` meets its contract: eight shifts bring the upper byte down as it is, and shift the lower byte out.
-- Assumes nothing.
use Rattle.std.proofs.Common.{ℕ, ◌/◌, ◌∙◌, sym, ap}
use lib.Bits.{bit_xor}
use Rattle.check_value.specs.Check.{bits_of_byte, taken, check_at}
use Rattle.check_value.proofs.Shift.{times_apart}
use Rattle.check_value.proofs.Check.take.Goals as goal

pub returns : goal.returns
unfolding taken
returns c =
    let mixed = bit_xor c.args.self.state c.args.byte in
    ap (λ (low : ℕ). check_at (bit_xor (mixed / 256) low)) c.eight_shifts.ensures
    ∙ ap check_at (sym (times_apart bits_of_byte mixed))
