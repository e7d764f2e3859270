-- `check_value::value_of` meets its contract. The loop's invariant: the bytes that are left bring the state to the value of the whole.
-- Assumes nothing.
use Rattle.std.proofs.Common.{◌≡◌, drop}
use Rattle.check_value.specs.Check.{state_after, value_of}
use Rattle.check_value.proofs.value_of.Given as goal

abbrev pub invariant-loop-byte : goal.invariant-loop-byte
invariant-loop-byte l = state_after l.check.state (drop l.byte-index l.bytes) ≡ value_of l.bytes
