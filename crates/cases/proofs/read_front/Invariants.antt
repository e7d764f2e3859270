-- `cases::read_front` ends: each turn but the last takes a byte or more. Assumes nothing.
use Rattle.std.proofs.Common.{◌-◌, length}
use Rattle.cases.proofs.read_front.Given as goal

abbrev pub decreases-loop-done : goal.decreases-loop-done
decreases-loop-done l = length l.initial.room - l.done
