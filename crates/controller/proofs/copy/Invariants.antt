-- `controller::copy` meets its contract. The loop's invariant: the bytes passed lie behind those before the place. Assumes nothing.
use Rattle.std.proofs.Common.{◌≡◌, take, drop, ◌++◌}
use Rattle.frame.specs.Reply.{laid}
use Rattle.controller.proofs.copy.Given as goal

abbrev pub invariant-loop-k : goal.invariant-loop-k
invariant-loop-k l = l.to ≡ laid (take l.at l.initial.to ++ take l.k (drop l.first l.from)) l.initial.to
