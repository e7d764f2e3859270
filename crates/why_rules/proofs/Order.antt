-- Rule Y1 as a law over the ordered list of facts: the number of a reason is handed back exactly if its fact is true of the frame and each
-- earlier one is not, and 0 exactly if none is true. Assumes nothing.
use mathlib.Core.Path.{refl}
use mathlib.Core.List.{List, []}
use Prim.Native.Nat.{ℕ}
use Rattle.std.specs.Prelude.{None}
use Rattle.lists.specs.Cases.{mapped, InOrder}
use Rattle.lists.specs.Lists.{each}
use Rattle.lists.proofs.Cases.{apart, differ, told_in_order}
use Rattle.bank_rules.specs.Calls.{Lent}
use Rattle.why_rules.specs.Reasons.{reason_number, facts, reason_of}

pub reasons_in_order : (given : Lent) (frame : List ℕ) → InOrder (reason_number (reason_of given frame)) [] (mapped reason_number (facts given frame))
unfolding reason_of differ apart each
reasons_in_order given frame = told_in_order reason_number (facts given frame) None refl refl
