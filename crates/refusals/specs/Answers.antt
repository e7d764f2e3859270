-- Section N of the rules: the number of each refusal, and the answer of a call by its refusals. Assumes nothing.
use Rattle.std.specs.Prelude.{ℕ, List, Ok, Err, Result}
use Rattle.lists.specs.Cases.{Case, mapped, first_case}
use Rattle.refusals.specs.declared.Refusal.{Refusal}
use Rattle.refusals.specs.declared.Refusal.TheVariants.{BrokenSheet, MisfittingBank, UnsoundBank, SmallBuffer, NotReadOnly, BadInput, BadRing, NoFrame, ReplyDamaged, ReplyStation, ReplyFunction, ReplyBody}

-- rules N2 to N13 and F4
abbrev pub refusal_number : Refusal → ℕ
refusal_number BrokenSheet = 2
refusal_number MisfittingBank = 3
refusal_number UnsoundBank = 4
refusal_number SmallBuffer = 5
refusal_number NotReadOnly = 6
refusal_number BadInput = 7
refusal_number BadRing = 8
refusal_number NoFrame = 9
refusal_number ReplyDamaged = 10
refusal_number ReplyStation = 11
refusal_number ReplyFunction = 12
refusal_number ReplyBody = 13

-- what a call answers: done, or refused and why
abbrev pub Answer : Type 0
Answer = Result Unit Refusal

abbrev pub call_done : Answer
call_done = Ok tt

-- rule N0, done
abbrev pub answer_number : Answer → ℕ
answer_number (Ok tt) = 0
answer_number (Err refusal) = refusal_number refusal

-- rule N50, the answer of a call by its refusals in their order: the first that holds, or done
abbrev pub answer_by : List (Case Refusal) → Answer
answer_by refusals = first_case (mapped Err refusals) call_done
