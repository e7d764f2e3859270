-- A number tells its refusal, and its answer: no two have one. A refusal's is none of 0 and 1. Assumes nothing.
use mathlib.Core.Path.{◌≡◌, refl, sym, ap, ◌∙◌}
use mathlib.Core.List.{List, [], ◌∷◌}
use Prim.Native.Nat.{ℕ, ◌≤◌}
use native.Mathlib.Omega.{arith}
use lib.ListN.{get_or}
use Rattle.std.specs.Prelude.{Ok, Err}
use Rattle.refusals.specs.declared.Refusal.{Refusal}
use Rattle.refusals.specs.declared.Refusal.TheVariants.{BrokenSheet, MisfittingBank, UnsoundBank, SmallBuffer, NotReadOnly, BadInput, BadRing, NoFrame, ReplyDamaged, ReplyStation, ReplyFunction, ReplyBody}
use Rattle.refusals.specs.Answers.{refusal_number, answer_number, Answer, call_done}

-- the answers by their numbers; 1 is none of them
abbrev answers : List Answer
answers =
    call_done ∷ call_done ∷ Err BrokenSheet ∷ Err MisfittingBank ∷ Err UnsoundBank ∷ Err SmallBuffer ∷ Err NotReadOnly
    ∷ Err BadInput ∷ Err BadRing ∷ Err NoFrame ∷ Err ReplyDamaged ∷ Err ReplyStation ∷ Err ReplyFunction
    ∷ Err ReplyBody ∷ []

abbrev answer_of : ℕ → Answer
answer_of number = get_or answers number call_done

found : (answer : Answer) → answer_of (answer_number answer) ≡ answer
found (Ok tt) = refl
found (Err BrokenSheet) = refl
found (Err MisfittingBank) = refl
found (Err UnsoundBank) = refl
found (Err SmallBuffer) = refl
found (Err NotReadOnly) = refl
found (Err BadInput) = refl
found (Err BadRing) = refl
found (Err NoFrame) = refl
found (Err ReplyDamaged) = refl
found (Err ReplyStation) = refl
found (Err ReplyFunction) = refl
found (Err ReplyBody) = refl

pub number_tells : (a b : Answer) → answer_number a ≡ answer_number b → a ≡ b
number_tells a b same = sym (found a) ∙ ap answer_of same ∙ found b

-- 0 and 1 are no refusal's
pub refusal_from_two : (refusal : Refusal) → 2 ≤ refusal_number refusal
refusal_from_two BrokenSheet = omega arith
refusal_from_two MisfittingBank = omega arith
refusal_from_two UnsoundBank = omega arith
refusal_from_two SmallBuffer = omega arith
refusal_from_two NotReadOnly = omega arith
refusal_from_two BadInput = omega arith
refusal_from_two BadRing = omega arith
refusal_from_two NoFrame = omega arith
refusal_from_two ReplyDamaged = omega arith
refusal_from_two ReplyStation = omega arith
refusal_from_two ReplyFunction = omega arith
refusal_from_two ReplyBody = omega arith
