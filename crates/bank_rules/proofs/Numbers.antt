-- Rules N50 and N51: each number is handed back exactly if its condition holds and none does that comes before it in the order, and 0
-- exactly if none holds. Assumes nothing.
use mathlib.Core.Path.{◌≡◌, refl}
use mathlib.Core.Logic.{◌↔◌}
use mathlib.Core.List.{List, [], ◌∷◌}
use Prim.Native.Nat.{ℕ}
use Rattle.lists.specs.Cases.{when, FirstAfter, InOrder}
use Rattle.lists.proofs.Cases.{differ}
use Rattle.refusals.specs.Answers.{answer_number}
use Rattle.refusals.proofs.Answers.{numbers_in_order}
use Rattle.sheet_rules.specs.Rules.{broken_sheet}
use Rattle.bank_rules.specs.Bank.{empty_or_odd}
use Rattle.bank_rules.specs.Calls.{Lent, misfitting_bank, unsound_bank, bad_mark, bad_address, check_refusals, fresh_refusals, post_refusals, mark_refusals, check_answer, fresh_answer, post_answer, mark_answer}

-- ---- the calls, rule N51

module _ (given : Lent) where
  pub check_numbers : InOrder (answer_number (check_answer given)) []
      (when (broken_sheet given.sheet) 2 ∷ when (misfitting_bank given) 3 ∷ when (unsound_bank given) 4 ∷ [])
  unfolding check_answer differ
  check_numbers = numbers_in_order (check_refusals given) refl

  pub fresh_numbers : InOrder (answer_number (fresh_answer given)) [] (when (broken_sheet given.sheet) 2 ∷ when (misfitting_bank given) 3 ∷ [])
  unfolding fresh_answer differ
  fresh_numbers = numbers_in_order (fresh_refusals given) refl

  pub post_numbers : (address : ℕ) (bytes : List ℕ) → InOrder (answer_number (post_answer given address bytes)) []
      (when (broken_sheet given.sheet) 2 ∷ when (misfitting_bank given) 3 ∷ when (unsound_bank given) 4
      ∷ when (empty_or_odd bytes) 7 ∷ when (bad_address given address bytes) 6 ∷ [])
  unfolding post_answer differ
  post_numbers address bytes = numbers_in_order (post_refusals given address bytes) refl

  pub mark_numbers : (mark : ℕ) → InOrder (answer_number (mark_answer given mark)) []
      (when (broken_sheet given.sheet) 2 ∷ when (misfitting_bank given) 3 ∷ when (unsound_bank given) 4 ∷ when (bad_mark mark) 7 ∷ [])
  unfolding mark_answer differ
  mark_numbers mark = numbers_in_order (mark_refusals given mark) refl

  -- 7 comes before 6
  pub post_7 : (address : ℕ) (bytes : List ℕ) → (answer_number (post_answer given address bytes) ≡ 7)
      ↔ FirstAfter (broken_sheet given.sheet ∷ misfitting_bank given ∷ unsound_bank given ∷ []) (empty_or_odd bytes)
  post_7 address bytes = (post_numbers address bytes).1.1.1.0

  pub post_6 : (address : ℕ) (bytes : List ℕ) → (answer_number (post_answer given address bytes) ≡ 6)
      ↔ FirstAfter (broken_sheet given.sheet ∷ misfitting_bank given ∷ unsound_bank given ∷ empty_or_odd bytes ∷ []) (bad_address given address bytes)
  post_6 address bytes = (post_numbers address bytes).1.1.1.1.0
