-- What each call on a bank refuses, answers, stores and leaves: sections B and N of the rules. Assumes nothing.
use Rattle.std.specs.Prelude.{ℕ, Bool, not, List, [], ◌∷◌, ◌++◌, leb, Ok, Err}
use Rattle.lists.specs.Cases.{Case, when}
use Rattle.refusals.specs.declared.Refusal.{Refusal}
use Rattle.refusals.specs.declared.Refusal.TheVariants.{BrokenSheet, MisfittingBank, UnsoundBank, NotReadOnly, BadInput}
use Rattle.refusals.specs.Answers.{answer_by, Answer}
use Rattle.sheet_rules.specs.Rules.{broken_sheet}
use Rattle.bank_rules.specs.Stores.{Store, stored}
use Rattle.bank_rules.specs.Bank.{fits, bank_sound, fresh_stores, posted_run, all_read_only, post_stores, empty_or_odd, mark_stores}

-- what a call is lent: sheet, bank, and the ring of records beside the bank
pub record Lent : Type 0 where
  pub sheet : List ℕ
  pub bank : List ℕ
  pub ring : List ℕ

-- to a call with a frame, and to a call on a bank, which is lent no ring
abbrev pub lent_with : List ℕ → List ℕ → List ℕ → Lent
lent_with sheet bank ring = record { sheet = sheet; bank = bank; ring = ring }

abbrev pub lent : List ℕ → List ℕ → Lent
lent sheet bank = lent_with sheet bank []

-- ---- what is refused; rule N2 is `broken_sheet`

-- rule N3
abbrev pub misfitting_bank : Lent → Bool
misfitting_bank given = not (fits given.sheet given.bank)

-- rule N4
abbrev pub unsound_bank : Lent → Bool
unsound_bank given = not (bank_sound given.sheet given.bank)

-- rules N7 and B41, of a mark (of posted bytes: `empty_or_odd`; of a record: `wrong_record` of ring_rules)
abbrev pub bad_mark : ℕ → Bool
bad_mark mark = not (leb mark 1)

-- rules N6 and B31
abbrev pub bad_address : Lent → ℕ → List ℕ → Bool
bad_address given address bytes = not (all_read_only given.sheet (posted_run address bytes))

-- rules N50, N51 and B42: the refusals of each call, in their order
abbrev pub fresh_refusals : Lent → List (Case Refusal)
fresh_refusals given = when (broken_sheet given.sheet) BrokenSheet ∷ when (misfitting_bank given) MisfittingBank ∷ []

abbrev pub check_refusals : Lent → List (Case Refusal)
check_refusals given = fresh_refusals given ++ (when (unsound_bank given) UnsoundBank ∷ [])

abbrev pub post_refusals : Lent → ℕ → List ℕ → List (Case Refusal)
post_refusals given address bytes =
    check_refusals given
    ++ (when (empty_or_odd bytes) BadInput
    ∷ when (bad_address given address bytes) NotReadOnly
    ∷ [])

abbrev pub mark_refusals : Lent → ℕ → List (Case Refusal)
mark_refusals given mark = check_refusals given ++ (when (bad_mark mark) BadInput ∷ [])

-- ---- what is answered

unfoldable pub check_answer : Lent → Answer
check_answer given = answer_by (check_refusals given)

unfoldable pub fresh_answer : Lent → Answer
fresh_answer given = answer_by (fresh_refusals given)

unfoldable pub post_answer : Lent → ℕ → List ℕ → Answer
post_answer given address bytes = answer_by (post_refusals given address bytes)

unfoldable pub mark_answer : Lent → ℕ → Answer
mark_answer given mark = answer_by (mark_refusals given mark)

-- ---- what is stored: a call that is done makes its stores, one that is refused makes none (rule N52)

abbrev pub effect_of : Answer → List Store → List Store
effect_of (Ok tt) stores = stores
effect_of (Err refusal) stores = []

abbrev pub fresh_effect : Lent → List Store
fresh_effect given = effect_of (fresh_answer given) (fresh_stores given.sheet)

abbrev pub post_effect : Lent → ℕ → List ℕ → List Store
post_effect given address bytes = effect_of (post_answer given address bytes) (post_stores given.sheet address bytes)

abbrev pub mark_effect : Lent → ℕ → List Store
mark_effect given mark = effect_of (mark_answer given mark) (mark_stores given.sheet mark)

-- ---- what a call answers, and the bank as it leaves it

pub record BankOutcome : Type 0 where
  pub answer : Answer
  pub bank : List ℕ

abbrev pub bank_outcome : Answer → List ℕ → BankOutcome
bank_outcome answer bank = record { answer = answer; bank = bank }

unfoldable pub fresh_outcome : Lent → BankOutcome
fresh_outcome given = bank_outcome (fresh_answer given) (stored given.bank (fresh_effect given))

unfoldable pub post_outcome : Lent → ℕ → List ℕ → BankOutcome
post_outcome given address bytes = bank_outcome (post_answer given address bytes) (stored given.bank (post_effect given address bytes))

unfoldable pub mark_outcome : Lent → ℕ → BankOutcome
mark_outcome given mark = bank_outcome (mark_answer given mark) (stored given.bank (mark_effect given mark))
