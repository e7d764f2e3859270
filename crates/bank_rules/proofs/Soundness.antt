-- A fresh bank is sound, and a sound bank stays so when readings are posted and when the mark is set. Assumes nothing.
use mathlib.Core.Path.{◌≡◌, sym, ap, ◌∙◌}
use mathlib.Core.Bool.{true}
use mathlib.Core.List.{List}
use Prim.Native.Nat.{ℕ}
use lib.Dec.{leb}
use Rattle.bank_rules.specs.Stores.{Store, stored}
use Rattle.bank_rules.specs.Bank.{bank_sound, fresh_stores, post_stores, mark_stores}
use Rattle.bank_rules.specs.Calls.{Lent, effect_of, fresh_answer, post_answer, mark_answer, fresh_outcome, post_outcome, mark_outcome}
use Rattle.bank_rules.proofs.FreshBank.{fresh_sound}
use Rattle.bank_rules.proofs.Values.{sound_mark, sound_kept}
use Rattle.bank_rules.proofs.Changes.{done_stores, effect_either, fresh_passed, mark_small, post_items, post_mark, mark_items, mark_word}
use Rattle.refusals.specs.Answers.{Answer, call_done}

module _ (given : Lent) where
  pub fresh_makes_sound : fresh_answer given ≡ call_done → bank_sound given.sheet (fresh_outcome given).bank ≡ true
  unfolding fresh_outcome
  fresh_makes_sound done =
      let found = fresh_passed given done in
      ap (bank_sound given.sheet) (done_stores given.bank (fresh_stores given.sheet) done)
      ∙ fresh_sound given.sheet given.bank found.0 found.1

  -- a call that stores nothing where it refuses, and keeps the items and a mark of 0 or 1 where it is done, whatever it answers
  keeps_sound : (answer : Answer) (stores : List Store) → bank_sound given.sheet given.bank ≡ true
      → (answer ≡ call_done → bank_sound given.sheet (stored given.bank (effect_of answer stores)) ≡ true)
      → bank_sound given.sheet (stored given.bank (effect_of answer stores)) ≡ true
  keeps_sound answer stores whole after =
      effect_either given.bank stores (λ left. bank_sound given.sheet left ≡ true) answer whole
      (λ done. ap (bank_sound given.sheet) (sym (done_stores given.bank stores done)) ∙ after done)

  pub post_keeps_sound : (address : ℕ) (bytes : List ℕ) → bank_sound given.sheet given.bank ≡ true
      → bank_sound given.sheet (post_outcome given address bytes).bank ≡ true
  unfolding post_outcome
  post_keeps_sound address bytes whole =
      keeps_sound (post_answer given address bytes) (post_stores given.sheet address bytes) whole
      (λ done. sound_kept given.sheet given.bank (post_outcome given address bytes).bank whole (post_items given address bytes done)
      (ap (λ (n : ℕ). leb n 1) (post_mark given address bytes done) ∙ sound_mark given.sheet given.bank whole))

  pub mark_keeps_sound : (mark : ℕ) → bank_sound given.sheet given.bank ≡ true → bank_sound given.sheet (mark_outcome given mark).bank ≡ true
  unfolding mark_outcome
  mark_keeps_sound mark whole =
      keeps_sound (mark_answer given mark) (mark_stores given.sheet mark) whole
      (λ done. sound_kept given.sheet given.bank (mark_outcome given mark).bank whole (mark_items given mark done)
      (ap (λ (n : ℕ). leb n 1) (mark_word given mark done) ∙ mark_small given mark done))
