-- What a call that is done changes: posting stores each word at the place of its address, setting the mark stores it, and every other word
-- stays; a refusal changes nothing. Assumes nothing.
use mathlib.Core.Path.{◌≡◌, refl, ap, ◌∙◌}
use mathlib.Core.Bool.{Bool, true, false, cond}
use mathlib.Core.List.{List, [], ◌∷◌, ◌++◌}
use Prim.Native.Nat.{ℕ, ◌+◌, ◌*◌, ◌/◌, ◌<◌}
use native.Mathlib.Omega.{arith}
use lib.Dec.{leb, eqb}
use lib.ListN.{length}
use borrow.Author.Tests.{eq-eqb, ne_eqb, not-false}
use Rattle.std.specs.Prelude.{Ok, Err}
use Rattle.words.specs.Words.{word_at}
use Rattle.sheet_rules.specs.declared.Item.{Item}
use Rattle.sheet_rules.specs.Rows.{areas, items}
use Rattle.sheet_rules.specs.Rules.{read_only, sound}
use Rattle.sheet_rules.specs.Lookup.{lies_in, holds, place_in, found_at}
use Rattle.lists.proofs.Among.{Among}
use Rattle.sheet_rules.proofs.Addresses.{place_address, lies_below}
use Rattle.refusals.specs.Answers.{answer_number, Answer, call_done}
use Rattle.refusals.proofs.Answers.{done_none}
use Rattle.bank_rules.specs.Stores.{Store, word_of, stored}
use Rattle.bank_rules.specs.Bank.{fits, bank_sound, mark_place, posted_run, all_read_only, empty_or_odd, post_store, post_stores, mark_stores}
use Rattle.lists.specs.Cases.{NoneOf, conditions}
use Rattle.bank_rules.specs.Calls.{Lent, bad_mark, bad_address, check_refusals, fresh_refusals, post_refusals, mark_refusals, effect_of, check_answer, fresh_answer, post_answer, mark_answer, post_outcome, mark_outcome}
use Rattle.bank_rules.proofs.Latest.{latest, words_left, latest_none, latest_agreed}
use Rattle.bank_rules.proofs.Held.{held_below, read_only_unheld}
use Rattle.bank_rules.proofs.Inside.{map_among, number_among, posted_read_only, posted_store, mark_stores_inside, post_stores_inside}

-- ---- any call: its stores where it is done, nothing where it refuses

module _ (bank : List ℕ) (stores : List Store) where
  pub done_stores : {answer : Answer} → answer ≡ call_done → stored bank (effect_of answer stores) ≡ stored bank stores
  done_stores done = ap (λ (a : Answer). stored bank (effect_of a stores)) done

  -- what holds of the bank before, and of the bank after the stores of a call that is done, holds afterwards
  pub effect_either : (P : List ℕ → Type 0) (answer : Answer) → P bank → (answer ≡ call_done → P (stored bank stores))
      → P (stored bank (effect_of answer stores))
  unfolding stored
  effect_either P (Ok tt) before after = after refl
  effect_either P (Err refusal) before after = before

  pub refused_as_before : (answer : Answer) → (answer_number answer ≡ 0 → ⊥) → stored bank (effect_of answer stores) ≡ bank
  refused_as_before answer refuses = effect_either (λ b. b ≡ bank) answer refl (λ done. absurd (refuses (ap answer_number done)))

-- ---- what a call that is done has found

module _ (given : Lent) where
  pub record Passed : Type 0 where
    pub right : sound given.sheet ≡ true
    pub fitting : fits given.sheet given.bank ≡ true
    pub whole : bank_sound given.sheet given.bank ≡ true

  pub passed : (more : List Bool) → NoneOf (conditions (check_refusals given) ++ more) → Passed
  passed more none =
      record {
        right = not-false (sound given.sheet) none.0;
        fitting = not-false (fits given.sheet given.bank) none.1.0;
        whole = not-false (bank_sound given.sheet given.bank) none.1.1.0;
      }

  pub check_passed : check_answer given ≡ call_done → Passed
  unfolding check_answer
  check_passed done = passed [] (done_none (check_refusals given) done)

  pub fresh_passed : fresh_answer given ≡ call_done → (sound given.sheet ≡ true) × (fits given.sheet given.bank ≡ true)
  unfolding fresh_answer
  fresh_passed done =
      let none = done_none (fresh_refusals given) done in
      (not-false (sound given.sheet) none.0, not-false (fits given.sheet given.bank) none.1.0)

  module _ (address : ℕ) (bytes : List ℕ) (done : post_answer given address bytes ≡ call_done) where
    none_of_post : NoneOf (conditions (post_refusals given address bytes))
    unfolding post_answer
    none_of_post = done_none (post_refusals given address bytes) done

    pub post_passed : Passed
    post_passed = passed (empty_or_odd bytes ∷ bad_address given address bytes ∷ []) none_of_post

    pub post_even : empty_or_odd bytes ≡ false
    post_even = none_of_post.1.1.1.0

    pub post_readable : all_read_only given.sheet (posted_run address bytes) ≡ true
    post_readable = not-false (all_read_only given.sheet (posted_run address bytes)) none_of_post.1.1.1.1.0

  module _ (mark : ℕ) (done : mark_answer given mark ≡ call_done) where
    none_of_mark : NoneOf (conditions (mark_refusals given mark))
    unfolding mark_answer
    none_of_mark = done_none (mark_refusals given mark) done

    pub mark_passed : Passed
    mark_passed = passed (bad_mark mark ∷ []) none_of_mark

    pub mark_small : leb mark 1 ≡ true
    mark_small = not-false (leb mark 1) none_of_mark.1.1.1.0

-- ---- posting: rules B30 and B31

module _ (given : Lent) (address : ℕ) (bytes : List ℕ) (done : post_answer given address bytes ≡ call_done) where
  abbrev sheet : List ℕ
  sheet = given.sheet

  abbrev bank : List ℕ
  bank = given.bank

  found : Passed given
  found = post_passed given address bytes done

  readable : all_read_only sheet (posted_run address bytes) ≡ true
  readable = post_readable given address bytes done

  left : (place : ℕ) → word_of (post_outcome given address bytes).bank place ≡ latest (post_stores sheet address bytes) place (word_of bank place)
  unfolding post_outcome
  left place =
      ap (λ (b : List ℕ). word_of b place) (done_stores bank (post_stores sheet address bytes) done)
      ∙ words_left bank (post_stores sheet address bytes)
      (post_stores_inside sheet bank found.right found.fitting address bytes readable) place

  -- each posted address lies in an access 1 area
  pub post_lies : (k : ℕ) → k < length bytes / 2 → (place : ℕ) × (lies_in (areas sheet) (address + k) ≡ found_at place read_only)
  post_lies k inside =
      (place_in (lies_in (areas sheet) (address + k)), posted_read_only sheet address bytes readable k inside)

  -- and holds its word
  pub post_word : (k place access : ℕ) → k < length bytes / 2 → lies_in (areas sheet) (address + k) ≡ found_at place access
      → word_of (post_outcome given address bytes).bank place ≡ word_at bytes (2 * k)
  unfolding post_stores
  post_word k place access inside lies =
      left place ∙ latest_agreed place (word_at bytes (2 * k)) among (ap place_in lies) agree (word_of bank place)
    where
      among : Among (post_store sheet address bytes k) (post_stores sheet address bytes)
      among = map_among (post_store sheet address bytes) (number_among (length bytes / 2) inside)

      agree : (store : Store) → Among store (post_stores sheet address bytes) → store.place ≡ place → store.word ≡ word_at bytes (2 * k)
      agree store m at =
          let one = posted_store sheet address bytes readable m in
          let same : one.0 ≡ k =
          omega (
            arith,
            place_address sheet found.right (address + one.0) place read_only (one.2 ∙ ap (λ (n : ℕ). found_at n read_only) at),
            place_address sheet found.right (address + k) place access lies,
          ) in
          one.3 ∙ ap (λ (n : ℕ). word_at bytes (2 * n)) same

  -- every other word stays
  pub post_elsewhere : (place : ℕ) → ((k : ℕ) → k < length bytes / 2 → lies_in (areas sheet) (address + k) ≡ found_at place read_only → ⊥)
      → word_of (post_outcome given address bytes).bank place ≡ word_of bank place
  post_elsewhere place unposted = left place ∙ latest_none (post_stores sheet address bytes) place (word_of bank place) none
    where
      none : (store : Store) → Among store (post_stores sheet address bytes) → store.place ≡ place → ⊥
      none store m at =
          let one = posted_store sheet address bytes readable m in
          unposted one.0 one.1 (one.2 ∙ ap (λ (n : ℕ). found_at n read_only) at)

  -- also the mark
  pub post_mark : word_of (post_outcome given address bytes).bank (mark_place sheet) ≡ word_of bank (mark_place sheet)
  post_mark =
      post_elsewhere (mark_place sheet)
      (λ k inside lies. let below = lies_below sheet found.right (address + k) (mark_place sheet) read_only lies in omega arith)

  -- and the items
  pub post_items : (item : Item) → Among item (items sheet) → (place : ℕ) → holds item place ≡ true
      → word_of (post_outcome given address bytes).bank place ≡ word_of bank place
  post_items item m place held =
      post_elsewhere place (λ k inside lies. read_only_unheld sheet found.right (address + k) place lies m held)

-- ---- the mark: rule B40

-- the word at a place after the store of a mark
pub mark_stored : (sheet bank : List ℕ) → sound sheet ≡ true → fits sheet bank ≡ true → (mark place : ℕ)
    → word_of (stored bank (mark_stores sheet mark)) place ≡ cond (eqb (mark_place sheet) place) mark (word_of bank place)
unfolding latest
mark_stored sheet bank right fitting mark = words_left bank (mark_stores sheet mark) (mark_stores_inside sheet bank right fitting mark)

module _ (sheet bank : List ℕ) (right : sound sheet ≡ true) (fitting : fits sheet bank ≡ true) (mark : ℕ) where
  pub mark_there : word_of (stored bank (mark_stores sheet mark)) (mark_place sheet) ≡ mark
  mark_there = mark_stored sheet bank right fitting mark (mark_place sheet) ∙ simp (eq-eqb (mark_place sheet) (mark_place sheet) refl)

  pub mark_apart : (place : ℕ) → (mark_place sheet ≡ place → ⊥) → word_of (stored bank (mark_stores sheet mark)) place ≡ word_of bank place
  mark_apart place apart = mark_stored sheet bank right fitting mark place ∙ simp (ne_eqb (mark_place sheet) place apart)

module _ (given : Lent) (mark : ℕ) (done : mark_answer given mark ≡ call_done) where
  marked : Passed given
  marked = mark_passed given mark done

  mark_left : (place : ℕ) → word_of (mark_outcome given mark).bank place ≡ word_of (stored given.bank (mark_stores given.sheet mark)) place
  unfolding mark_outcome
  mark_left place = ap (λ (b : List ℕ). word_of b place) (done_stores given.bank (mark_stores given.sheet mark) done)

  pub mark_word : word_of (mark_outcome given mark).bank (mark_place given.sheet) ≡ mark
  mark_word = mark_left (mark_place given.sheet) ∙ mark_there given.sheet given.bank marked.right marked.fitting mark

  -- every other word stays
  pub mark_elsewhere : (place : ℕ) → (mark_place given.sheet ≡ place → ⊥) → word_of (mark_outcome given mark).bank place ≡ word_of given.bank place
  mark_elsewhere place apart = mark_left place ∙ mark_apart given.sheet given.bank marked.right marked.fitting mark place apart

  -- also the items
  pub mark_items : (item : Item) → Among item (items given.sheet) → (place : ℕ) → holds item place ≡ true
      → word_of (mark_outcome given mark).bank place ≡ word_of given.bank place
  mark_items item m place held =
      mark_elsewhere place (λ same. let below = held_below given.sheet marked.right place m held in omega arith)
