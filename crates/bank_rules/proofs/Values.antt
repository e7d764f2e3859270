-- The value of an item and the words that make it: words that agree at the item's places give one value, and an item that is stored at a
-- value has that value. Assumes nothing.
use mathlib.Core.Path.{◌≡◌, refl, sym, ap, ap₂, ◌∙◌}
use mathlib.Core.Bool.{Bool, true, false, ◌&&◌, ◌||◌, cond, false≢true}
use mathlib.Core.List.{List, [], ◌∷◌}
use mathlib.Core.Logic.{⊎_elim}
use Prim.Native.Nat.{ℕ, ◌+◌, ◌*◌, ◌/◌, ◌%◌}
use native.Mathlib.Omega.{arith}
use native.Mathlib.Nat.{div-add-mod'}
use lib.Dec.{leb, eqb}
use lib.IntN.{ℤ, pos, negsuc}
use lib.Signed.{le_z}
use borrow.Author.Tests.{le-leb, eqb-true, eq-eqb, ne_eqb}
use Rattle.range.specs.Range.{unsigned_pair, number_of, not_above, in_range}
use Rattle.range.proofs.Sides.{in_range_between}
use Rattle.sheet_rules.specs.declared.Item.{Item}
use Rattle.sheet_rules.specs.Rows.{items}
use Rattle.lists.specs.Lists.{each}
use Rattle.sheet_rules.specs.Rules.{is_pair, low_high_rule}
use Rattle.sheet_rules.specs.Lookup.{holds}
use Rattle.lists.proofs.Tests.{first_of, second_of_lem}
use Rattle.lists.proofs.Among.{Among, here, there, among_nil, among_cons, each_among}
use Rattle.bank_rules.specs.Stores.{Store, word_of}
use Rattle.bank_rules.specs.Bank.{value_by, good_by, bank_sound, mark_place, item_stores}
use Rattle.bank_rules.proofs.Held.{holds_first, holds_second, SettingItem}

-- ---- words that agree at an item's places

module _ (at by : ℕ → ℕ) (item : Item) (same : (place : ℕ) → holds item place ≡ true → at place ≡ by place) where
  pub value_same : value_by at item ≡ value_by by item
  value_same = go (is_pair item) refl
    where
      first : at item.place ≡ by item.place
      first = same item.place (holds_first item item.place refl)

      go : (pair : Bool) → is_pair item ≡ pair
          → cond pair (at item.place * 65536 + at (item.place + 1)) (at item.place)
          ≡ cond pair (by item.place * 65536 + by (item.place + 1)) (by item.place)
      go true e = ap₂ (λ (u l : ℕ). u * 65536 + l) first (same (item.place + 1) (holds_second item (item.place + 1) e refl))
      go false e = first

  pub good_same : good_by at item ≡ good_by by item
  unfolding good_by in_range
  good_same = ap (in_range item.kind item.low item.high) value_same

-- ---- an item that is stored at a value

-- the word of such an item at one of its places
unfoldable pub item_word : Item → ℕ → ℕ → ℕ
item_word item value place = cond (is_pair item && eqb item.place place) (value / 65536) (value % 65536)

module _ (item : Item) (value : ℕ) where
  abbrev first : ℕ → Store
  first word = record { place = item.place; word = word }

  abbrev second : Store
  second = record { place = item.place + 1; word = value % 65536 }

  abbrev stores : Bool → List Store
  stores pair = cond pair (first (value / 65536) ∷ second ∷ []) (first (value % 65536) ∷ [])

  -- an item's store is of its word there, and each place that it holds has its store
  pub item_store_word : {store : Store} → Among store (item_stores item value) → store.word ≡ item_word item value store.place
  unfolding item_word
  item_store_word {store} m = go (is_pair item) m
    where
      go : (pair : Bool) → Among store (stores pair) → store.word ≡ cond (pair && eqb item.place store.place) (value / 65536) (value % 65536)
      go true n =
          ⊎_elim
          (λ s. ap (λ (t : Store). t.word) s
          ∙ sym (ap (λ (b : Bool). cond b (value / 65536) (value % 65536)) (eq-eqb item.place store.place (sym (ap (λ (t : Store). t.place) s)))))
          (λ r. ⊎_elim
          (λ s. let behind : store.place ≡ item.place + 1 = ap (λ (t : Store). t.place) s in
          ap (λ (t : Store). t.word) s
          ∙ sym (ap (λ (b : Bool). cond b (value / 65536) (value % 65536)) (ne_eqb item.place store.place (λ f. omega arith))))
          (λ none. absurd (among_nil none)) (among_cons r))
          (among_cons n)
      go false n = ⊎_elim (λ s. ap (λ (t : Store). t.word) s) (λ none. absurd (among_nil none)) (among_cons n)

  pub held_store : (place : ℕ) → holds item place ≡ true → (store : Store) × Among store (item_stores item value) × (store.place ≡ place)
  held_store place e = go (eqb item.place place) (is_pair item) (eqb (item.place + 1) place) refl refl e
    where
      go : (one pair two : Bool) → eqb item.place place ≡ one → eqb (item.place + 1) place ≡ two → (one || (pair && two)) ≡ true
          → (store : Store) × Among store (stores pair) × (store.place ≡ place)
      go true true two f g e = (first (value / 65536), here, eqb-true item.place place f)
      go true false two f g e = (first (value % 65536), here, eqb-true item.place place f)
      go false true true f g e = (second, there here, eqb-true (item.place + 1) place g)
      go false true false f g e = absurd (false≢true e)
      go false false two f g e = absurd (false≢true e)

  -- a value of a word or, for a pair, any value is what the item then has
  pub value_stored : (is_pair item || eqb (value / 65536) 0) ≡ true → value_by (item_word item value) item ≡ value
  unfolding item_word
  value_stored fits = go (is_pair item) fits
    where
      at : Bool → ℕ → ℕ
      at pair place = cond (pair && eqb item.place place) (value / 65536) (value % 65536)

      go : (pair : Bool) → (pair || eqb (value / 65536) 0) ≡ true
          → cond pair (at pair item.place * 65536 + at pair (item.place + 1)) (at pair item.place) ≡ value
      go true e =
          simp (eq-eqb item.place item.place refl, ne_eqb item.place (item.place + 1) (λ f. omega arith)) (div-add-mod' value 65536)
      go false e = omega (arith, eqb-true (value / 65536) 0 e)

-- ---- values in an item's range

not_above_itself : (kind value : ℕ) → not_above kind value value ≡ true
unfolding not_above
not_above_itself kind value = go (number_of kind value)
  where
    go : (number : ℤ) → le_z number number ≡ true
    go (pos n) = le-leb n n (omega arith)
    go (negsuc n) = le-leb n n (omega arith)

-- an item at its low bound
pub good_low : (at : ℕ → ℕ) (item : Item) → value_by at item ≡ item.low → low_high_rule item ≡ true → good_by at item ≡ true
unfolding good_by in_range
good_low at item low ordered =
    ap (in_range item.kind item.low item.high) low
    ∙ in_range_between item.kind item.low item.high item.low
    ∙ ap₂ ◌&&◌ (not_above_itself item.kind item.low) ordered

-- the address's and the rate's value is the word at its place
pub setting_value : {sheet : List ℕ} {place : ℕ} (at : ℕ → ℕ) (setting : SettingItem sheet place) → value_by at setting.item ≡ at place
setting_value at setting =
    ap (λ (b : Bool). cond b (at item.place * 65536 + at (item.place + 1)) (at item.place))
    (ap (λ (kind : ℕ). eqb kind unsigned_pair) setting.plain)
    ∙ ap at setting.at
  where
    item : Item
    item = setting.item

-- the address or the rate at 1
pub good_one : {sheet : List ℕ} {place : ℕ} (at : ℕ → ℕ) (setting : SettingItem sheet place) → at place ≡ 1 → good_by at setting.item ≡ true
unfolding good_by in_range
good_one at setting one =
    ap (in_range item.kind item.low item.high) (setting_value at setting ∙ one) ∙ setting.one
  where
    item : Item
    item = setting.item

-- ---- a bank whose items are all good

each_all : {A : Type 0} (rule : A → Bool) (l : List A) → ((a : A) → Among a l → rule a ≡ true) → each rule l ≡ true
unfolding each
each_all rule [] all = refl
each_all rule (a ∷ l) all = ap₂ ◌&&◌ (all a here) (each_all rule l (λ b m. all b (there m)))

module _ (sheet bank : List ℕ) where
  pub sound_bank : ((item : Item) → Among item (items sheet) → good_by (word_of bank) item ≡ true) → leb (word_of bank (mark_place sheet)) 1 ≡ true
      → bank_sound sheet bank ≡ true
  unfolding bank_sound
  sound_bank good mark = ap₂ ◌&&◌ (each_all (good_by (word_of bank)) (items sheet) good) mark

  pub sound_items : bank_sound sheet bank ≡ true → {item : Item} → Among item (items sheet) → good_by (word_of bank) item ≡ true
  unfolding bank_sound
  sound_items whole m =
      each_among (good_by (word_of bank)) m (first_of (each (good_by (word_of bank)) (items sheet)) (leb (word_of bank (mark_place sheet)) 1) whole)

  pub sound_mark : bank_sound sheet bank ≡ true → leb (word_of bank (mark_place sheet)) 1 ≡ true
  unfolding bank_sound
  sound_mark whole = second_of_lem (each (good_by (word_of bank)) (items sheet)) (leb (word_of bank (mark_place sheet)) 1) whole

-- a bank stays sound where the words of all items stay, and the mark is 0 or 1
pub sound_kept : (sheet before after : List ℕ) → bank_sound sheet before ≡ true
    → ((item : Item) → Among item (items sheet) → (place : ℕ) → holds item place ≡ true → word_of after place ≡ word_of before place)
    → leb (word_of after (mark_place sheet)) 1 ≡ true → bank_sound sheet after ≡ true
sound_kept sheet before after whole same mark =
    sound_bank sheet after (λ item m. good_same (word_of after) (word_of before) item (same item m) ∙ sound_items sheet before whole m) mark
