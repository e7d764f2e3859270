-- Rules B20 to B24, of the words that the stores of a fresh bank leave. Assumes nothing.
use mathlib.Core.Path.{◌≡◌, refl, ap, subst, ◌∙◌}
use mathlib.Core.Bool.{Bool, true, false, ◌&&◌, ◌||◌, cond}
use mathlib.Core.List.{List, [], ◌∷◌, ◌++◌, map}
use Prim.Native.Nat.{ℕ, ◌+◌, ◌/◌, ◌≤◌}
use native.Mathlib.Omega.{arith}
use lib.Dec.{leb, eqb}
use borrow.Author.Tests.{eqb-true, eqb-false, eq-eqb, ne_eqb}
use Rattle.sheet_rules.specs.declared.Item.{Item}
use Rattle.sheet_rules.specs.Rows.{bank_words, address_place, rate_place, areas, items}
use Rattle.lists.specs.Lists.{each, up_from}
use Rattle.sheet_rules.specs.Rules.{is_pair, kind_rule, bounds_rule, low_high_rule, cover_rule, pair_rule, read_only, items_sound, sound}
use Rattle.sheet_rules.specs.Lookup.{lies_in, holds, found_at}
use Rattle.lists.proofs.Tests.{first_of, second_of_lem}
use Rattle.lists.proofs.Among.{Among, here, there, among_left, among_right, each_among}
use Rattle.sheet_rules.proofs.Addresses.{lies_below}
use Rattle.sheet_rules.proofs.Sound.{sound_parts}
use Rattle.bank_rules.specs.Stores.{Store, word_of, stored}
use Rattle.bank_rules.specs.Bank.{fits, mark_place, value_by, good_by, bank_sound, zero_at, item_stores, low_stores, fresh_stores}
use Rattle.bank_rules.proofs.Latest.{latest, words_left, latest_append, latest_none, latest_agreed}
use Rattle.bank_rules.proofs.Held.{holds_first, SettingItem, address_item_lem, rate_item_lem, held_below, holder_alone, read_only_unheld}
use Rattle.bank_rules.proofs.Inside.{among_map, map_among, number_among, item_store_held, low_store_item, fresh_stores_inside}
use Rattle.bank_rules.proofs.Values.{value_same, item_word, item_store_word, held_store, value_stored, good_low, good_one, sound_bank}

-- an item's stores are among those of the low bounds
low_item_store : {item : Item} {l : List Item} {store : Store} → Among item l → Among store (item_stores item item.low) → Among store (low_stores l)
unfolding low_stores
low_item_store (here {l = behind}) m = among_left (low_stores behind) m
low_item_store (there {b = other} n) m = among_right (item_stores other other.low) (low_item_store n m)

-- an item of a sound sheet: its low bound fits its words, and is not above its high bound
module _ (sheet : List ℕ) (keeps : sound sheet ≡ true) {item : Item} (among : Among item (items sheet)) where
  front : (each kind_rule (items sheet) && each bounds_rule (items sheet) && each low_high_rule (items sheet)) ≡ true
  unfolding items_sound
  front =
      first_of (each kind_rule (items sheet) && each bounds_rule (items sheet) && each low_high_rule (items sheet)) (cover_rule sheet)
      (first_of (each kind_rule (items sheet) && each bounds_rule (items sheet) && each low_high_rule (items sheet) && cover_rule sheet)
      (each (pair_rule (areas sheet)) (items sheet)) (sound_parts sheet keeps).item_rows_lem)

  pub low_fits : (is_pair item || eqb (item.low / 65536) 0) ≡ true
  low_fits =
      go (is_pair item) (eqb (item.low / 65536) 0)
      (each_among bounds_rule among
      (second_of_lem (each kind_rule (items sheet)) (each bounds_rule (items sheet))
      (first_of (each kind_rule (items sheet) && each bounds_rule (items sheet)) (each low_high_rule (items sheet)) front)))
    where
      go : (pair low : Bool) → (pair || (low && eqb (item.high / 65536) 0)) ≡ true → (pair || low) ≡ true
      go true low e = refl
      go false low e = first_of low (eqb (item.high / 65536) 0) e

  pub low_ordered : low_high_rule item ≡ true
  low_ordered =
      each_among low_high_rule among
      (second_of_lem (each kind_rule (items sheet) && each bounds_rule (items sheet)) (each low_high_rule (items sheet)) front)

-- a bank after those stores
abbrev pub fresh_bank : List ℕ → List ℕ → List ℕ
fresh_bank sheet bank = stored bank (fresh_stores sheet)

module _ (sheet bank : List ℕ) (keeps : sound sheet ≡ true) (fitting : fits sheet bank ≡ true) where
  abbrev zeros : List Store
  zeros = map zero_at (up_from 0 (bank_words sheet + 1))

  abbrev settings : List Store
  settings = record { place = address_place sheet; word = 1 } ∷ record { place = rate_place sheet; word = 1 } ∷ []

  -- the three groups of stores, one after the other
  groups : (place : ℕ) → word_of (fresh_bank sheet bank) place
      ≡ latest settings place (latest (low_stores (items sheet)) place (latest zeros place (word_of bank place)))
  unfolding fresh_stores
  groups place =
      words_left bank (fresh_stores sheet) (fresh_stores_inside sheet bank keeps fitting) place
      ∙ latest_append (zeros ++ low_stores (items sheet)) settings place (word_of bank place)
      ∙ ap (latest settings place) (latest_append zeros (low_stores (items sheet)) place (word_of bank place))

  -- rules B21 and B22
  pub fresh_address : word_of (fresh_bank sheet bank) (address_place sheet) ≡ 1
  unfolding latest
  fresh_address = groups (address_place sheet) ∙ go (eqb (rate_place sheet) (address_place sheet))
    where
      before : ℕ
      before = latest (low_stores (items sheet)) (address_place sheet) (latest zeros (address_place sheet) (word_of bank (address_place sheet)))

      go : (same : Bool) → cond same 1 (cond (eqb (address_place sheet) (address_place sheet)) 1 before) ≡ 1
      go true = refl
      go false = ap (λ (b : Bool). cond b 1 before) (eq-eqb (address_place sheet) (address_place sheet) refl)

  pub fresh_rate : word_of (fresh_bank sheet bank) (rate_place sheet) ≡ 1
  unfolding latest
  fresh_rate = groups (rate_place sheet) ∙ simp (eq-eqb (rate_place sheet) (rate_place sheet) refl)

  -- at every other place the settings' stores change nothing
  others : (place : ℕ) → (address_place sheet ≡ place → ⊥) → (rate_place sheet ≡ place → ⊥)
      → word_of (fresh_bank sheet bank) place ≡ latest (low_stores (items sheet)) place (latest zeros place (word_of bank place))
  unfolding latest
  others place address rate = groups place ∙ simp (ne_eqb (address_place sheet) place address, ne_eqb (rate_place sheet) place rate)

  -- a place that no item holds is 0
  pub fresh_unheld : (place : ℕ) → place ≤ bank_words sheet → ((item : Item) → Among item (items sheet) → holds item place ≡ true → ⊥)
      → word_of (fresh_bank sheet bank) place ≡ 0
  fresh_unheld place below unheld =
      others place (setting (address_item_lem sheet keeps)) (setting (rate_item_lem sheet keeps))
      ∙ latest_none (low_stores (items sheet)) place (latest zeros place (word_of bank place)) none
      ∙ latest_agreed place 0 zero_among refl zero_all (word_of bank place)
    where
      setting : {other : ℕ} → SettingItem sheet other → other ≡ place → ⊥
      setting found same = unheld found.item found.among (holds_first found.item place (found.at ∙ same))

      none : (store : Store) → Among store (low_stores (items sheet)) → store.place ≡ place → ⊥
      none store m at =
          let found = low_store_item (items sheet) m in
          unheld found.0 found.1
          (subst (λ (n : ℕ). holds found.0 n ≡ true) at (item_store_held found.0 found.0.low found.2))

      zero_among : Among (zero_at place) zeros
      zero_among = map_among zero_at (number_among (bank_words sheet + 1) (omega arith))

      zero_all : (store : Store) → Among store zeros → store.place ≡ place → store.word ≡ 0
      zero_all store m at = ap (λ (s : Store). s.word) (among_map zero_at (up_from 0 (bank_words sheet + 1)) m).2

  -- rule B23
  pub fresh_read_only : (address place : ℕ) → lies_in (areas sheet) address ≡ found_at place read_only → word_of (fresh_bank sheet bank) place ≡ 0
  fresh_read_only address place lies =
      fresh_unheld place (omega (arith, lies_below sheet keeps address place read_only lies))
      (λ item m e. read_only_unheld sheet keeps address place lies m e)

  -- rule B24
  pub fresh_mark : word_of (fresh_bank sheet bank) (mark_place sheet) ≡ 0
  fresh_mark =
      fresh_unheld (mark_place sheet) (omega arith)
      (λ item m e. let below = held_below sheet keeps (mark_place sheet) m e in omega arith)

  -- rule B20
  module _ {item : Item} (among : Among item (items sheet)) (not-address : item.place ≡ address_place sheet → ⊥)
      (not-rate : item.place ≡ rate_place sheet → ⊥) where
    low_word : (place : ℕ) → holds item place ≡ true → word_of (fresh_bank sheet bank) place ≡ item_word item item.low place
    low_word place held =
        others place (setting (address_item_lem sheet keeps) not-address) (setting (rate_item_lem sheet keeps) not-rate)
        ∙ latest_agreed place (item_word item item.low place) (low_item_store among found.1) found.2 agree
        (latest zeros place (word_of bank place))
      where
        setting : {other : ℕ} → SettingItem sheet other → (item.place ≡ other → ⊥) → other ≡ place → ⊥
        setting other apart same =
            apart
            (ap (λ (i : Item). i.place)
            (holder_alone sheet keeps place among held other.among (holds_first other.item place (other.at ∙ same)))
            ∙ other.at)

        found : (store : Store) × Among store (item_stores item item.low) × (store.place ≡ place)
        found = held_store item item.low place held

        agree : (store : Store) → Among store (low_stores (items sheet)) → store.place ≡ place → store.word ≡ item_word item item.low place
        agree store m at =
            let owner = low_store_item (items sheet) m in
            let other = owner.0 in
            let same : other ≡ item = holder_alone sheet keeps place owner.1
            (subst (λ (n : ℕ). holds other n ≡ true) at (item_store_held other other.low owner.2)) among held in
            item_store_word other other.low owner.2 ∙ ap (item_word other other.low) at
            ∙ ap (λ (i : Item). item_word i i.low place) same

    pub fresh_low : value_by (word_of (fresh_bank sheet bank)) item ≡ item.low
    fresh_low =
        value_same (word_of (fresh_bank sheet bank)) (item_word item item.low) item low_word
        ∙ value_stored item item.low (low_fits sheet keeps among)

  fresh_good : (item : Item) → Among item (items sheet) → good_by (word_of (fresh_bank sheet bank)) item ≡ true
  fresh_good item among = go (eqb item.place (address_place sheet)) (eqb item.place (rate_place sheet)) refl refl
    where
      setting : {place : ℕ} (found : SettingItem sheet place) → word_of (fresh_bank sheet bank) place ≡ 1 → item.place ≡ place
          → good_by (word_of (fresh_bank sheet bank)) item ≡ true
      setting {place} found one at =
          ap (good_by (word_of (fresh_bank sheet bank)))
          (holder_alone sheet keeps place among (holds_first item place at) found.among (holds_first found.item place found.at))
          ∙ good_one (word_of (fresh_bank sheet bank)) found one

      go : (address rate : Bool) → eqb item.place (address_place sheet) ≡ address → eqb item.place (rate_place sheet) ≡ rate
          → good_by (word_of (fresh_bank sheet bank)) item ≡ true
      go true rate e f = setting (address_item_lem sheet keeps) fresh_address (eqb-true item.place (address_place sheet) e)
      go false true e f = setting (rate_item_lem sheet keeps) fresh_rate (eqb-true item.place (rate_place sheet) f)
      go false false e f =
          good_low (word_of (fresh_bank sheet bank)) item
          (fresh_low among (eqb-false item.place (address_place sheet) e) (eqb-false item.place (rate_place sheet) f))
          (low_ordered sheet keeps among)

  -- so a fresh bank is sound, whatever the bank was
  pub fresh_sound : bank_sound sheet (fresh_bank sheet bank) ≡ true
  fresh_sound = sound_bank sheet (fresh_bank sheet bank) fresh_good (ap (λ (n : ℕ). leb n 1) fresh_mark)
