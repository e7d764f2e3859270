-- Over a sound sheet and a bank of 2B + 2 bytes every place that a call reads or stores lies inside the bank: the places of the items, of
-- the address and the rate, of the mark, of every address, and of every store that a call makes. Assumes nothing.
use mathlib.Core.Path.{◌≡◌, refl, sym, ap, subst, ◌∙◌}
use mathlib.Core.Bool.{Bool, true, false, cond}
use mathlib.Core.List.{List, [], ◌∷◌, ◌++◌, map}
use mathlib.Core.Logic.{◌⊎◌, inl, inr, ⊎_elim}
use Prim.Native.Nat.{ℕ, ◌+◌, ◌*◌, ◌/◌, ◌%◌, ◌≤◌, ◌<◌}
use native.Mathlib.Omega.{arith}
use lib.ListN.{length}
use borrow.Author.Tests.{eqb-true}
use Rattle.std.specs.Prelude.{Option, None, Some}
use Rattle.words.specs.Words.{word_at}
use Rattle.sheet_rules.specs.declared.Item.{Item}
use Rattle.sheet_rules.specs.Rows.{bank_words, address_place, rate_place, areas, items, item_at, item_count}
use Rattle.lists.specs.Lists.{up_from}
use Rattle.sheet_rules.specs.Rules.{is_pair, read_only, sound}
use Rattle.sheet_rules.specs.Lookup.{lies_in, holds, place_in, found_at}
use Rattle.lists.proofs.Among.{Among, here, there, among_nil, among_cons, among_append, each_among, up_among, among_up}
use Rattle.sheet_rules.proofs.Addresses.{lies_below}
use Rattle.sheet_rules.specs.declared.Lies.{Lies}
use Rattle.bank_rules.specs.Stores.{Store}
use Rattle.bank_rules.specs.Bank.{fits, bank_bytes, mark_place, zero_at, item_stores, low_stores, fresh_stores, is_read_only, posted_run, all_read_only, post_store, post_stores, mark_stores}
use Rattle.bank_rules.proofs.Latest.{PlaceInside, StoresInside}
use Rattle.bank_rules.proofs.Held.{holds_first, holds_second, row_item, SettingItem, address_item_lem, rate_item_lem, held_below}

-- ---- what is among the stores of a call

module _ {A B : Type 0} (f : A → B) where
  pub among_map : (l : List A) {b : B} → Among b (map f l) → (a : A) × Among a l × (b ≡ f a)
  among_map [] m = absurd (among_nil m)
  among_map (a ∷ l) m = go (among_cons m) (λ n. among_map l n)
    where
      go : {b : B} → (b ≡ f a) ⊎ Among b (map f l) → (Among b (map f l) → (c : A) × Among c l × (b ≡ f c))
          → (c : A) × Among c (a ∷ l) × (b ≡ f c)
      go (inl e) rest = (a, here, e)
      go (inr n) rest =
          let found = rest n in
          (found.0, there found.1, found.2)

  pub map_among : {a : A} {l : List A} → Among a l → Among (f a) (map f l)
  map_among here = here
  map_among (there m) = there (map_among m)

-- the numbers from 0 on are those below the count
pub number_among : (count : ℕ) {k : ℕ} → k < count → Among k (up_from 0 count)
number_among count {k} inside =
    let same : 0 + k ≡ k = omega arith in
    subst (λ (n : ℕ). Among n (up_from 0 count)) same (up_among 0 count k inside)

pub among_number : (count : ℕ) {k : ℕ} → Among k (up_from 0 count) → k < count
among_number count m = let within = among_up 0 count m in omega arith

-- a store of an item is at a place that the item holds
pub item_store_held : (item : Item) (value : ℕ) {store : Store} → Among store (item_stores item value) → holds item store.place ≡ true
item_store_held item value {store} m = go (is_pair item) refl m
  where
    first : ℕ → Store
    first word = record { place = item.place; word = word }

    second : ℕ → Store
    second word = record { place = item.place + 1; word = word }

    go : (pair : Bool) → is_pair item ≡ pair → Among store (cond pair (first (value / 65536) ∷ second (value % 65536) ∷ []) (first (value % 65536) ∷ []))
        → holds item store.place ≡ true
    go true e n =
        ⊎_elim (λ s. holds_first item store.place (sym (ap (λ (t : Store). t.place) s)))
        (λ r. ⊎_elim (λ s. holds_second item store.place e (sym (ap (λ (t : Store). t.place) s))) (λ none. absurd (among_nil none)) (among_cons r))
        (among_cons n)
    go false e n =
        ⊎_elim (λ s. holds_first item store.place (sym (ap (λ (t : Store). t.place) s))) (λ none. absurd (among_nil none)) (among_cons n)

-- a store of the low bounds is one of an item
pub low_store_item : (l : List Item) {store : Store} → Among store (low_stores l)
    → (item : Item) × Among item l × Among store (item_stores item item.low)
unfolding low_stores
low_store_item [] m = absurd (among_nil m)
low_store_item (item ∷ behind) {store} m =
    go (among_append (item_stores item item.low) (low_stores behind) m) (λ n. low_store_item behind n)
  where
    Of : List Item → Type 0
    Of l = (item : Item) × Among item l × Among store (item_stores item item.low)

    go : Among store (item_stores item item.low) ⊎ Among store (low_stores behind) → (Among store (low_stores behind) → Of behind) → Of (item ∷ behind)
    go (inl n) rest = (item, here, n)
    go (inr n) rest =
        let found = rest n in
        (found.0, there found.1, found.2)

-- what lies in an access 1 area lies at its place
pub read_only_at : (lies : Option Lies) → is_read_only lies ≡ true → lies ≡ found_at (place_in lies) read_only
read_only_at (Some lies) e = ap (found_at lies.place) (eqb-true lies.access read_only e)
read_only_at None e = let z : ◌≡◌ {A = ℕ} 0 1 = cc in absurd (omega arith)

-- each posted address lies in an access 1 area
pub posted_read_only : (sheet : List ℕ) (address : ℕ) (bytes : List ℕ) → all_read_only sheet (posted_run address bytes) ≡ true
    → (k : ℕ) → k < length bytes / 2 → lies_in (areas sheet) (address + k) ≡ found_at (place_in (lies_in (areas sheet) (address + k))) read_only
unfolding all_read_only
posted_read_only sheet address bytes all k inside =
    read_only_at (lies_in (areas sheet) (address + k))
    (each_among (λ at. is_read_only (lies_in (areas sheet) at)) (up_among address (length bytes / 2) k inside) all)

-- a store of posted words is of one of them, at the place of its address
pub posted_store : (sheet : List ℕ) (address : ℕ) (bytes : List ℕ) → all_read_only sheet (posted_run address bytes) ≡ true
    → {store : Store} → Among store (post_stores sheet address bytes)
    → (k : ℕ) × (k < length bytes / 2) × (lies_in (areas sheet) (address + k) ≡ found_at store.place read_only) × (store.word ≡ word_at bytes (2 * k))
unfolding post_stores
posted_store sheet address bytes all m =
    let found = among_map (post_store sheet address bytes) (up_from 0 (length bytes / 2)) m in
    let inside = among_number (length bytes / 2) found.1 in (
      found.0,
      inside,
      posted_read_only sheet address bytes all found.0 inside
          ∙ ap (λ (n : ℕ). found_at n read_only) (ap (λ (s : Store). s.place) (sym found.2)),
      ap (λ (s : Store). s.word) found.2,
    )

-- ---- over a sound sheet and a bank that fits it

module _ (sheet bank : List ℕ) (keeps : sound sheet ≡ true) (fitting : fits sheet bank ≡ true) where
  pub below_inside : (place : ℕ) → place ≤ bank_words sheet → PlaceInside bank place
  below_inside place below = omega (arith, eqb-true (length bank) (bank_bytes sheet) fitting)

  pub item_place_inside : (k place : ℕ) → k < item_count sheet → holds (item_at sheet k) place ≡ true → PlaceInside bank place
  item_place_inside k place inside e = below_inside place (omega (arith, held_below sheet keeps place (row_item sheet k inside) e))

  setting_inside : {place : ℕ} → SettingItem sheet place → place < bank_words sheet
  setting_inside {place} found = held_below sheet keeps place found.among (holds_first found.item place found.at)

  pub address_place_inside : PlaceInside bank (address_place sheet)
  address_place_inside = below_inside (address_place sheet) (omega (arith, setting_inside (address_item_lem sheet keeps)))

  pub rate_place_inside : PlaceInside bank (rate_place sheet)
  rate_place_inside = below_inside (rate_place sheet) (omega (arith, setting_inside (rate_item_lem sheet keeps)))

  pub mark_place_inside : PlaceInside bank (mark_place sheet)
  mark_place_inside = below_inside (mark_place sheet) (omega arith)

  pub lies_place_inside : (address place access : ℕ) → lies_in (areas sheet) address ≡ found_at place access → PlaceInside bank place
  lies_place_inside address place access lies = below_inside place (omega (arith, lies_below sheet keeps address place access lies))

  pub fresh_stores_inside : StoresInside bank (fresh_stores sheet)
  unfolding fresh_stores
  fresh_stores_inside store m =
      ⊎_elim (λ front. ⊎_elim zeroed low (among_append zeros (low_stores (items sheet)) front)) last
      (among_append (zeros ++ low_stores (items sheet)) settings m)
    where
      zeros : List Store
      zeros = map zero_at (up_from 0 (bank_words sheet + 1))

      settings : List Store
      settings = record { place = address_place sheet; word = 1 } ∷ record { place = rate_place sheet; word = 1 } ∷ []

      at : {place : ℕ} → store.place ≡ place → PlaceInside bank place → PlaceInside bank store.place
      at e inside = omega arith

      zeroed : Among store zeros → PlaceInside bank store.place
      zeroed n =
          let found = among_map zero_at (up_from 0 (bank_words sheet + 1)) n in
          at (ap (λ (s : Store). s.place) found.2)
          (below_inside found.0 (omega (arith, among_number (bank_words sheet + 1) found.1)))

      low : Among store (low_stores (items sheet)) → PlaceInside bank store.place
      low n =
          let found = low_store_item (items sheet) n in
          below_inside store.place
          (omega (arith, held_below sheet keeps store.place found.1 (item_store_held found.0 found.0.low found.2)))

      last : Among store settings → PlaceInside bank store.place
      last n =
          ⊎_elim (λ e. at (ap (λ (s : Store). s.place) e) address_place_inside)
          (λ r. ⊎_elim (λ e. at (ap (λ (s : Store). s.place) e) rate_place_inside) (λ none. absurd (among_nil none)) (among_cons r))
          (among_cons n)

  pub mark_stores_inside : (mark : ℕ) → StoresInside bank (mark_stores sheet mark)
  mark_stores_inside mark store m =
      ⊎_elim (λ e. let at : store.place ≡ mark_place sheet = ap (λ (s : Store). s.place) e in omega (arith, mark_place_inside))
      (λ none. absurd (among_nil none)) (among_cons m)

  pub post_stores_inside : (address : ℕ) (bytes : List ℕ) → all_read_only sheet (posted_run address bytes) ≡ true
      → StoresInside bank (post_stores sheet address bytes)
  post_stores_inside address bytes all store m =
      let found = posted_store sheet address bytes all m in
      lies_place_inside (address + found.0) store.place read_only found.2
