-- The items of a sound sheet and the places that they hold: each place is below B, in an area of access 2 or 3 and held by one item alone; the
-- address and the rate are such items. Assumes nothing.
use mathlib.Core.Path.{◌≡◌, sym, ap, subst, ◌∙◌}
use mathlib.Core.Bool.{Bool, true, false, not, ◌&&◌, ◌||◌, or-true, false≢true}
use mathlib.Core.List.{List}
use Prim.Native.Nat.{ℕ, ◌+◌, ◌-◌, ◌≤◌, ◌<◌}
use native.Mathlib.Omega.{arith}
use lib.Dec.{leb, ltb, eqb}
use borrow.Author.Tests.{leb-true, ltb-true, eqb-true, eq-eqb}
use Rattle.range.specs.Range.{unsigned_word, in_range}
use Rattle.sheet_rules.specs.declared.Area.{Area}
use Rattle.sheet_rules.specs.declared.Item.{Item}
use Rattle.sheet_rules.specs.Rows.{bank_words, address_place, rate_place, areas, items, item_at, item_count}
use Rattle.lists.specs.Lists.{some}
use Rattle.sheet_rules.specs.Rules.{length_of, lengths_sum, is_pair, covered_by_items, read_only, place_in_area, setting_at, address_item, rate_item, lowest_station, highest_station, settings_sound, sound}
use Rattle.sheet_rules.specs.Lookup.{lies_in, holds, found_at}
use Rattle.lists.proofs.Tests.{first_of, second_of_lem}
use Rattle.lists.proofs.Among.{Among, some_among, among_row, row_among}
use Rattle.sheet_rules.proofs.Sound.{sound_areas, sound_parts}
use Rattle.sheet_rules.proofs.Addresses.{among_below, lies_there, place_address, at_access}
use Rattle.sheet_rules.proofs.Places.{in_covered, covered_once, covered_only}

-- an item holds its first place
pub holds_first : (item : Item) (place : ℕ) → item.place ≡ place → holds item place ≡ true
holds_first item place at = ap (λ (b : Bool). b || (is_pair item && eqb (item.place + 1) place)) (eq-eqb item.place place at)

-- and a pair the next one
pub holds_second : (item : Item) (place : ℕ) → is_pair item ≡ true → item.place + 1 ≡ place → holds item place ≡ true
holds_second item place pair at =
    ap (λ (b : Bool). eqb item.place place || (b && eqb (item.place + 1) place)) pair
    ∙ ap (λ (b : Bool). eqb item.place place || b) (eq-eqb (item.place + 1) place at) ∙ or-true (eqb item.place place)

-- ---- rows, and what is among them

module _ (sheet : List ℕ) where
  pub item_row_lem : {item : Item} → Among item (items sheet) → (k : ℕ) × (k < item_count sheet) × (item ≡ item_at sheet k)
  unfolding items
  item_row_lem m =
      let found = among_row (item_at sheet) 0 (item_count sheet) m in
      let same : 0 + found.0 ≡ found.0 = omega arith in
      (found.0, found.1, found.2 ∙ ap (item_at sheet) same)

  pub row_item : (k : ℕ) → k < item_count sheet → Among (item_at sheet k) (items sheet)
  unfolding items
  row_item k inside =
      let same : 0 + k ≡ k = omega arith in
      subst (λ (n : ℕ). Among (item_at sheet n) (items sheet)) same (row_among (item_at sheet) 0 (item_count sheet) k inside)

-- the item at a place: of kind 0, and its range holds 1
pub record SettingItem (sheet : List ℕ) (place : ℕ) : Type 0 where
  pub item : Item
  pub among : Among item (items sheet)
  pub plain : item.kind ≡ unsigned_word
  pub at : item.place ≡ place
  pub one : in_range item.kind item.low item.high 1 ≡ true

setting_item : (sheet : List ℕ) (place : ℕ) (rule : Item → Bool) → ((item : Item) → rule item ≡ true → setting_at place item ≡ true)
    → some rule (items sheet) ≡ true → SettingItem sheet place
setting_item sheet place rule setting e =
    let found = some_among rule (items sheet) e in
    let item = found.0 in
    let holds_one : Bool = in_range item.kind item.low item.high 1 in
    let says = setting item found.2 in
    let front = first_of (eqb item.kind unsigned_word && eqb item.place place) holds_one says in
    record {
      item = item;
      among = found.1;
      plain = eqb-true item.kind unsigned_word (first_of (eqb item.kind unsigned_word) (eqb item.place place) front);
      at = eqb-true item.place place (second_of_lem (eqb item.kind unsigned_word) (eqb item.place place) front);
      one = second_of_lem (eqb item.kind unsigned_word && eqb item.place place) holds_one says;
    }

first_of_three : (a b c : Bool) → (a && b && c) ≡ true → a ≡ true
first_of_three a b c e = first_of a b (first_of (a && b) c e)

-- ---- over a sound sheet

module _ (sheet : List ℕ) (keeps : sound sheet ≡ true) where
  settings : (some (address_item (address_place sheet)) (items sheet) ≡ true) × (some (rate_item (rate_place sheet)) (items sheet) ≡ true)
  unfolding settings_sound
  settings =
      let apart : Bool = not (eqb (address_place sheet) (rate_place sheet)) in
      let address : Bool = some (address_item (address_place sheet)) (items sheet) in
      let rate : Bool = some (rate_item (rate_place sheet)) (items sheet) in
      let e = (sound_parts sheet keeps).settings in
      (second_of_lem apart address (first_of (apart && address) rate e), second_of_lem (apart && address) rate e)

  pub address_item_lem : SettingItem sheet (address_place sheet)
  address_item_lem =
      setting_item sheet (address_place sheet) (address_item (address_place sheet))
      (λ item e. first_of_three (setting_at (address_place sheet) item) (leb lowest_station item.low) (leb item.high highest_station) e)
      settings.0

  -- and its bounds are stations: rule S63
  pub address_bounds : (lowest_station ≤ address_item_lem.item.low) × (address_item_lem.item.high ≤ highest_station)
  unfolding address_item_lem setting_item
  address_bounds =
      let found = some_among (address_item (address_place sheet)) (items sheet) settings.0 in
      let item = found.0 in
      let setting : Bool = setting_at (address_place sheet) item in
      let low : Bool = leb lowest_station item.low in
      let high : Bool = leb item.high highest_station in (
        leb-true lowest_station item.low (second_of_lem setting low (first_of (setting && low) high found.2)),
        leb-true item.high highest_station (second_of_lem (setting && low) high found.2),
      )

  pub rate_item_lem : SettingItem sheet (rate_place sheet)
  rate_item_lem =
      setting_item sheet (rate_place sheet) (rate_item (rate_place sheet))
      (λ item e. first_of_three (setting_at (rate_place sheet) item) (eqb item.low 0) (eqb item.high 1) e) settings.1

  -- an item's places lie in areas of access 2 or 3, and so below B
  pub held_covered : {item : Item} (place : ℕ) → Among item (items sheet) → holds item place ≡ true → in_covered (areas sheet) place ≡ true
  held_covered place m e =
      let row = item_row_lem sheet m in
      covered_only sheet keeps place row.0 row.1 (subst (λ (i : Item). holds i place ≡ true) row.2 e)

  pub covered_below : (place : ℕ) → in_covered (areas sheet) place ≡ true → place < bank_words sheet
  covered_below place e =
      let found = some_among (λ (area : Area). covered_by_items area.access && place_in_area place area) (areas sheet) e in
      let area = found.0 in
      let rules = sound_areas sheet keeps in
      let within = second_of_lem (covered_by_items area.access) (place_in_area place area) found.2 in
      omega (
        arith,
        ltb-true place (area.place + length_of area) (second_of_lem (leb area.place place) (ltb place (area.place + length_of area)) within),
        among_below 0 found.1 rules.follow,
        eqb-true (lengths_sum (areas sheet)) (bank_words sheet) rules.total,
      )

  pub held_below : {item : Item} (place : ℕ) → Among item (items sheet) → holds item place ≡ true → place < bank_words sheet
  held_below place m e = covered_below place (held_covered place m e)

  -- one item alone holds a place
  pub holder_alone : {item other : Item} (place : ℕ) → Among item (items sheet) → holds item place ≡ true
      → Among other (items sheet) → holds other place ≡ true → item ≡ other
  holder_alone place m e n f =
      let row = item_row_lem sheet m in
      let next = item_row_lem sheet n in
      row.2
      ∙ ap (item_at sheet)
      (covered_once sheet keeps place row.0 next.0 row.1 next.1
      (subst (λ (i : Item). holds i place ≡ true) row.2 e) (subst (λ (i : Item). holds i place ≡ true) next.2 f))
      ∙ sym next.2

  -- what lies in an area that items cover has an access that they cover, whatever address leads to it
  pub covered_access : (address place access : ℕ) → lies_in (areas sheet) address ≡ found_at place access → in_covered (areas sheet) place ≡ true
      → covered_by_items access ≡ true
  covered_access address place access lies e =
      let found = some_among (λ (area : Area). covered_by_items area.access && place_in_area place area) (areas sheet) e in
      let area = found.0 in
      let opened = first_of (covered_by_items area.access) (place_in_area place area) found.2 in
      let within = second_of_lem (covered_by_items area.access) (place_in_area place area) found.2 in
      let low = leb-true area.place place (first_of (leb area.place place) (ltb place (area.place + length_of area)) within) in
      let high = ltb-true place (area.place + length_of area) (second_of_lem (leb area.place place) (ltb place (area.place + length_of area)) within) in
      let there_too : ℕ = area.first + (place - area.place) in
      let back : area.place + (there_too - area.first) ≡ place = omega (arith, low) in
      let lies_too : lies_in (areas sheet) there_too ≡ found_at place area.access =
      lies_there there_too found.1 (sound_areas sheet keeps).ascend (omega arith) (omega (arith, low, high))
      ∙ ap (λ (n : ℕ). found_at n area.access) back in
      let same : address ≡ there_too =
      sym (place_address sheet keeps address place access lies) ∙ place_address sheet keeps there_too place area.access lies_too in
      let equal : access ≡ area.access = at_access lies (ap (lies_in (areas sheet)) same ∙ lies_too) in
      ap covered_by_items equal ∙ opened

  -- a place that lies in an access 1 area is no item's
  pub read_only_unheld : (address place : ℕ) → lies_in (areas sheet) address ≡ found_at place read_only
      → {item : Item} → Among item (items sheet) → holds item place ≡ true → ⊥
  read_only_unheld address place lies m e =
      let wrong : ◌≡◌ {A = Bool} false true = covered_access address place read_only lies (held_covered place m e) in
      absurd (false≢true wrong)
