-- The rules of the item rows and of the address and the rate, taken together in one walk over the items. Assumes nothing.
use mathlib.Core.Path.{◌≡◌, refl, sym, ap, ap₂, ◌∙◌}
use mathlib.Core.Bool.{Bool, true, false, ◌&&◌, ◌||◌, and-false, and_assoc, or_assoc, or-false}
use mathlib.Core.List.{List, [], ◌∷◌}
use Prim.Native.Nat.{ℕ, ◌+◌, ◌-◌, ◌≤◌, ◌<◌}
use lib.Dec.{leb, eqb}
use borrow.Author.Tests.{eq-eqb, ne_eqb}
use Rattle.sheet_rules.specs.declared.Area.{Area}
use Rattle.sheet_rules.specs.declared.Item.{Item}
use Rattle.sheet.specs.declared.item_rows.Cover.{Cover}
use Rattle.lists.specs.Lists.{rows, each, some, same_places, up_from}
use Rattle.sheet_rules.specs.Rows.{areas, area_count, area_at, items, item_at, item_count, address_place, rate_place}
use Rattle.sheet_rules.specs.Rules.{kind_rule, bounds_rule, low_high_rule, is_pair, item_places, covered_places, pair_rule, address_item, rate_item, items_sound, settings_sound}
use Rattle.sheet.specs.Cover.{size_of, places_left, UnderWay, Opened}
use Rattle.lists.proofs.Tests.{and_left_comm}
use Rattle.lists.proofs.Walks.{rows_on, rows_end_lem, rows_all}
use Rattle.sheet_rules.proofs.Rows.{areas_rows, items_rows}
use Rattle.sheet.proofs.Covering.{cover, left_on, left_none, together}

-- the rules of the items at hand, where these places are left to cover
unfoldable pub rules : List Area → List Item → List ℕ → Bool
rules all l places =
    each kind_rule l && each bounds_rule l && each low_high_rule l && same_places (item_places l) places && each (pair_rule all) l

abbrev pub by_itself : Item → Bool
by_itself item = kind_rule item && bounds_rule item && low_high_rule item

-- an item stands at the next place and ends within its area
abbrev pub at_next : Cover → Item → Bool
at_next c item = eqb item.place c.next && leb (c.next + size_of item) c.end

regroup : (k b l ek eb el s p ep q r : Bool) → (s && p) ≡ (q && r)
    → ((k && ek) && (b && eb) && (l && el) && s && (p && ep)) ≡ (k && b && l && q && (ek && eb && el && r && ep))
regroup false b l ek eb el s p ep q r h = refl
regroup true false l ek eb el s p ep q r h = simp and-false
regroup true true false ek eb el s p ep q r h = simp and-false
regroup true true true ek eb el s p ep q r h =
    let e : (s && (p && ep)) ≡ (q && (r && ep)) = sym (and_assoc s p ep) ∙ ap (λ (x : Bool). x && ep) h ∙ and_assoc q r ep in
    simp and_assoc (simp e
    (rw (and_left_comm el q (r && ep), and_left_comm eb q (el && (r && ep)), and_left_comm ek q (eb && (el && (r && ep))))))

module _ (sheet : List ℕ) (c : Cover) (way : UnderWay sheet c) (last : c.end ≤ c.next → area_count sheet ≤ c.area) where
  pub rules_step : (item : Item) (l : List Item)
      → rules (areas sheet) (item ∷ l) (places_left sheet c)
      ≡ (by_itself item && at_next c item && rules (areas sheet) l (places_left sheet (cover (c.next + size_of item) c.end c.area)))
  unfolding rules each item_places
  rules_step item l =
      regroup (kind_rule item) (bounds_rule item) (low_high_rule item) (each kind_rule l) (each bounds_rule l) (each low_high_rule l)
      (same_places (item_places (item ∷ l)) (places_left sheet c)) (pair_rule (areas sheet) item) (each (pair_rule (areas sheet)) l)
      (at_next c item) (same_places (item_places l) (places_left sheet (cover (c.next + size_of item) c.end c.area)))
      (together sheet c.next c.end c.area way last item.place (item_places l) (is_pair item))

-- ---- with the address and the rate

module _ (sheet : List ℕ) where
  abbrev pub items_from : ℕ → List Item
  items_from k = rows (item_at sheet) k (item_count sheet - k)

  -- what the rules still ask of items, where these places are left, and the address and the rate are found or not
  unfoldable pub asked : List Item → List ℕ → Bool → Bool → Bool
  asked l places address rate =
      rules (areas sheet) l places
      && ((address || some (address_item (address_place sheet)) l) && (rate || some (rate_item (rate_place sheet)) l))

  asked_whole : (address_place sheet ≡ rate_place sheet → ⊥)
      → asked (items sheet) (covered_places (areas sheet)) false false ≡ (items_sound sheet && settings_sound sheet)
  unfolding asked rules items_sound settings_sound
  asked_whole apart = simp (ne_eqb (address_place sheet) (rate_place sheet) apart)

  asked_step : (c : Cover) → UnderWay sheet c → (c.end ≤ c.next → area_count sheet ≤ c.area) → (address rate : Bool)
      (item : Item) (l : List Item)
      → asked (item ∷ l) (places_left sheet c) address rate
      ≡ (by_itself item && at_next c item
      && asked l (places_left sheet (cover (c.next + size_of item) c.end c.area))
      (address || address_item (address_place sheet) item) (rate || rate_item (rate_place sheet) item))
  unfolding asked some
  asked_step c way last address rate item l =
      let places = places_left sheet (cover (c.next + size_of item) c.end c.area) in
      let found : Bool = some (address_item (address_place sheet)) l in
      let rated : Bool = some (rate_item (rate_place sheet)) l in
      let a : Bool = address_item (address_place sheet) item in
      let r : Bool = rate_item (rate_place sheet) item in
      ap (λ (b : Bool). b && ((address || (a || found)) && (rate || (r || rated)))) (rules_step sheet c way last item l)
      ∙ ap₂ (λ (x y : Bool). by_itself item && at_next c item && rules (areas sheet) l places && (x && y))
      (sym (or_assoc address a found)) (sym (or_assoc rate r rated))
      ∙ and_assoc (by_itself item && at_next c item) (rules (areas sheet) l places) ((address || a || found) && (rate || r || rated))

  pub asked_all : (address_place sheet ≡ rate_place sheet → ⊥)
      → asked (items_from 0) (places_left sheet (cover 0 0 0)) false false ≡ (items_sound sheet && settings_sound sheet)
  unfolding places_left up_from
  asked_all apart =
      ap₂ (λ (l : List Item) (all : List Area). asked l (covered_places all) false false)
      (rows_all (item_at sheet) (item_count sheet) ∙ items_rows sheet) (rows_all (area_at sheet) (area_count sheet) ∙ areas_rows sheet)
      ∙ asked_whole apart

  pub asked_same : address_place sheet ≡ rate_place sheet → (items_sound sheet && settings_sound sheet) ≡ false
  unfolding settings_sound
  asked_same same = simp (eq-eqb (address_place sheet) (rate_place sheet) same, and-false)

  module _ (k : ℕ) (before c : Cover) (opened : Opened sheet before c) (address rate : Bool) where
    same_left : (l : List Item) → asked l (places_left sheet before) address rate ≡ asked l (places_left sheet c) address rate
    same_left l = ap (λ (places : List ℕ). asked l places address rate) (sym opened.left)

    -- at an item: it is refused by itself, or by its place, or passed
    module _ (item : Item) (row : item ≡ item_at sheet k) (inside : k < item_count sheet) where
      Behind : Bool
      Behind =
          asked (items_from (k + 1)) (places_left sheet (cover (c.next + size_of item) c.end c.area))
          (address || address_item (address_place sheet) item) (rate || rate_item (rate_place sheet) item)

      asked_on : asked (items_from k) (places_left sheet before) address rate ≡ (by_itself item && at_next c item && Behind)
      unfolding Behind
      asked_on =
          same_left (items_from k)
          ∙ ap (λ (l : List Item). asked l (places_left sheet c) address rate)
          (rows_on (item_at sheet) k (item_count sheet) inside ∙ ap (λ (i : Item). i ∷ items_from (k + 1)) (sym row))
          ∙ asked_step c opened.under_way opened.last address rate item (items_from (k + 1))

      pub refused_itself : by_itself item ≡ false → asked (items_from k) (places_left sheet before) address rate ≡ false
      refused_itself bad = asked_on ∙ ap (λ (b : Bool). b && at_next c item && Behind) bad

      pub refused_place : by_itself item ≡ true → at_next c item ≡ false → asked (items_from k) (places_left sheet before) address rate ≡ false
      refused_place fine bad = asked_on ∙ ap₂ (λ (x y : Bool). x && y && Behind) fine bad

      pub passed_on : by_itself item ≡ true → at_next c item ≡ true → {size : ℕ} {address-now rate-now : Bool} → size ≡ size_of item
          → address-now ≡ (address || address_item (address_place sheet) item) → rate-now ≡ (rate || rate_item (rate_place sheet) item)
          → asked (items_from k) (places_left sheet before) address rate
          ≡ asked (items_from (k + 1)) (places_left sheet (cover (c.next + size) c.end c.area)) address-now rate-now
      unfolding Behind
      passed_on fine here {size} {address-now} {rate-now} size-says address-says rate-says =
          asked_on ∙ ap₂ (λ (x y : Bool). x && y && Behind) fine here
          ∙ sym (ap (λ (n : ℕ). asked (items_from (k + 1)) (places_left sheet (cover (c.next + n) c.end c.area)) address-now rate-now) size-says
          ∙ ap₂ (asked (items_from (k + 1)) (places_left sheet (cover (c.next + size_of item) c.end c.area))) address-says rate-says)

    -- behind the last item: a place is left, or none
    none_behind : item_count sheet ≤ k → (places : List ℕ) → asked (items_from k) places address rate ≡ (same_places [] places && true && (address && rate))
    unfolding asked rules some each item_places
    none_behind past places =
        ap (λ (l : List Item). asked l places address rate) (rows_end_lem (item_at sheet) k (item_count sheet) past)
        ∙ simp or-false

    pub refused_left : item_count sheet ≤ k → c.next < c.end → asked (items_from k) (places_left sheet before) address rate ≡ false
    unfolding same_places
    refused_left past some_left =
        same_left (items_from k) ∙ none_behind past (places_left sheet c)
        ∙ ap (λ (l : List ℕ). same_places [] l && true && (address && rate)) (left_on sheet c.next c.end c.area some_left)

    pub passed_all : item_count sheet ≤ k → c.end ≤ c.next → asked (items_from k) (places_left sheet before) address rate ≡ (address && rate)
    unfolding same_places
    passed_all past done =
        same_left (items_from k) ∙ none_behind past (places_left sheet c)
        ∙ ap (λ (l : List ℕ). same_places [] l && true && (address && rate))
        (left_none sheet c.next c.end c.area done (opened.last done))
