-- Where a write stops: the first place of a bad item is a place in front of the end of the run; items outside the run do not matter; and up to where a
-- write stores. Assumes nothing.
use mathlib.Core.Path.{◌≡◌, refl, sym, ap, ◌∙◌}
use mathlib.Core.Bool.{Bool, true, false, not, ◌&&◌, ◌||◌, cond}
use mathlib.Core.List.{List, [], ◌∷◌}
use Prim.Native.Nat.{ℕ, zero, suc, ◌+◌, ◌-◌, ◌≤◌, ◌<◌}
use native.Mathlib.Omega.{arith}
use lib.Dec.{leb, ltb}
use borrow.Author.Tests.{ltb-true, ltb-false}
use Rattle.std.specs.Prelude.{Option, None, Some}
use Rattle.sheet_rules.specs.declared.Item.{Item}
use Rattle.lists.specs.Lists.{rows, some}
use Rattle.sheet_rules.specs.Rows.{item_at, item_count, items}
use Rattle.sheet_rules.specs.Rules.{is_pair, sound}
use Rattle.lists.proofs.Tests.{first_of, second_of_lem}
use Rattle.lists.proofs.Walks.{rows_on, rows_end_lem, rows_all}
use Rattle.sheet_rules.proofs.Rows.{items_rows}
use Rattle.sheet_rules.proofs.Places.{items_ascend}
use Rattle.bank_rules.specs.Bank.{side_by, good_by}
use Rattle.meter_rules.specs.Write.{in_run, would_be, touched, bad_item, stop_in, stops_with}
use Rattle.meter_rules.proofs.Judging.{run_above}
use Rattle.meter_rules.specs.declared.Stop.{Stop}

-- the items from an index on
abbrev pub items_from : List ℕ → ℕ → List Item
items_from sheet k = rows (item_at sheet) k (item_count sheet - k)

-- items ascend, or are the same one
module _ (sheet : List ℕ) (keeps : sound sheet ≡ true) where
  in_order : (i j : ℕ) → i ≤ j → j < item_count sheet → (item_at sheet i).place ≤ (item_at sheet j).place
  in_order i j order inside = go (ltb i j) refl
    where
      go : (less : Bool) → ltb i j ≡ less → (item_at sheet i).place ≤ (item_at sheet j).place
      go true e = omega (arith, items_ascend sheet keeps i j (ltb-true i j e) inside)
      go false e =
          let same : i ≡ j = omega (arith, ltb-false i j e) in
          omega (arith, ap (λ (n : ℕ). (item_at sheet n).place) same)

  -- where an item stands wholly in front of a place, so do those in front of it
  pub all_in_front : (place middle : ℕ) → middle < item_count sheet → (item_at sheet middle).place + 1 < place
      → (k : ℕ) → k < middle + 1 → (item_at sheet k).place + 1 < place
  all_in_front place middle inside low k less = omega (arith, low, in_order k middle (omega arith) inside)

-- there is a stop
abbrev pub stops : Option Stop → Bool
stops (Some stop) = true
stops None = false

-- up to where a write stores: its stop, or the end of its run where no item is bad
abbrev pub stores_to : ℕ → Option Stop → ℕ
stores_to end (Some stop) = stop.place
stores_to end None = end

-- a place of the run stands in front of its end
pub run_below : (first many place : ℕ) → in_run first many place ≡ true → place < first + many
run_below first many place e =
    ltb-true place (first + many) (second_of_lem (leb first place) (ltb place (first + many)) e)

module _ (first many : ℕ) where
  -- the first place of an item that is touched stands in front of the end of the run
  pub touched_below : (item : Item) → touched first many item ≡ true → item.place < first + many
  touched_below item e = go (in_run first many item.place) refl e
    where
      go : (inside : Bool) → in_run first many item.place ≡ inside
          → (inside || is_pair item && in_run first many (item.place + 1)) ≡ true → item.place < first + many
      go true says e = run_below first many item.place says
      go false says e =
          omega (arith, run_below first many (item.place + 1) (second_of_lem (is_pair item) (in_run first many (item.place + 1)) e))

  -- and its last place does not stand in front of the run
  touched_above : (item : Item) → touched first many item ≡ true → first ≤ item.place + 1
  touched_above item e = go (in_run first many item.place) refl e
    where
      go : (inside : Bool) → in_run first many item.place ≡ inside
          → (inside || is_pair item && in_run first many (item.place + 1)) ≡ true → first ≤ item.place + 1
      go true says e = omega (arith, run_above first many item.place says)
      go false says e = run_above first many (item.place + 1) (second_of_lem (is_pair item) (in_run first many (item.place + 1)) e)

  module _ (bank frame : List ℕ) where
    -- the stop at an item that is bad
    abbrev pub stops_at : Item → Option Stop
    stops_at item = stops_with item.place (side_by (would_be first many bank frame) item)

    -- so does that of a bad item
    pub bad_below : (item : Item) → bad_item first many bank frame item ≡ true → item.place < first + many
    unfolding bad_item
    bad_below item e =
        touched_below item (first_of (touched first many item) (not (good_by (would_be first many bank frame) item)) e)

    -- an item that stands wholly in front of the run, or behind it, is not bad
    front_fine : (item : Item) → item.place + 1 < first → bad_item first many bank frame item ≡ false
    unfolding bad_item
    front_fine item low = go (touched first many item) refl
      where
        go : (touch : Bool) → touched first many item ≡ touch → (touch && not (good_by (would_be first many bank frame) item)) ≡ false
        go true e = absurd (omega (arith, touched_above item e))
        go false e = refl

    past_fine : (item : Item) → first + many ≤ item.place → bad_item first many bank frame item ≡ false
    past_fine item high = go (bad_item first many bank frame item) refl
      where
        go : (bad : Bool) → bad_item first many bank frame item ≡ bad → bad ≡ false
        go true e = absurd (omega (arith, bad_below item e))
        go false e = refl

    -- rows that all stand behind the run stop nothing
    rows_past : (row : ℕ → Item) (k n : ℕ) → ((i : ℕ) → k ≤ i → i < k + n → first + many ≤ (row i).place)
        → stop_in first many bank frame (rows row k n) ≡ None
    unfolding rows stop_in
    rows_past row k zero behind = refl
    rows_past row k (suc n) behind =
        ap (λ (bad : Bool). cond bad (stops_at (row k)) (stop_in first many bank frame (rows row (suc k) n)))
        (past_fine (row k) (behind k (omega arith) (omega arith)))
        ∙ rows_past row (suc k) n (λ i low high. behind i (omega arith) (omega arith))

    -- a write stops exactly if an item is bad
    pub stop_some : (l : List Item) → stops (stop_in first many bank frame l) ≡ some (bad_item first many bank frame) l
    unfolding stop_in some
    stop_some [] = refl
    stop_some (item ∷ behind) = go (bad_item first many bank frame item) (stop_some behind)
      where
        go : (bad : Bool) → stops (stop_in first many bank frame behind) ≡ some (bad_item first many bank frame) behind
            → stops (cond bad (stops_at item) (stop_in first many bank frame behind)) ≡ (bad || some (bad_item first many bank frame) behind)
        go true rest = refl
        go false rest = rest

    pub stop_bound : (l : List Item) → stores_to (first + many) (stop_in first many bank frame l) ≤ first + many
    unfolding stop_in
    stop_bound [] = omega arith
    stop_bound (item ∷ behind) = go (bad_item first many bank frame item) refl (stop_bound behind)
      where
        go : (bad : Bool) → bad_item first many bank frame item ≡ bad → stores_to (first + many) (stop_in first many bank frame behind) ≤ first + many
            → stores_to (first + many) (cond bad (stops_at item) (stop_in first many bank frame behind)) ≤ first + many
        go true says rest = omega (arith, bad_below item says)
        go false says rest = rest

    -- a walk over the items, where the item at hand is the one at an index
    module _ (sheet : List ℕ) (k : ℕ) (whole : Option Stop) (left : stop_in first many bank frame (items_from sheet k) ≡ whole) where
      module _ (item : Item) (here : item ≡ item_at sheet k) (inside : k < item_count sheet) where
        stop_cases : cond (bad_item first many bank frame item) (stops_at item) (stop_in first many bank frame (items_from sheet (k + 1))) ≡ whole
        unfolding stop_in
        stop_cases =
            sym (ap (stop_in first many bank frame)
            (rows_on (item_at sheet) k (item_count sheet) inside ∙ ap (λ (i : Item). i ∷ items_from sheet (k + 1)) (sym here)))
            ∙ left

        pub stop_here : bad_item first many bank frame item ≡ true → stops_at item ≡ whole
        stop_here bad = simp bad at stop_cases

        pub stop_goes_on : bad_item first many bank frame item ≡ false → stop_in first many bank frame (items_from sheet (k + 1)) ≡ whole
        stop_goes_on fine = simp fine at stop_cases

      pub stop_none : item_count sheet ≤ k → None ≡ whole
      unfolding stop_in
      stop_none past = sym (ap (stop_in first many bank frame) (rows_end_lem (item_at sheet) k (item_count sheet) past)) ∙ left

      -- at an item behind the run, as those behind it are
      pub stop_past : sound sheet ≡ true → k < item_count sheet → first + many ≤ (item_at sheet k).place → None ≡ whole
      stop_past keeps inside high =
          sym (rows_past (item_at sheet) k (item_count sheet - k)
          (λ i low under. omega (arith, in_order sheet keeps k i low (omega arith))))
          ∙ left

    -- items in front of an index, each wholly in front of the run, are passed over
    pub stop_skips : (sheet : List ℕ) (k : ℕ) → k ≤ item_count sheet → ((i : ℕ) → i < k → (item_at sheet i).place + 1 < first)
        → stop_in first many bank frame (items_from sheet k) ≡ stop_in first many bank frame (items sheet)
    stop_skips sheet zero within low = ap (stop_in first many bank frame) (rows_all (item_at sheet) (item_count sheet) ∙ items_rows sheet)
    stop_skips sheet (suc k) within low =
        ap (λ (n : ℕ). stop_in first many bank frame (items_from sheet n)) next
        ∙ stop_goes_on sheet k (stop_in first many bank frame (items sheet)) (stop_skips sheet k (omega arith) (λ i less. low i (omega arith)))
        (item_at sheet k) refl (omega arith) (front_fine (item_at sheet k) (low k (omega arith)))
      where
        next : suc k ≡ k + 1
        next = omega arith
