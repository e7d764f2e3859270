-- A write and a clear leave a sound bank sound: a write stops in front of the first item that would leave its range. Assumes nothing.
use mathlib.Core.Path.{◌≡◌, refl, sym, ap, ◌∙◌}
use mathlib.Core.Bool.{Bool, true, false, not, cond, ◌&&◌, ◌||◌, false≢true, true≢false, or-true}
use mathlib.Core.List.{List, [], ◌∷◌}
use mathlib.Core.Logic.{◌⊎◌, inl, inr}
use Prim.Native.Nat.{ℕ, zero, suc, ◌+◌, ◌-◌, ◌≤◌, ◌<◌}
use native.Mathlib.Omega.{arith}
use lib.Dec.{leb, ltb, eqb}
use borrow.Author.Tests.{lt-ltb, leb-true, ltb-true, ltb-false, eqb-true, not-false}
use Rattle.std.specs.Prelude.{None}
use Rattle.sheet_rules.specs.declared.Item.{Item}
use Rattle.lists.specs.Lists.{rows}
use Rattle.sheet_rules.specs.Rows.{items, item_at, item_count, bank_words}
use Rattle.sheet_rules.specs.Rules.{is_pair}
use Rattle.sheet_rules.specs.Lookup.{holds}
use Rattle.lists.proofs.Tests.{first_of, second_of_lem}
use Rattle.lists.proofs.Among.{Among, here, there}
use Rattle.sheet_rules.proofs.Places.{items_ascend}
use Rattle.bank_rules.specs.Stores.{Store, word_of, stored}
use Rattle.bank_rules.specs.Bank.{good_by, bank_sound, mark_place, mark_stores}
use Rattle.bank_rules.specs.Calls.{Lent}
use Rattle.bank_rules.proofs.Changes.{Passed, mark_there, mark_apart}
use Rattle.bank_rules.proofs.Held.{holds_first, item_row_lem, held_below, holder_alone}
use Rattle.bank_rules.proofs.Inside.{below_inside}
use Rattle.bank_rules.proofs.Values.{good_same, sound_bank, sound_items, sound_mark, sound_kept}
use Rattle.sheet_rules.specs.declared.Purpose.TheVariants.{Write}
use Rattle.frame.specs.Frame.{start, count, run, sent}
use Rattle.sheet_rules.specs.Runs.{all_open}
use Rattle.meter_rules.specs.Write.{first_place, in_run, would_be, touched, bad_item, stop_in, stop_of, run_stores}
use Rattle.meter_rules.proofs.Judging.{run_above}
use Rattle.meter_rules.proofs.Stopping.{run_below, stores_to, stops_at, stop_bound}
use Rattle.meter_rules.proofs.Written.{run_inside, run_store_lem, words_written}

-- ---- an item and its places

held_cases : (item : Item) (place : ℕ) → holds item place ≡ true
    → (item.place ≡ place) ⊎ ((is_pair item ≡ true) × (item.place + 1 ≡ place))
held_cases item place e = go (eqb item.place place) refl e
  where
    go : (one : Bool) → eqb item.place place ≡ one → (one || is_pair item && eqb (item.place + 1) place) ≡ true
        → (item.place ≡ place) ⊎ ((is_pair item ≡ true) × (item.place + 1 ≡ place))
    go true says e = inl (eqb-true item.place place says)
    go false says e =
        inr (first_of (is_pair item) (eqb (item.place + 1) place) e, eqb-true (item.place + 1) place (second_of_lem (is_pair item) (eqb (item.place + 1) place) e))

held_low : (item : Item) (place : ℕ) → holds item place ≡ true → item.place ≤ place
held_low item place e = go (held_cases item place e)
  where
    go : (item.place ≡ place) ⊎ ((is_pair item ≡ true) × (item.place + 1 ≡ place)) → item.place ≤ place
    go (inl at) = omega arith
    go (inr at) = omega (arith, at.1)

held_high : (item : Item) (place : ℕ) → holds item place ≡ true → place ≤ item.place + 1
held_high item place e = go (held_cases item place e)
  where
    go : (item.place ≡ place) ⊎ ((is_pair item ≡ true) × (item.place + 1 ≡ place)) → place ≤ item.place + 1
    go (inl at) = omega arith
    go (inr at) = omega (arith, at.1)

module _ (first many : ℕ) where
  -- an item with a place in the run is touched
  held_touched : (item : Item) (place : ℕ) → holds item place ≡ true → in_run first many place ≡ true → touched first many item ≡ true
  held_touched item place e within = go (held_cases item place e)
    where
      go : (item.place ≡ place) ⊎ ((is_pair item ≡ true) × (item.place + 1 ≡ place)) → touched first many item ≡ true
      go (inl at) =
          ap (λ (b : Bool). b || is_pair item && in_run first many (item.place + 1)) (ap (in_run first many) at ∙ within)
      go (inr at) =
          ap (λ (b : Bool). in_run first many item.place || b && in_run first many (item.place + 1)) at.0
          ∙ ap (λ (b : Bool). in_run first many item.place || b) (ap (in_run first many) at.1 ∙ within)
          ∙ or-true (in_run first many item.place)

  module _ (bank frame : List ℕ) where
    -- a place that is not in the run keeps its word
    pub outside : (place : ℕ) → (in_run first many place ≡ true → ⊥) → would_be first many bank frame place ≡ word_of bank place
    outside place out = go (in_run first many place) refl
      where
        go : (within : Bool) → in_run first many place ≡ within → cond within (sent frame (place - first)) (word_of bank place) ≡ word_of bank place
        go true e = absurd (out e)
        go false e = refl

    -- an item that was good and is not bad would be good
    fine_good : (item : Item) → bad_item first many bank frame item ≡ false → good_by (word_of bank) item ≡ true
        → good_by (would_be first many bank frame) item ≡ true
    unfolding bad_item
    fine_good item fine before = go (touched first many item) refl fine
      where
        go : (touch : Bool) → touched first many item ≡ touch → (touch && not (good_by (would_be first many bank frame) item)) ≡ false
            → good_by (would_be first many bank frame) item ≡ true
        go true says e = not-false (good_by (would_be first many bank frame) item) e
        go false says e =
            good_same (would_be first many bank frame) (word_of bank) item
            (λ place held. outside place (λ within. false≢true (sym says ∙ held_touched item place held within)))
            ∙ before

    -- ---- the stop

    -- there is none, or it is at a bad item, with the side of the value that this item would have
    pub stop_at : (l : List Item) → (stop_in first many bank frame l ≡ None)
        ⊎ ((item : Item) × Among item l × (bad_item first many bank frame item ≡ true) × (stops_at first many bank frame item ≡ stop_in first many bank frame l))
    unfolding stop_in
    stop_at [] = inl refl
    stop_at (item ∷ behind) = go (bad_item first many bank frame item) refl (stop_at behind)
      where
        go : (bad : Bool) → bad_item first many bank frame item ≡ bad → (stop_in first many bank frame behind ≡ None)
            ⊎ ((other : Item) × Among other behind × (bad_item first many bank frame other ≡ true)
            × (stops_at first many bank frame other ≡ stop_in first many bank frame behind))
            → (cond bad (stops_at first many bank frame item) (stop_in first many bank frame behind) ≡ None)
            ⊎ ((other : Item) × Among other (item ∷ behind) × (bad_item first many bank frame other ≡ true)
            × (stops_at first many bank frame other ≡ cond bad (stops_at first many bank frame item) (stop_in first many bank frame behind)))
        go true says rest = inr (item, here, says, refl)
        go false says (inl e) = inl e
        go false says (inr found) = inr (found.0, there found.1, found.2, found.3)

    -- no bad item stands in front of it, where items ascend
    stop_front : (row : ℕ → Item) (from count : ℕ) → ((i j : ℕ) → i < j → j < from + count → (row i).place < (row j).place)
        → (k : ℕ) → from ≤ k → k < from + count → bad_item first many bank frame (row k) ≡ true
        → stores_to (first + many) (stop_in first many bank frame (rows row from count)) ≤ (row k).place
    unfolding stop_in rows
    stop_front row from zero ascend k low high bad = absurd (omega arith)
    stop_front row from (suc count) ascend k low high bad =
        go (bad_item first many bank frame (row from)) refl
        (λ past. stop_front row (suc from) count (λ i j less inside. ascend i j less (omega arith)) k past (omega arith) bad)
      where
        not_below : (less : Bool) → ltb from k ≡ less → (row from).place ≤ (row k).place
        not_below true e = omega (arith, ascend from k (ltb-true from k e) high)
        not_below false e =
            let same : from ≡ k = omega (arith, ltb-false from k e) in
            omega (arith, ap (λ (n : ℕ). (row n).place) same)

        go : (this : Bool) → bad_item first many bank frame (row from) ≡ this
            → (suc from ≤ k → stores_to (first + many) (stop_in first many bank frame (rows row (suc from) count)) ≤ (row k).place)
            → stores_to (first + many) (cond this (stops_at first many bank frame (row from)) (stop_in first many bank frame (rows row (suc from) count)))
            ≤ (row k).place
        go true e rest = not_below (ltb from k) refl
        go false e rest = rest (above (ltb from k) refl)
          where
            above : (less : Bool) → ltb from k ≡ less → suc from ≤ k
            above true says = omega (arith, ltb-true from k says)
            above false says =
                let same : k ≡ from = omega (arith, ltb-false from k says) in
                absurd (true≢false (sym bad ∙ ap (λ (n : ℕ). bad_item first many bank frame (row n)) same ∙ e))

    -- up to the stop, a run is as the whole run
    same_run : (stop place : ℕ) → stop ≤ first + many → (stop ≡ first + many) ⊎ (place < stop)
        → in_run first (stop - first) place ≡ in_run first many place
    same_run stop place bound (inl e) = let all : stop - first ≡ many = omega arith in ap (λ (n : ℕ). in_run first n place) all
    same_run stop place bound (inr less) = go (leb first place) refl
      where
        go : (low : Bool) → leb first place ≡ low → (low && ltb place (first + (stop - first))) ≡ (low && ltb place (first + many))
        go true e =
            let above : first ≤ place = leb-true first place e in
            lt-ltb place (first + (stop - first)) (omega arith) ∙ sym (lt-ltb place (first + many) (omega arith))
        go false e = refl

-- ---- a write

module _ (given : Lent) (frame : List ℕ) (passed : Passed given) (all : all_open Write given.sheet (run frame) ≡ true) where
  abbrev first : ℕ
  first = first_place given.sheet frame

  -- up to where the write stores
  abbrev pub stop : ℕ
  stop = stores_to (first_place given.sheet frame + count frame) (stop_of given frame)

  abbrev after : List ℕ
  after = stored given.bank (run_stores frame first stop)

  pub bound : stop ≤ first + count frame
  unfolding stop_of
  bound = stop_bound first (count frame) given.bank frame (items given.sheet)

  below_bank : (k : ℕ) → k < stop - first → first + k < bank_words given.sheet
  below_bank k inside = run_inside Write given.sheet passed.right (start frame) (count frame) all k (omega (arith, bound))

  pub written : (place : ℕ) → word_of after place ≡ would_be first (stop - first) given.bank frame place
  written =
      words_written frame first stop given.bank
      (λ store m. let found = run_store_lem frame first stop m in
      below_inside given.sheet given.bank passed.right passed.fitting store.place
      (omega (arith, ap (λ (s : Store). s.place) found.2, below_bank found.0 found.1)))

  pub mark_kept : word_of after (mark_place given.sheet) ≡ word_of given.bank (mark_place given.sheet)
  mark_kept =
      written (mark_place given.sheet)
      ∙ outside first (stop - first) given.bank frame (mark_place given.sheet)
      (λ within. let low = run_above first (stop - first) (mark_place given.sheet) within in
      let high = run_below first (stop - first) (mark_place given.sheet) within in
      let past = below_bank (mark_place given.sheet - first) (omega arith) in
      omega arith)

  -- an item in front of the stop is not bad
  pub front_fine : {item : Item} → Among item (items given.sheet) → item.place < stop → bad_item first (count frame) given.bank frame item ≡ false
  unfolding stop_of items
  front_fine {item} m less = go (bad_item first (count frame) given.bank frame item) refl
    where
      go : (bad : Bool) → bad_item first (count frame) given.bank frame item ≡ bad → bad ≡ false
      go false e = refl
      go true e =
          let row = item_row_lem given.sheet m in
          absurd (omega (
            arith,
            stop_front first (count frame) given.bank frame (item_at given.sheet) 0 (item_count given.sheet)
                (λ i j before inside. items_ascend given.sheet passed.right i j before (omega arith)) row.0 (omega arith) (omega (arith, row.1))
                (ap (bad_item first (count frame) given.bank frame) (sym row.2) ∙ e),
            ap (λ (i : Item). i.place) row.2,
          ))

  -- its places stand in front of the stop, too, or the write stops nowhere
  front_places : {item : Item} → Among item (items given.sheet) → item.place < stop → (place : ℕ) → holds item place ≡ true
      → (stop ≡ first + count frame) ⊎ (place < stop)
  unfolding stop_of
  front_places {item} m less place held = go (stop_at first (count frame) given.bank frame (items given.sheet))
    where
      go : (stop_of given frame ≡ None)
          ⊎ ((other : Item) × Among other (items given.sheet) × (bad_item first (count frame) given.bank frame other ≡ true)
          × (stops_at first (count frame) given.bank frame other ≡ stop_of given frame))
          → (stop ≡ first + count frame) ⊎ (place < stop)
      go (inl e) = inl (ap (stores_to (first + count frame)) e)
      go (inr found) = inr (in_front_lem (ltb place stop) refl)
        where
          there_stops : found.0.place ≡ stop
          there_stops = ap (stores_to (first + count frame)) found.3

          in_front_lem : (b : Bool) → ltb place stop ≡ b → place < stop
          in_front_lem true says = ltb-true place stop says
          in_front_lem false says =
              let at : found.0.place ≡ place = omega (arith, there_stops, ltb-false place stop says, held_high item place held) in
              let same = holder_alone given.sheet passed.right place m held found.1 (holds_first found.0 place at) in
              absurd (omega (arith, there_stops, ap (λ (i : Item). i.place) same))

  item_good : (item : Item) → Among item (items given.sheet) → good_by (word_of after) item ≡ true
  item_good item m =
      good_same (word_of after) (would_be first (stop - first) given.bank frame) item (λ place held. written place) ∙ go (ltb item.place stop) refl
    where
      go : (front : Bool) → ltb item.place stop ≡ front → good_by (would_be first (stop - first) given.bank frame) item ≡ true
      go true e =
          let less = ltb-true item.place stop e in
          good_same (would_be first (stop - first) given.bank frame) (would_be first (count frame) given.bank frame) item
          (λ place held. ap (λ (b : Bool). cond b (sent frame (place - first)) (word_of given.bank place))
          (same_run first (count frame) given.bank frame stop place bound (front_places m less place held)))
          ∙ fine_good first (count frame) given.bank frame item (front_fine m less) (sound_items given.sheet given.bank passed.whole m)
      go false e =
          good_same (would_be first (stop - first) given.bank frame) (word_of given.bank) item
          (λ place held. outside first (stop - first) given.bank frame place
          (λ within. omega (
            arith,
            ltb-false item.place stop e,
            held_low item place held,
            run_above first (stop - first) place within,
            run_below first (stop - first) place within,
          )))
          ∙ sound_items given.sheet given.bank passed.whole m

  pub write_sound : bank_sound given.sheet after ≡ true
  write_sound =
      sound_bank given.sheet after item_good (ap (λ (n : ℕ). leb n 1) mark_kept ∙ sound_mark given.sheet given.bank passed.whole)

-- ---- a clear

pub clear_sound : (given : Lent) → Passed given → bank_sound given.sheet (stored given.bank (mark_stores given.sheet 0)) ≡ true
clear_sound given passed =
    sound_kept given.sheet given.bank (stored given.bank (mark_stores given.sheet 0)) passed.whole
    (λ item m place held. mark_apart given.sheet given.bank passed.right passed.fitting 0 place
    (λ same. let below = held_below given.sheet passed.right place m held in omega arith))
    (ap (λ (n : ℕ). leb n 1) (mark_there given.sheet given.bank passed.right passed.fitting 0))
