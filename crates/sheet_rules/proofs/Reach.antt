-- How far a run of addresses is open: in areas that ascend, each address from the start in front of the reach is open, and the reach
-- is not. Assumes nothing.
use mathlib.Core.Path.{◌≡◌, refl, sym, ap, ap₂, ◌∙◌}
use mathlib.Core.Bool.{Bool, true, false, ◌&&◌, and-false, cond}
use mathlib.Core.List.{List, [], ◌∷◌}
use Prim.Native.Nat.{ℕ, zero, suc, ◌+◌, ◌-◌, ◌≤◌, ◌<◌}
use native.Mathlib.Omega.{arith}
use lib.Dec.{leb, ltb}
use borrow.Author.Tests.{le-leb, lt-leb, leb-true, leb-false, ltb-true}
use Rattle.std.specs.Prelude.{None}
use Rattle.lists.specs.Lists.{each, up_from}
use Rattle.lists.proofs.Walks.{up_on, up_end}
use Rattle.lists.proofs.Among.{up_among, each_among, up_each}
use Rattle.lists.proofs.Tests.{first_of, second_of_lem}
use Rattle.sheet_rules.specs.declared.Area.{Area}
use Rattle.sheet_rules.specs.declared.Purpose.{Purpose}
use Rattle.sheet_rules.specs.declared.Run.{Run}
use Rattle.sheet_rules.specs.Rows.{areas}
use Rattle.sheet_rules.specs.Rules.{in_area, first_last_rule, areas_ascend, sound}
use Rattle.sheet_rules.specs.Lookup.{lies_in, found_at}
use Rattle.sheet_rules.specs.Runs.{permits, opens, all_open, carried, reach, run_from}
use Rattle.sheet_rules.proofs.Sound.{sound_areas}

-- ---- what lies at an address, in the first area or behind it

lies_within : (area : Area) (behind : List Area) (address : ℕ) → in_area address area ≡ true
    → lies_in (area ∷ behind) address ≡ found_at (area.place + (address - area.first)) area.access
unfolding lies_in
lies_within area behind address inside = simp inside

lies_out : (area : Area) (behind : List Area) (address : ℕ) → in_area address area ≡ false → lies_in (area ∷ behind) address ≡ lies_in behind address
unfolding lies_in
lies_out area behind address outside = simp outside

lies_past : (area : Area) (behind : List Area) (address : ℕ) → area.last < address → lies_in (area ∷ behind) address ≡ lies_in behind address
lies_past area behind address past = lies_out area behind address (simp (lt-leb address area.last past, and-false))

lies_front : (last address : ℕ) (l : List Area) → each (λ later. ltb last later.first) l ≡ true → address ≤ last → lies_in l address ≡ None
unfolding lies_in each
lies_front last address [] above low = refl
lies_front last address (area ∷ behind) above low =
    let here : last < area.first =
    ltb-true last area.first
    (first_of (ltb last area.first) (each (λ later. ltb last later.first) behind) above) in
    simp (lt-leb area.first address (omega arith))
    (lies_front last address behind (second_of_lem (ltb last area.first) (each (λ later. ltb last later.first) behind) above) low)

module _ (purpose : Purpose) where
  -- an address is open, by some areas; and each one from a next one to an end
  abbrev open_by : List Area → ℕ → Bool
  open_by l address = opens purpose (lies_in l address)

  abbrev open_from : List Area → ℕ → ℕ → Bool
  open_from l next end = each (open_by l) (up_from next (end - next))

  -- no run is open that begins at an address that is not
  closed_at : (l : List Area) (next end : ℕ) → next < end → open_by l next ≡ false → open_from l next end ≡ false
  unfolding each
  closed_at l next end some closed =
      ap (each (open_by l)) (up_on next next end some)
      ∙ ap (λ (b : Bool). b && each (open_by l) (up_from (next + 1) (end - (next + 1)))) closed

  -- a reach is not in front of its start
  pub reach_from : (l : List Area) (next : ℕ) → next ≤ reach purpose l next
  unfolding reach
  reach_from [] next = omega arith
  reach_from (area ∷ behind) next =
      let ahead : next ≤ carried purpose area next = go (in_area next area) (permits purpose area.access) refl in
      omega (arith, ahead, reach_from behind (carried purpose area next))
    where
      go : (inside permit : Bool) → in_area next area ≡ inside → next ≤ cond (inside && permit) (area.last + 1) next
      go true true e =
          omega (arith, leb-true next area.last (second_of_lem (leb area.first next) (leb next area.last) e))
      go true false e = omega arith
      go false permit e = omega arith

  module _ (area : Area) (behind : List Area) where
    -- past an area, it plays no part
    past : (count next : ℕ) → area.last < next
        → each (open_by (area ∷ behind)) (up_from next count) ≡ each (open_by behind) (up_from next count)
    unfolding each up_from
    past zero next above = refl
    past (suc count) next above =
        ap₂ (λ (a b : Bool). a && b) (ap (opens purpose) (lies_past area behind next above)) (past count (suc next) (omega arith))

    -- within an area that permits the purpose, a run is open exactly if what reaches past the area is
    within : (count next : ℕ) → area.first ≤ next → next ≤ area.last + 1 → permits purpose area.access ≡ true
        → each (open_by (area ∷ behind)) (up_from next count)
        ≡ each (open_by behind) (up_from (area.last + 1) (count - (area.last + 1 - next)))
    unfolding each up_from
    within zero next low high permit =
        ap (λ (n : ℕ). each (open_by behind) (up_from (area.last + 1) n)) (none (area.last + 1 - next))
      where
        none : (n : ℕ) → 0 ≡ 0 - n
        none n = omega arith
    within (suc count) next low high permit =
        go (leb next area.last) refl (λ inside. within count (suc next) (omega arith) (omega arith) permit)
      where
        Holds : ℕ → ℕ → Type 0
        Holds from more =
            each (open_by (area ∷ behind)) (up_from from more)
            ≡ each (open_by behind) (up_from (area.last + 1) (more - (area.last + 1 - from)))

        go : (inside : Bool) → leb next area.last ≡ inside → (next ≤ area.last → Holds (suc next) count) → Holds next (suc count)
        go true e rest =
            let inside : next ≤ area.last = leb-true next area.last e in
            let fewer : count - (area.last + 1 - suc next) ≡ suc count - (area.last + 1 - next) = omega arith in
            let here = ap (opens purpose) (lies_within area behind next (simp (le-leb area.first next low, e))) ∙ permit in
            ap (λ (b : Bool). b && each (open_by (area ∷ behind)) (up_from (suc next) count)) here
            ∙ rest inside ∙ ap (λ (n : ℕ). each (open_by behind) (up_from (area.last + 1) n)) fewer
        go false e rest =
            let above : area.last < next = leb-false next area.last e in
            let here : next ≡ area.last + 1 = omega arith in
            let all : suc count ≡ suc count - (area.last + 1 - next) = omega arith in
            past (suc count) next above
            ∙ ap₂ (λ (from more : ℕ). each (open_by behind) (up_from from more)) here all

  -- a run from a next address to an end is open exactly if the reach of the next one is not in front of the end: none is left
  Reached : List Area → ℕ → ℕ → Type 0
  Reached l next end = open_from l next end ≡ leb end (reach purpose l next)

  none_left : (l : List Area) (next end : ℕ) → end ≤ next → Reached l next end
  unfolding each Reached
  none_left l next end done =
      ap (each (open_by l)) (up_end next next end done)
      ∙ sym (le-leb end (reach purpose l next) (omega (arith, reach_from l next)))

  -- some are left, at an area that keeps the rules
  module _ (area : Area) (behind : List Area) (above : each (λ later. ltb area.last later.first) behind ≡ true)
      (ordered : area.first ≤ area.last) (next end : ℕ) (some : next < end) where
    none_behind : next ≤ area.last → open_by behind next ≡ false
    none_behind low = ap (opens purpose) (lies_front area.last next behind above low)

    out : in_area next area ≡ false → (from : Bool) → leb area.first next ≡ from → open_from (area ∷ behind) next end ≡ open_from behind next end
    out i true f =
        past area behind (end - next) next
        (leb-false next area.last (ap (λ (b : Bool). b && leb next area.last) (sym f) ∙ i))
    out i false f =
        let none = none_behind (omega (arith, leb-false area.first next f)) in
        closed_at (area ∷ behind) next end some (ap (opens purpose) (lies_out area behind next i) ∙ none)
        ∙ sym (closed_at behind next end some none)

    at_area : (inside permit : Bool) → in_area next area ≡ inside → permits purpose area.access ≡ permit
        → ((from : ℕ) → Reached behind from end)
        → open_from (area ∷ behind) next end ≡ leb end (reach purpose behind (cond (inside && permit) (area.last + 1) next))
    unfolding Reached
    at_area true true i p rest =
        let low = leb-true area.first next (first_of (leb area.first next) (leb next area.last) i) in
        let high = leb-true next area.last (second_of_lem (leb area.first next) (leb next area.last) i) in
        let fewer : end - next - (area.last + 1 - next) ≡ end - (area.last + 1) = omega arith in
        within area behind (end - next) next low (omega (arith, high)) p
        ∙ ap (λ (n : ℕ). each (open_by behind) (up_from (area.last + 1) n)) fewer ∙ rest (area.last + 1)
    at_area true false i p rest =
        closed_at (area ∷ behind) next end some (ap (opens purpose) (lies_within area behind next i) ∙ p)
        ∙ sym (closed_at behind next end some
        (none_behind (leb-true next area.last (second_of_lem (leb area.first next) (leb next area.last) i))))
        ∙ rest next
    at_area false permit i p rest = out i (leb area.first next) refl ∙ rest next

  open_reach : (l : List Area) → areas_ascend l ≡ true → each first_last_rule l ≡ true → (next end : ℕ) → Reached l next end
  unfolding each areas_ascend reach lies_in Reached
  open_reach [] ascend order next end = go (leb end next) refl
    where
      go : (done : Bool) → leb end next ≡ done → Reached [] next end
      go true e = none_left [] next end (leb-true end next e)
      go false e = closed_at [] next end (leb-false end next e) refl ∙ sym e
  open_reach (area ∷ behind) ascend order next end =
      go (leb end next) refl
      (λ from. open_reach behind (second_of_lem (each (λ later. ltb area.last later.first) behind) (areas_ascend behind) ascend)
      (second_of_lem (first_last_rule area) (each first_last_rule behind) order) from end)
    where
      go : (done : Bool) → leb end next ≡ done → ((from : ℕ) → Reached behind from end) → Reached (area ∷ behind) next end
      go true e rest = none_left (area ∷ behind) next end (leb-true end next e)
      go false e rest =
          at_area area behind (first_of (each (λ later. ltb area.last later.first) behind) (areas_ascend behind) ascend)
          (leb-true area.first area.last (first_of (first_last_rule area) (each first_last_rule behind) order)) next end
          (leb-false end next e) (in_area next area) (permits purpose area.access) refl refl rest

-- ---- over a sound sheet

module _ (sheet : List ℕ) (keeps : sound sheet ≡ true) (purpose : Purpose) (start : ℕ) where
  -- each of so many addresses from a start on is open exactly if the reach is not in front of their end
  pub all_open_reach : (count : ℕ) → all_open purpose sheet (up_from start count) ≡ leb (start + count) (reach purpose (areas sheet) start)
  unfolding all_open Reached
  all_open_reach count =
      let rules = sound_areas sheet keeps in
      let all : count ≡ start + count - start = omega arith in
      ap (λ (n : ℕ). each (λ (address : ℕ). opens purpose (lies_in (areas sheet) address)) (up_from start n)) all
      ∙ open_reach purpose (areas sheet) rules.ascend rules.first_last start (start + count)

  -- each address from the start in front of the reach is open
  pub reach_open : (k : ℕ) → start + k < reach purpose (areas sheet) start → opens purpose (lies_in (areas sheet) (start + k)) ≡ true
  unfolding all_open
  reach_open k below =
      each_among (λ (address : ℕ). opens purpose (lies_in (areas sheet) address)) (up_among start (k + 1) k (omega arith))
      (all_open_reach (k + 1) ∙ le-leb (start + (k + 1)) (reach purpose (areas sheet) start) (omega arith))

  -- and the reach is not: were it open, then so would be each address up to it
  reach_last : opens purpose (lies_in (areas sheet) (reach purpose (areas sheet) start)) ≡ true → (k : ℕ)
      → k < reach purpose (areas sheet) start - start + 1 → (last : Bool) → leb (reach purpose (areas sheet) start) (start + k) ≡ last
      → opens purpose (lies_in (areas sheet) (start + k)) ≡ true
  reach_last e k less true l =
      let from = reach_from purpose (areas sheet) start in
      let here : start + k ≡ reach purpose (areas sheet) start =
      omega (arith, from, less, leb-true (reach purpose (areas sheet) start) (start + k) l) in
      ap (λ (n : ℕ). opens purpose (lies_in (areas sheet) n)) here ∙ e
  reach_last e k less false l = reach_open k (leb-false (reach purpose (areas sheet) start) (start + k) l)

  pub reach_shut : opens purpose (lies_in (areas sheet) (reach purpose (areas sheet) start)) ≡ false
  unfolding all_open
  reach_shut = go (opens purpose (lies_in (areas sheet) (reach purpose (areas sheet) start))) refl
    where
      go : (open? : Bool) → opens purpose (lies_in (areas sheet) (reach purpose (areas sheet) start)) ≡ open? → open? ≡ false
      go false e = refl
      go true e =
          let more = reach purpose (areas sheet) start - start + 1 in
          sym (up_each (λ (address : ℕ). opens purpose (lies_in (areas sheet) address)) start more
          (λ k less. reach_last e k less (leb (reach purpose (areas sheet) start) (start + k)) refl))
          ∙ all_open_reach more
          ∙ lt-leb (start + more) (reach purpose (areas sheet) start) (omega (arith, reach_from purpose (areas sheet) start))

  -- the same of a run that was found
  module _ {run : Run} (says : run ≡ run_from purpose sheet start) (count : ℕ) where
    pub run_shut : run.end < start + count → all_open purpose sheet (up_from start count) ≡ false
    run_shut short = all_open_reach count ∙ lt-leb (start + count) (reach purpose (areas sheet) start) (omega (arith, short, ap (λ (r : Run). r.end) says))

    pub run_open : start + count ≤ run.end → all_open purpose sheet (up_from start count) ≡ true
    run_open far = all_open_reach count ∙ le-leb (start + count) (reach purpose (areas sheet) start) (omega (arith, far, ap (λ (r : Run). r.end) says))
