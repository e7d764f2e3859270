-- The places of a run and the words that a write leaves: the places lie one after the other, the words sent stand in front of the stop, and
-- every other word stays. Assumes nothing.
use mathlib.Core.Path.{◌≡◌, refl, sym, ap, ◌∙◌}
use mathlib.Core.Bool.{Bool, true, false, cond, ◌&&◌, false≢true}
use mathlib.Core.List.{List}
use Prim.Native.Nat.{ℕ, ◌+◌, ◌-◌, ◌≤◌, ◌<◌}
use native.Mathlib.Omega.{arith}
use lib.Dec.{ltb}
use borrow.Author.Tests.{le-leb, lt-ltb}
use Rattle.std.specs.Prelude.{Option, None, Some}
use Rattle.sheet_rules.specs.Rows.{bank_words, areas}
use Rattle.lists.specs.Lists.{up_from}
use Rattle.sheet_rules.specs.Rules.{sound}
use Rattle.sheet_rules.specs.Lookup.{lies_in, place_in, found_at}
use Rattle.lists.proofs.Among.{Among, each_among, up_among}
use Rattle.sheet_rules.proofs.Addresses.{run_consecutive, lies_below}
use Rattle.bank_rules.specs.Stores.{Store, word_of, stored}
use Rattle.bank_rules.proofs.Latest.{latest, StoresInside, words_left, latest_none, latest_agreed}
use Rattle.bank_rules.proofs.Inside.{among_map, map_among, number_among, among_number}
use Rattle.sheet_rules.specs.declared.Purpose.{Purpose}
use Rattle.frame.specs.Frame.{sent}
use Rattle.sheet_rules.specs.Runs.{permits, opens, all_open}
use Rattle.sheet_rules.specs.declared.Lies.{Lies}
use Rattle.meter_rules.specs.Write.{in_run, would_be, run_store, run_stores}
use Rattle.meter_rules.proofs.Judging.{run_above}
use Rattle.meter_rules.proofs.Stopping.{run_below}

-- what is open to a purpose lies at its place
pub record Opened (purpose : Purpose) (lies : Option Lies) : Type 0 where
  pub access : ℕ
  pub at : lies ≡ found_at (place_in lies) access
  pub permitted : permits purpose access ≡ true

opened : (purpose : Purpose) (lies : Option Lies) → opens purpose lies ≡ true → Opened purpose lies
opened purpose (Some lies) e = record { access = lies.access; at = refl; permitted = e }
opened purpose None e = absurd (false≢true e)

module _ (purpose : Purpose) (sheet : List ℕ) (keeps : sound sheet ≡ true) (start many : ℕ)
    (all : all_open purpose sheet (up_from start many) ≡ true) where
  pub each_open : (k : ℕ) → k < many → Opened purpose (lies_in (areas sheet) (start + k))
  unfolding all_open
  each_open k inside =
      opened purpose (lies_in (areas sheet) (start + k))
      (each_among (λ address. opens purpose (lies_in (areas sheet) address)) (up_among start many k inside) all)

  -- the places of a run follow each other, and are places of the bank
  pub run_place : (k : ℕ) → k < many → place_in (lies_in (areas sheet) (start + k)) ≡ place_in (lies_in (areas sheet) start) + k
  run_place k inside =
      let here = each_open 0 (omega arith) in
      let there = each_open k inside in
      let same : start + 0 ≡ start = omega arith in
      run_consecutive sheet keeps start k
      (λ i less. let one = each_open i (omega arith) in (place_in (lies_in (areas sheet) (start + i)), one.access, one.at))
      (place_in (lies_in (areas sheet) start)) (place_in (lies_in (areas sheet) (start + k))) here.access there.access
      (ap (lies_in (areas sheet)) (sym same) ∙ here.at
      ∙ ap (λ (n : ℕ). found_at (place_in (lies_in (areas sheet) n)) here.access) same)
      there.at

  pub run_inside : (k : ℕ) → k < many → place_in (lies_in (areas sheet) start) + k < bank_words sheet
  run_inside k inside =
      let there = each_open k inside in
      omega (
        arith,
        run_place k inside,
        lies_below sheet keeps (start + k) (place_in (lies_in (areas sheet) (start + k))) there.access there.at,
      )

-- ---- the stores of a run

module _ (frame : List ℕ) (first stop : ℕ) where
  pub run_store_lem : {store : Store} → Among store (run_stores frame first stop) → (k : ℕ) × (k < stop - first) × (store ≡ run_store frame first k)
  unfolding run_stores
  run_store_lem m =
      let found = among_map (run_store frame first) (up_from 0 (stop - first)) m in
      (found.0, among_number (stop - first) found.1, found.2)

  pub store_run : (k : ℕ) → k < stop - first → Among (run_store frame first k) (run_stores frame first stop)
  unfolding run_stores
  store_run k inside = map_among (run_store frame first) (number_among (stop - first) inside)

  module _ (bank : List ℕ) (inside : StoresInside bank (run_stores frame first stop)) where
    -- the words sent stand in front of the stop, and every other word stays
    pub words_written : (place : ℕ) → word_of (stored bank (run_stores frame first stop)) place ≡ would_be first (stop - first) bank frame place
    words_written place = words_left bank (run_stores frame first stop) inside place ∙ go (in_run first (stop - first) place) refl
      where
        placed : {store : Store} (k : ℕ) → store ≡ run_store frame first k → store.place ≡ first + k
        placed k e = ap (λ (s : Store). s.place) e

        go : (within : Bool) → in_run first (stop - first) place ≡ within
            → latest (run_stores frame first stop) place (word_of bank place)
            ≡ cond within (sent frame (place - first)) (word_of bank place)
        go true e =
            let low = run_above first (stop - first) place e in
            let high = run_below first (stop - first) place e in
            let at : first + (place - first) ≡ place = omega arith in
            latest_agreed place (sent frame (place - first)) (store_run (place - first) (omega arith)) at
            (λ store m same. let found = run_store_lem m in
            let is : found.0 ≡ place - first = omega (arith, placed found.0 found.2) in
            ap (λ (s : Store). s.word) found.2 ∙ ap (sent frame) is)
            (word_of bank place)
        go false e =
            latest_none (run_stores frame first stop) place (word_of bank place)
            (λ store m same. let found = run_store_lem m in
            false≢true (sym e ∙ within place (omega (arith, placed found.0 found.2)) (omega (arith, placed found.0 found.2, found.1))))
          where
            within : (n : ℕ) → first ≤ n → n < first + (stop - first) → in_run first (stop - first) n ≡ true
            within n low high =
                ap (λ (b : Bool). b && ltb n (first + (stop - first))) (le-leb first n low) ∙ lt-ltb n (first + (stop - first)) high
