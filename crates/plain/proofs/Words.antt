-- The words that the definitions leave in the bank are those of the plain numbers. Assumes nothing.
use mathlib.Core.Path.{◌≡◌, refl, sym, ap, ap₂, subst, ◌∙◌}
use mathlib.Core.Bool.{Bool, true, false, not, cond, ◌&&◌, true≢false, false≢true}
use mathlib.Core.Logic.{◌⊎◌, inl, inr}
use mathlib.Core.List.{List, [], ◌∷◌}
use Prim.Native.Nat.{ℕ, ◌+◌, ◌-◌, ◌*◌, ◌≤◌, ◌<◌}
use native.Mathlib.Omega.{arith}
use lib.Dec.{ltb, eqb}
use borrow.Author.Tests.{eqb-true, eqb-false, eq-eqb, lt-ltb, le-leb, ltb-true, ltb-false, not-true, not-false}
use Rattle.std.specs.Prelude.{None}
use Rattle.range.specs.Range.{in_range}
use Rattle.lists.proofs.Tests.{first_of, second_of_lem}
use Rattle.lists.proofs.Among.{Among}
use Rattle.sheet_rules.specs.declared.Item.{Item}
use Rattle.sheet_rules.specs.Rows.{items, record_area}
use Rattle.bank_rules.specs.Stores.{word_of, stored}
use Rattle.bank_rules.specs.Bank.{value_by, good_by, mark_stores}
use Rattle.bank_rules.specs.Calls.{Lent}
use Rattle.bank_rules.proofs.Changes.{Passed, mark_there, mark_apart}
use Rattle.sheet_rules.specs.declared.Purpose.TheVariants.{Write}
use Rattle.sheet_rules.specs.Runs.{all_open}
use Rattle.frame.specs.Frame.{function, second, is_write, count, run, sent}
use Rattle.meter_rules.specs.Steps.{starts_in_records, asked_start, good_read, function_allowed, fails_check, other_station, function_not_allowed, wrong_length, wrong_count, wrong_address, wrong_value, bad_write, good_frame, judged_frame}
use Rattle.lists.specs.Cases.{when, first_case}
use Rattle.meter_rules.specs.declared.Judged.{Judged}
use Rattle.meter_rules.specs.declared.Judged.TheVariants.{FailsCheck, OtherStation, FunctionNotAllowed, WrongLength, WrongCount, WrongAddress, WrongValue, BadItem, GoodRead, GoodRecord, GoodClear, GoodWrite}
use Rattle.meter_rules.specs.Reply.{stores_of}
use Rattle.meter_rules.specs.Write.{first_place, in_run, would_be, touched, bad_item, some_bad, stop_of, stop_place, stop_side, run_stores}
use Rattle.meter_rules.proofs.Judging.{run_above}
use Rattle.meter_rules.proofs.Stopping.{stores_to, run_below, stops_at}
use Rattle.meter_rules.proofs.Keeping as keeping
use Rattle.meter_rules.proofs.Soundness.{open_write, stores_to_stop, stores_to_end}
use Rattle.meter_rules.proofs.Soundness as soundness
use Rattle.plain.specs.Numbers.{byte, word, Bytes}
use Rattle.plain.specs.Sheet.{ItemRow}
use Rattle.plain.specs.Frame as plain
use Rattle.plain.specs.Frame.{Touches, ValueWouldBe, Within, Fate, silence, error, good, Gets}
use Rattle.plain.specs.Left as left
use Rattle.plain.specs.Left.{LetThrough, Stored, Clears, WordLeft}
use Rattle.plain.proofs.Rows.{word_same, item_row_lem, row_item}
use Rattle.plain.proofs.Conditions.{Tells, whole_tells, station_tells, allowed_tells, length_tells, count_tells}
use Rattle.plain.proofs.Addresses.{registers_same, address_tells, which}
use Rattle.plain.proofs.Fates.{unmet, judged_fate, gets_judged, judged_gets}
use Rattle.plain.proofs.Values.{within_so, so_within, sent_same, goes_at, in_goes, value_so, so_value, touches_so, so_touches}

-- ---- a write that is let through

module _ (given : Lent) (frame : List ℕ) (passed : Passed given) (all : all_open Write given.sheet (run frame) ≡ true) where
  abbrev first : ℕ
  first = first_place given.sheet frame

  -- up to where the write stores
  abbrev stop : ℕ
  stop = keeping.stop given frame passed all

  abbrev would : ℕ → ℕ
  would = would_be first (count frame) given.bank frame

  -- an item that would be out of range stands at the stop or behind it
  bad_behind : (item : Item) → Among item (items given.sheet) → touched first (count frame) item ≡ true → good_by would item ≡ false → stop ≤ item.place
  unfolding bad_item
  bad_behind item m touch unfit = go (ltb item.place stop) refl
    where
      go : (front : Bool) → ltb item.place stop ≡ front → stop ≤ item.place
      go false e = ltb-false item.place stop e
      go true e =
          absurd (false≢true (sym (keeping.front_fine given frame passed all m (ltb-true item.place stop e))
          ∙ ap₂ ◌&&◌ touch (ap not unfit)))

  in_front_lem : (place : ℕ) → place < stop → (kind at low high value : ℕ) → ItemRow given.sheet kind at low high → Touches given.sheet frame kind at
      → ValueWouldBe given frame at value kind → (Within kind low high value → ⊥) → place < at
  unfolding good_by in_range
  in_front_lem place less kind at low high value row touch is outside =
      let item : Item = record { kind = kind; place = at; low = low; high = high } in
      omega (
        arith,
        less,
        bad_behind item (row_item given.sheet row) (touches_so given frame passed.right all item touch)
            (unfit (in_range kind low high (value_by would item)) refl),
      )
    where
      unfit : (b : Bool) → in_range kind low high (value_by would record { kind = kind; place = at; low = low; high = high }) ≡ b
          → in_range kind low high (value_by would record { kind = kind; place = at; low = low; high = high }) ≡ false
      unfit false e = e
      unfit true e =
          absurd (outside (within_so kind low high value
          (ap (in_range kind low high) (value_so given frame passed.right all record { kind = kind; place = at; low = low; high = high } value is) ∙ e)))

  -- a place that is stored stands in front of the stop
  stored_front : (k place : ℕ) → Stored given frame k place → place < stop
  unfolding stop_of bad_item good_by in_range
  stored_front k place is = go (keeping.stop_at first (count frame) given.bank frame (items given.sheet))
    where
      go : (stop_of given frame ≡ None)
          ⊎ ((item : Item) × Among item (items given.sheet) × (bad_item first (count frame) given.bank frame item ≡ true)
          × (stops_at first (count frame) given.bank frame item ≡ stop_of given frame))
          → place < stop
      go (inl end) = omega (arith, ap (stores_to (first + count frame)) end, goes_at given frame passed.right all k place is.goes, is.goes.0, registers_same frame)
      go (inr (item, m, bad, at)) =
          let touch = first_of (touched first (count frame) item) (not (good_by would item)) bad in
          let unfit = not-true (good_by would item) (second_of_lem (touched first (count frame) item) (not (good_by would item)) bad) in
          omega (
            arith,
            ap (stores_to (first + count frame)) at,
            is.in_front item.kind item.place item.low item.high (value_by would item) (item_row_lem given.sheet item m)
                (so_touches given frame passed.right all item touch) (so_value given frame passed.right all item)
                (λ within. false≢true (sym unfit ∙ so_within item.kind item.low item.high (value_by would item) within)),
          )

  module _ (through : LetThrough given frame) (place : ℕ) where
    write_left : (Clears given frame place → ⊥) → WordLeft given frame place (word (stored given.bank (run_stores frame first stop)) (2 * place))
    write_left unclear = subst (WordLeft given frame place) (sym is) (go (in_run first (stop - first) place) refl)
      where
        is : word (stored given.bank (run_stores frame first stop)) (2 * place) ≡ would_be first (stop - first) given.bank frame place
        is = word_same (stored given.bank (run_stores frame first stop)) (2 * place) ∙ keeping.written given frame passed all place

        go : (b : Bool) → in_run first (stop - first) place ≡ b → WordLeft given frame place (cond b (sent frame (place - first)) (word_of given.bank place))
        go true e =
            let low = run_above first (stop - first) place e in
            let high = run_below first (stop - first) place e in
            let bound = keeping.bound given frame passed all in
            let inside : in_run first (count frame) place ≡ true =
            ap₂ ◌&&◌ (le-leb first place low) (lt-ltb place (first + count frame) (omega arith)) in
            left.stored (place - first)
            record { through = through; goes = in_goes given frame passed.right all place inside; in_front = in_front_lem place (omega arith) }
            (sym (sent_same frame (place - first)))
        go false e =
            left.as_before
            (λ k is. let front = stored_front k place is in
            let at = goes_at given frame passed.right all k place is.goes in
            false≢true (sym e ∙ ap₂ ◌&&◌ (le-leb first place (omega (arith, at))) (lt-ltb place (first + (stop - first)) (omega (arith, at, front)))))
            unclear (sym (word_same given.bank (2 * place)))

-- ---- every frame

is_good : Fate → Bool
is_good silence = false
is_good (error code) = false
is_good good = true

module _ (given : Lent) (frame : List ℕ) (passed : Passed given) (bytes : Bytes given.sheet) where
  abbrev left_by_lem : Judged → List ℕ
  left_by_lem judged = stored given.bank (stores_of judged given.sheet frame)

  -- a frame that is not good clears nothing
  unclear : (place : ℕ) → is_good (judged_fate given frame passed.right bytes) ≡ false → Clears given frame place → ⊥
  unfolding is_good
  unclear place e clears = true≢false (ap is_good (gets_judged given frame passed.right bytes clears.0) ∙ e)

  kept : (place : ℕ) → ((k : ℕ) → Stored given frame k place → ⊥) → (Clears given frame place → ⊥)
      → WordLeft given frame place (word given.bank (2 * place))
  kept place none unclear = left.as_before none unclear refl

  not_write : (code : ℕ) → (code ≡ 0x06 → ⊥) → (code ≡ 0x10 → ⊥) → function frame ≡ code → {k place : ℕ} → Stored given frame k place → ⊥
  not_write code one many is stores = go stores.through.writes
    where
      go : (byte frame 1 ≡ 0x06) ⊎ (byte frame 1 ≡ 0x10) → ⊥
      go (inl e) = one (sym is ∙ e)
      go (inr e) = many (sym is ∙ e)

  let_through : fails_check frame ≡ false → other_station given frame ≡ false → function_not_allowed given.sheet frame ≡ false → wrong_length frame ≡ false
      → wrong_count given.sheet frame ≡ false → wrong_address given frame ≡ false → is_write frame ≡ true → LetThrough given frame
  let_through p q r s t u write =
      record {
        whole = (whole_tells frame).right p;
        ours = (station_tells given frame).right q;
        allowed = (allowed_tells given.sheet frame).right r;
        long = (length_tells frame).right s;
        counted = (count_tells given.sheet frame).right t;
        addressed = (address_tells given passed.right bytes frame).right u;
        writes = which frame write;
      }

  pub words_left : (place : ℕ) → WordLeft given frame place (word (left_by_lem (judged_frame given frame)) (2 * place))
  unfolding judged_frame first_case stores_of stored is_good
  words_left place =
      go (fails_check frame) (other_station given frame) (function_not_allowed given.sheet frame) (wrong_length frame) (wrong_count given.sheet frame)
      (wrong_address given frame) (wrong_value frame) (bad_write given frame) refl refl refl refl refl refl refl refl
    where
      placed : Tells (wrong_address given frame) (plain.RightAddress given frame)
      placed = address_tells given passed.right bytes frame

      good_left : (read clear : Bool) → eqb (function frame) 0x03 ≡ read → eqb (function frame) 0x05 ≡ clear
          → ((is_write frame ≡ true) → LetThrough given frame) → function_not_allowed given.sheet frame ≡ false → wrong_address given frame ≡ false
          → bad_write given frame ≡ false → Gets given frame good
          → WordLeft given frame place
          (word (left_by_lem (cond read (good_read given frame)
          (cond clear GoodClear (GoodWrite (first_place given.sheet frame) (count frame))))) (2 * place))
      good_left true clear r c through p f h fine = reading (starts_in_records given.sheet frame)
        where
          as_before_lem : WordLeft given frame place (word given.bank (2 * place))
          as_before_lem =
              kept place (λ k is. not_write 0x03 (λ e. omega (arith, e)) (λ e. omega (arith, e)) (eqb-true (function frame) 0x03 r) is)
              (λ clears. omega (arith, clears.1, eqb-true (function frame) 0x03 r))

          reading : (inside : Bool) → WordLeft given frame place
              (word (left_by_lem (cond inside (GoodRecord (asked_start given frame) (record_area given.sheet).words)
              (GoodRead (first_place given.sheet frame) (count frame)))) (2 * place))
          reading true = as_before_lem
          reading false = as_before_lem
      good_left false true r c through p f h fine = mark_left (eqb place (word given.sheet 10)) refl
        where
          mark_left : (at : Bool) → eqb place (word given.sheet 10) ≡ at → WordLeft given frame place (word (stored given.bank (mark_stores given.sheet 0)) (2 * place))
          mark_left true e =
              let is = eqb-true place (word given.sheet 10) e in
              left.cleared (fine, eqb-true (function frame) 0x05 c, is)
              (word_same (stored given.bank (mark_stores given.sheet 0)) (2 * place)
              ∙ ap (word_of (stored given.bank (mark_stores given.sheet 0))) (is ∙ word_same given.sheet 10)
              ∙ mark_there given.sheet given.bank passed.right passed.fitting 0)
          mark_left false e =
              subst (WordLeft given frame place)
              (word_same given.bank (2 * place)
              ∙ sym (mark_apart given.sheet given.bank passed.right passed.fitting 0 place
              (λ same. eqb-false place (word given.sheet 10) e (sym same ∙ sym (word_same given.sheet 10))))
              ∙ sym (word_same (stored given.bank (mark_stores given.sheet 0)) (2 * place)))
              (kept place (λ k is. not_write 0x05 (λ e. omega (arith, e)) (λ e. omega (arith, e)) (eqb-true (function frame) 0x05 c) is)
              (λ clears. eqb-false place (word given.sheet 10) e clears.2))
      good_left false false r c through p f h fine =
          let write = soundness.writes given.sheet frame (not-false (function_allowed given.sheet frame) p) r c in
          let opened = open_write given frame write f in
          let none = ap (λ (b : Bool). b && some_bad given frame) (sym write) ∙ h in
          subst (λ (n : ℕ). WordLeft given frame place (word (stored given.bank (run_stores frame (first_place given.sheet frame) n)) (2 * place)))
          (stores_to_end given frame none)
          (write_left given frame passed opened.all (through write) place
          (λ clears. true≢false (sym (eq-eqb (function frame) 0x05 clears.1) ∙ c)))

      go : (a b c d e f g h : Bool) → fails_check frame ≡ a → other_station given frame ≡ b → function_not_allowed given.sheet frame ≡ c → wrong_length frame ≡ d
          → wrong_count given.sheet frame ≡ e → wrong_address given frame ≡ f → wrong_value frame ≡ g → bad_write given frame ≡ h
          → WordLeft given frame place
          (word (left_by_lem (first_case (when a FailsCheck ∷ when b OtherStation ∷ when c FunctionNotAllowed ∷ when d WrongLength ∷ when e WrongCount
          ∷ when f WrongAddress ∷ when g WrongValue ∷ when h (BadItem (first_place given.sheet frame) (stop_place given frame) (stop_side given frame)) ∷ [])
          (good_frame given frame))) (2 * place))
      go true b c d e f g h p q r s t u v w =
          kept place (λ k is. unmet (whole_tells frame) p is.through.whole) (unclear place (simp p))
      go false true c d e f g h p q r s t u v w =
          kept place (λ k is. unmet (station_tells given frame) q is.through.ours) (unclear place (simp (p, q)))
      go false false true d e f g h p q r s t u v w =
          kept place (λ k is. unmet (allowed_tells given.sheet frame) r is.through.allowed) (unclear place (simp (p, q, r)))
      go false false false true e f g h p q r s t u v w =
          kept place (λ k is. unmet (length_tells frame) s is.through.long) (unclear place (simp (p, q, r, s)))
      go false false false false true f g h p q r s t u v w =
          kept place (λ k is. unmet (count_tells given.sheet frame) t is.through.counted) (unclear place (simp (p, q, r, s, t)))
      go false false false false false true g h p q r s t u v w =
          kept place (λ k is. unmet placed u is.through.addressed) (unclear place (simp (p, q, r, s, t, u)))
      go false false false false false false true h p q r s t u v w =
          kept place
          (λ k is. not_write 0x05 (λ e. omega (arith, e)) (λ e. omega (arith, e))
          (eqb-true (function frame) 0x05 (first_of (eqb (function frame) 0x05) (not (eqb (second frame) 0)) v)) is)
          (unclear place (simp (p, q, r, s, t, u, v)))
      go false false false false false false false true p q r s t u v w =
          let write = first_of (is_write frame) (some_bad given frame) w in
          subst (λ (n : ℕ). WordLeft given frame place (word (stored given.bank (run_stores frame (first_place given.sheet frame) n)) (2 * place)))
          (stores_to_stop given frame (second_of_lem (is_write frame) (some_bad given frame) w))
          (write_left given frame passed (open_write given frame write u).all (let_through p q r s t u write) place
          (unclear place (simp (p, q, r, s, t, u, v, w))))
      go false false false false false false false false p q r s t u v w =
          good_left (eqb (function frame) 0x03) (eqb (function frame) 0x05) refl refl (let_through p q r s t u) r u w
          (subst (Gets given frame) (simp (p, q, r, s, t, u, v, w)) (judged_gets given frame passed.right bytes))
