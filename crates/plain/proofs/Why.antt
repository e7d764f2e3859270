-- The reason by the ordered facts is the reason in plain numbers: what is told is so, and nothing else is so. And what goes out follows from
-- the reason, both ways. Assumes nothing.
use mathlib.Core.Path.{◌≡◌, refl, sym, ap, ap₂, subst, ◌∙◌}
use mathlib.Core.Bool.{Bool, true, false, not, ◌&&◌, ◌||◌, or-true}
use mathlib.Core.List.{List, [], ◌∷◌}
use mathlib.Core.Logic.{◌⊎◌, inl, inr}
use Prim.Native.Nat.{ℕ}
use native.Mathlib.Omega.{arith}
use lib.Dec.{eqb}
use lib.ListN.{length}
use borrow.Author.Tests.{eqb-true, eqb-false, eq-eqb, ne_eqb, lt-ltb, ltb-true, not-true}
use Rattle.std.specs.Prelude.{Option, None, Some}
use Rattle.lists.specs.Cases.{Case, when, first_case}
use Rattle.lists.proofs.Tests.{first_of, second_of_lem}
use Rattle.sheet_rules.specs.declared.Purpose.TheVariants.{Write}
use Rattle.sheet_rules.specs.Runs.{all_open}
use Rattle.bank_rules.specs.Calls.{Lent}
use Rattle.bank_rules.proofs.Changes.{Passed}
use Rattle.frame.specs.Frame.{function, second, is_write, run}
use Rattle.meter_rules.specs.Steps.{other_station, function_not_allowed, wrong_length, wrong_count, wrong_address, wrong_value, bad_write}
use Rattle.meter_rules.specs.Write.{some_bad}
use Rattle.meter_rules.proofs.Order.{write_value, write_bad}
use Rattle.meter_rules.proofs.Soundness.{open_write}
use Rattle.why_rules.specs.Facts.{too_short, too_long, check_differs, reads_too_many, bad_count, shut_address, first_bad_address, first_bad_item, first_bad_side}
use Rattle.why_rules.specs.Reasons.{reason_number, reason_address, reason_side, reason_of}
use Rattle.why_rules.proofs.Parts.{wrong_address_lem}
use Rattle.why_rules.specs.declared.Reason.{Reason}
use Rattle.why_rules.specs.declared.Reason.TheVariants.{TooShort, TooLong, Check, Station, Function, BodyLength, Count, Address, ClearValue, Item}
use Rattle.plain.specs.Numbers.{Bytes}
use Rattle.plain.specs.Frame as plain
use Rattle.plain.specs.Frame.{Whole, RightCount, RightAddress, Fate, silence, error, good, Gets}
use Rattle.plain.specs.Why.{ReadsTooMany, AsFunction, AsCount, FirstBadAddress, of_run, of_record, of_clear, Why, by_none, by_too_short, by_too_long, by_check, by_station, by_function, by_body_length, by_count, by_address, by_clear_value, by_item, GoesOut}
use Rattle.plain.proofs.Rows.{word_same}
use Rattle.plain.proofs.Conditions.{station_tells, allowed_tells, length_tells, count_tells, neither_first, neither_second, neither}
use Rattle.plain.proofs.Addresses.{address_tells, writes}
use Rattle.plain.proofs.Values.{misses_outside, value_tells}
use Rattle.plain.proofs.FirstBad.{short_tells, long_tells, check_tells, many_so, so_many, many_tells, first_address_so, so_first_address, first_item_so, so_first_item}
use Rattle.plain.proofs.Fates.{fails, unmet, one_fate}

-- what goes out by the number of a reason
data Out (sheet frame : List ℕ) : ℕ → Fate → Type 0 where
  after_none : Out sheet frame 0 good
  after_too_short : Out sheet frame 1 silence
  after_too_long : Out sheet frame 2 silence
  after_check : Out sheet frame 3 silence
  after_station : Out sheet frame 4 silence
  after_function : Out sheet frame 5 (error 1)
  after_body_length : Out sheet frame 6 silence
  after_too_many : ReadsTooMany sheet frame → Out sheet frame 7 (error 2)
  after_count : (ReadsTooMany sheet frame → ⊥) → Out sheet frame 7 (error 3)
  after_address : Out sheet frame 8 (error 2)
  after_clear_value : Out sheet frame 9 (error 3)
  after_item : Out sheet frame 10 (error 3)

module _ (given : Lent) (frame : List ℕ) (passed : Passed given) (bytes : Bytes given.sheet) where
  -- what the facts say where they do not hold

  whole_by_facts : too_short frame ≡ false → too_long frame ≡ false → check_differs frame ≡ false → Whole frame
  whole_by_facts a b c = record { least = (short_tells frame).right a; most = (long_tells frame).right b; check = (check_tells frame).right c }

  no_wrong_address : bad_count given.sheet frame ≡ false → shut_address given frame ≡ false → wrong_address given frame ≡ false
  no_wrong_address few fine =
      wrong_address_lem given frame ∙ neither (neither_second (wrong_count given.sheet frame) (reads_too_many given.sheet frame) few) fine

  address_by_facts : bad_count given.sheet frame ≡ false → shut_address given frame ≡ false → RightAddress given frame
  address_by_facts few fine = (address_tells given passed.right bytes frame).right (no_wrong_address few fine)

  open_by_facts : bad_count given.sheet frame ≡ false → shut_address given frame ≡ false → is_write frame ≡ true → all_open Write given.sheet (run frame) ≡ true
  open_by_facts few fine write = (open_write given frame write (no_wrong_address few fine)).all

  count_by_facts : AsFunction given frame → wrong_length frame ≡ false → bad_count given.sheet frame ≡ false → AsCount given frame
  count_by_facts function long few =
      record {
        function = function;
        long = (length_tells frame).right long;
        counted = (count_tells given.sheet frame).right (neither_first (wrong_count given.sheet frame) (reads_too_many given.sheet frame) few);
        few = (many_tells given.sheet frame).right (neither_second (wrong_count given.sheet frame) (reads_too_many given.sheet frame) few);
      }

  -- ---- what is told is so

  -- a reason, in plain numbers
  abbrev Plainly : Option Reason → Type 0
  Plainly reason = Why given frame (reason_number reason) (reason_address reason) (reason_side reason)

  pub why_so : Why given frame (reason_number (reason_of given frame)) (reason_address (reason_of given frame)) (reason_side (reason_of given frame))
  unfolding reason_of first_case
  why_so =
      go (too_short frame) (too_long frame) (check_differs frame) (other_station given frame) (function_not_allowed given.sheet frame) (wrong_length frame)
      (bad_count given.sheet frame) (shut_address given frame) (wrong_value frame) (bad_write given frame) refl refl refl refl refl refl refl refl refl refl
    where
      as_function : too_short frame ≡ false → too_long frame ≡ false → check_differs frame ≡ false → other_station given frame ≡ false
          → function_not_allowed given.sheet frame ≡ false → AsFunction given frame
      as_function p q r s t =
          record { whole = whole_by_facts p q r; ours = (station_tells given frame).right s; allowed = (allowed_tells given.sheet frame).right t }

      either : (wrong many : Bool) → wrong_count given.sheet frame ≡ wrong → reads_too_many given.sheet frame ≡ many → (wrong || many) ≡ true → (RightCount given.sheet frame → ⊥) ⊎ ReadsTooMany given.sheet frame
      either true many w m e = inl (unmet (count_tells given.sheet frame) w)
      either false many w m e = inr (many_so given.sheet frame (m ∙ e))

      go : (a b c d e f g h i j : Bool) → too_short frame ≡ a → too_long frame ≡ b → check_differs frame ≡ c → other_station given frame ≡ d
          → function_not_allowed given.sheet frame ≡ e → wrong_length frame ≡ f → bad_count given.sheet frame ≡ g → shut_address given frame ≡ h
          → wrong_value frame ≡ i → bad_write given frame ≡ j
          → Plainly (first_case (when a (Some TooShort) ∷ when b (Some TooLong) ∷ when c (Some Check) ∷ when d (Some Station) ∷ when e (Some Function) ∷ when f (Some BodyLength) ∷ when g (Some Count)
          ∷ when h (Some (Address (first_bad_address given.sheet frame))) ∷ when i (Some ClearValue) ∷ when j (Some (Item (first_bad_item given frame) (first_bad_side given frame))) ∷ []) None)
      go true b c d e f g h i j p q r s t u v w x y = by_too_short (ltb-true (length frame) 4 p)
      go false true c d e f g h i j p q r s t u v w x y = by_too_long (ltb-true 100 (length frame) q)
      go false false true d e f g h i j p q r s t u v w x y =
          by_check ((short_tells frame).right p) ((long_tells frame).right q) (unmet (check_tells frame) r)
      go false false false true e f g h i j p q r s t u v w x y = by_station (whole_by_facts p q r) (unmet (station_tells given frame) s)
      go false false false false true f g h i j p q r s t u v w x y =
          by_function (whole_by_facts p q r) ((station_tells given frame).right s) (unmet (allowed_tells given.sheet frame) t)
      go false false false false false true g h i j p q r s t u v w x y = by_body_length (as_function p q r s t) (unmet (length_tells frame) u)
      go false false false false false false true h i j p q r s t u v w x y =
          by_count (as_function p q r s t) ((length_tells frame).right u) (either (wrong_count given.sheet frame) (reads_too_many given.sheet frame) refl refl v)
      go false false false false false false false true i j p q r s t u v w x y =
          by_address (count_by_facts (as_function p q r s t) u v) (first_address_so given frame passed.right bytes (neither_first (wrong_count given.sheet frame) (reads_too_many given.sheet frame) v) w)
      go false false false false false false false false true j p q r s t u v w x y =
          by_clear_value (count_by_facts (as_function p q r s t) u v) (address_by_facts v w)
          (eqb-true (function frame) 0x05 (first_of (eqb (function frame) 0x05) (not (eqb (second frame) 0)) x))
          (λ e. eqb-false (second frame) 0 (not-true (eqb (second frame) 0) (second_of_lem (eqb (function frame) 0x05) (not (eqb (second frame) 0)) x))
          (sym (word_same frame 4) ∙ e))
      go false false false false false false false false false true p q r s t u v w x y =
          let write = first_of (is_write frame) (some_bad given frame) y in
          by_item (count_by_facts (as_function p q r s t) u v) (address_by_facts v w)
          (first_item_so given frame passed write (open_by_facts v w write) (second_of_lem (is_write frame) (some_bad given frame) y))
      go false false false false false false false false false false p q r s t u v w x y =
          let as_count = count_by_facts (as_function p q r s t) u v in
          by_none (plain.all_right as_count.function.whole as_count.function.ours as_count.function.allowed as_count.long as_count.counted (address_by_facts v w)
          ((value_tells given frame passed.right (open_by_facts v w)).right (neither x y)))

  -- ---- and nothing else is so

  few_so : AsCount given frame → bad_count given.sheet frame ≡ false
  few_so is = neither ((count_tells given.sheet frame).wrongly is.counted) ((many_tells given.sheet frame).wrongly is.few)

  fine_so : AsCount given frame → RightAddress given frame → shut_address given frame ≡ false
  fine_so is right =
      neither_second (reads_too_many given.sheet frame) (shut_address given frame)
      (sym (wrong_address_lem given frame) ∙ (address_tells given passed.right bytes frame).wrongly right)

  -- the facts that are left for a frame that passed as far as its function, and as far as its count
  abbrev behind_count : List (Case (Option Reason))
  behind_count =
      when (shut_address given frame) (Some (Address (first_bad_address given.sheet frame))) ∷ when (wrong_value frame) (Some ClearValue)
      ∷ when (bad_write given frame) (Some (Item (first_bad_item given frame) (first_bad_side given frame))) ∷ []

  at_function : AsFunction given frame → reason_of given frame ≡ first_case (when (wrong_length frame) (Some BodyLength) ∷ when (bad_count given.sheet frame) (Some Count) ∷ behind_count) None
  unfolding reason_of first_case
  at_function is =
      simp (
        (short_tells frame).wrongly is.whole.least,
        (long_tells frame).wrongly is.whole.most,
        (check_tells frame).wrongly is.whole.check,
        (station_tells given frame).wrongly is.ours,
        (allowed_tells given.sheet frame).wrongly is.allowed,
      )

  at_count : AsCount given frame → reason_of given frame ≡ first_case behind_count None
  unfolding first_case
  at_count is = at_function is.function ∙ simp ((length_tells frame).wrongly is.long, few_so is)

  -- the reason that plain numbers give is the one by the facts
  reason_is : {number at side : ℕ} → Why given frame number at side
      → (reason : Option Reason) × (reason_of given frame ≡ reason) × (number ≡ reason_number reason) × (at ≡ reason_address reason) × (side ≡ reason_side reason)
  unfolding reason_of first_case
  reason_is (by_too_short short) = (Some TooShort, simp (lt-ltb (length frame) 4 short), refl, refl, refl)
  reason_is (by_too_long long) =
      (Some TooLong, simp ((short_tells frame).wrongly (omega (arith, long)), lt-ltb 100 (length frame) long), refl, refl, refl)
  reason_is (by_check least most differs) =
      (Some Check, simp ((short_tells frame).wrongly least, (long_tells frame).wrongly most, fails (check_tells frame) differs), refl, refl, refl)
  reason_is (by_station whole other) = (
    Some Station,
    simp (
      (short_tells frame).wrongly whole.least,
      (long_tells frame).wrongly whole.most,
      (check_tells frame).wrongly whole.check,
      fails (station_tells given frame) other,
    ),
    refl,
    refl,
    refl,
  )
  reason_is (by_function whole ours denied) = (
    Some Function,
    simp (
      (short_tells frame).wrongly whole.least,
      (long_tells frame).wrongly whole.most,
      (check_tells frame).wrongly whole.check,
      (station_tells given frame).wrongly ours,
      fails (allowed_tells given.sheet frame) denied,
    ),
    refl,
    refl,
    refl,
  )
  reason_is (by_body_length is wrong) = (Some BodyLength, at_function is ∙ simp (fails (length_tells frame) wrong), refl, refl, refl)
  reason_is (by_count is long wrong) = (Some Count, at_function is ∙ simp ((length_tells frame).wrongly long, bad wrong), refl, refl, refl)
    where
      bad : (RightCount given.sheet frame → ⊥) ⊎ ReadsTooMany given.sheet frame → bad_count given.sheet frame ≡ true
      bad (inl wrong) = ap (λ (b : Bool). b || reads_too_many given.sheet frame) (fails (count_tells given.sheet frame) wrong)
      bad (inr many) = ap (λ (b : Bool). wrong_count given.sheet frame || b) (so_many given.sheet frame many) ∙ or-true (wrong_count given.sheet frame)
  reason_is (by_address is first) =
      let shut = so_first_address given frame passed.right bytes ((count_tells given.sheet frame).wrongly is.counted) first in
      (Some (Address (first_bad_address given.sheet frame)), at_count is ∙ simp shut.0, refl, sym shut.1, refl)
  reason_is (by_clear_value is right clear other) =
      let wrong = ap₂ (λ (a b : Bool). a && not b) (eq-eqb (function frame) 0x05 clear) (ne_eqb (second frame) 0 (λ e. other (word_same frame 4 ∙ e))) in
      (Some ClearValue, at_count is ∙ simp (fine_so is right, wrong), refl, refl, refl)
  reason_is (by_item is right first) =
      let write = writes frame first.writes in
      let found = so_first_item given frame passed write (open_by_facts (few_so is) (fine_so is right) write) first in (
        Some (Item (first_bad_item given frame) (first_bad_side given frame)),
        at_count is ∙ simp (fine_so is right, write_value frame write, write_bad frame write given ∙ found.0),
        refl,
        sym found.1,
        sym found.2,
      )
  reason_is (by_none (plain.all_right whole ours allowed long counted right values)) =
      let is : AsCount given frame = record {
        function = record { whole = whole; ours = ours; allowed = allowed };
        long = long;
        counted = counted;
        few = λ many. omega (arith, right.at_most47 many.0 many.2, many.1);
      } in
      let none = (value_tells given frame passed.right (open_by_facts (few_so is) (fine_so is right))).wrongly values in (
        None,
        at_count is
            ∙ simp (
              fine_so is right,
              neither_first (wrong_value frame) (bad_write given frame) none,
              neither_second (wrong_value frame) (bad_write given frame) none,
            ),
        refl,
        refl,
        refl,
      )

  pub why_is : {number at side : ℕ} → Why given frame number at side
      → (number ≡ reason_number (reason_of given frame)) × (at ≡ reason_address (reason_of given frame)) × (side ≡ reason_side (reason_of given frame))
  why_is why =
      let found = reason_is why in
      (found.2 ∙ ap reason_number (sym found.1), found.3 ∙ ap reason_address (sym found.1), found.4 ∙ ap reason_side (sym found.1))

  -- ---- rule Y4: what goes out

  -- a read of too many has a count that is right by itself
  many_right : ReadsTooMany given.sheet frame → RightCount given.sheet frame
  many_right many =
      record { of_read = λ is. omega (arith, many.1); of_record = λ is one. absurd (many.2 one); of_many = λ is. absurd (omega (arith, many.0, is)) }

  not_right : RightAddress given frame → {at : ℕ} → FirstBadAddress given frame at → ⊥
  not_right right (of_run none k less shut front) =
      shut record { read = λ is. right.read is (none is) k less; written = λ is. right.written is k less }
  not_right right (of_record is number many words one beyond) = omega (arith, beyond, right.recorded is number many words one)
  not_right right (of_clear is elsewhere) = elsewhere (right.cleared is)

  -- a frame gets what goes out by its reason
  why_gets : {number at side : ℕ} → Why given frame number at side → (fate : Fate) × Gets given frame fate × Out given.sheet frame number fate
  why_gets (by_none gets) = (good, gets, after_none)
  why_gets (by_too_short short) = (silence, plain.not_whole (λ whole. omega (arith, whole.least, short)), after_too_short)
  why_gets (by_too_long long) = (silence, plain.not_whole (λ whole. omega (arith, whole.most, long)), after_too_long)
  why_gets (by_check least most differs) = (silence, plain.not_whole (λ whole. differs whole.check), after_check)
  why_gets (by_station whole other) = (silence, plain.other_station whole other, after_station)
  why_gets (by_function whole ours denied) = (error 1, plain.not_allowed whole ours denied, after_function)
  why_gets (by_body_length is wrong) = (silence, plain.wrong_length is.whole is.ours is.allowed wrong, after_body_length)
  why_gets (by_count is long wrong) = go wrong
    where
      go : (RightCount given.sheet frame → ⊥) ⊎ ReadsTooMany given.sheet frame → (fate : Fate) × Gets given frame fate × Out given.sheet frame 7 fate
      go (inl wrong) = (error 3, plain.wrong_count is.whole is.ours is.allowed long wrong, after_count (λ many. wrong (many_right many)))
      go (inr many) = (
        error 2,
        plain.wrong_address is.whole is.ours is.allowed long (many_right many) (λ right. omega (arith, right.at_most47 many.0 many.2, many.1)),
        after_too_many many,
      )
  why_gets (by_address is first) = (
    error 2,
    plain.wrong_address is.function.whole is.function.ours is.function.allowed is.long is.counted (λ right. not_right right first),
    after_address,
  )
  why_gets (by_clear_value is right clear other) = (
    error 3,
    plain.wrong_value is.function.whole is.function.ours is.function.allowed is.long is.counted right (λ values. other (values.of_clear clear)),
    after_clear_value,
  )
  why_gets (by_item is right first) = (
    error 3,
    plain.wrong_value is.function.whole is.function.ours is.function.allowed is.long is.counted right
        (λ values. misses_outside first.kind first.low first.high first.value first.missed (values.of_items first.writes first.kind first.place first.low first.high first.value first.row first.touched
        first.its_value)),
    after_item,
  )

  -- and by one number one thing goes out
  out_once : {number : ℕ} {one other : Fate} → Out given.sheet frame number one → Out given.sheet frame number other → one ≡ other
  out_once after_none after_none = refl
  out_once after_too_short after_too_short = refl
  out_once after_too_long after_too_long = refl
  out_once after_check after_check = refl
  out_once after_station after_station = refl
  out_once after_function after_function = refl
  out_once after_body_length after_body_length = refl
  out_once (after_too_many many) (after_too_many again) = refl
  out_once (after_too_many many) (after_count few) = absurd (few many)
  out_once (after_count few) (after_too_many many) = absurd (few many)
  out_once (after_count few) (after_count again) = refl
  out_once after_address after_address = refl
  out_once after_clear_value after_clear_value = refl
  out_once after_item after_item = refl

  -- by what goes out, which reasons there can be
  after_good : {number : ℕ} → Out given.sheet frame number good → number ≡ 0
  after_good after_none = refl

  after_silence : {number : ℕ} → Out given.sheet frame number silence → (number ≡ 1) ⊎ (number ≡ 2) ⊎ (number ≡ 3) ⊎ (number ≡ 4) ⊎ (number ≡ 6)
  after_silence after_too_short = inl refl
  after_silence after_too_long = inr (inl refl)
  after_silence after_check = inr (inr (inl refl))
  after_silence after_station = inr (inr (inr (inl refl)))
  after_silence after_body_length = inr (inr (inr (inr refl)))

  after_one : {number : ℕ} → Out given.sheet frame number (error 1) → number ≡ 5
  after_one after_function = refl

  after_two : {number : ℕ} → Out given.sheet frame number (error 2) → (number ≡ 8) ⊎ ((number ≡ 7) × ReadsTooMany given.sheet frame)
  after_two (after_too_many many) = inr (refl, many)
  after_two after_address = inl refl

  after_three : {number : ℕ} → Out given.sheet frame number (error 3) → ((number ≡ 7) × (ReadsTooMany given.sheet frame → ⊥)) ⊎ (number ≡ 9) ⊎ (number ≡ 10)
  after_three (after_count few) = inl (refl, few)
  after_three after_clear_value = inr (inl refl)
  after_three after_item = inr (inr refl)

  module _ {number at side : ℕ} (why : Why given frame number at side) where
    out : {fate : Fate} → Gets given frame fate → Out given.sheet frame number fate
    out gets =
        let found = why_gets why in
        subst (Out given.sheet frame number) (one_fate given frame passed.right bytes found.1 gets) found.2

    gets : {fate : Fate} → {is : ℕ} → number ≡ is → Out given.sheet frame is fate → Gets given frame fate
    gets {fate} e after =
        let found = why_gets why in
        subst (Gets given frame) (out_once found.2 (subst (λ (n : ℕ). Out given.sheet frame n fate) (sym e) after)) found.1

    pub goes_out : GoesOut given frame number
    goes_out =
        record {
          no_error = (λ g. after_good (out g), λ e. gets e after_none);
          silent = (λ g. after_silence (out g), quiet);
          error_one = (λ g. after_one (out g), λ e. gets e after_function);
          error_two = (λ g. after_two (out g), two);
          error_three = (λ g. after_three (out g), three);
        }
      where
        quiet : (number ≡ 1) ⊎ (number ≡ 2) ⊎ (number ≡ 3) ⊎ (number ≡ 4) ⊎ (number ≡ 6) → Gets given frame silence
        quiet (inl e) = gets e after_too_short
        quiet (inr (inl e)) = gets e after_too_long
        quiet (inr (inr (inl e))) = gets e after_check
        quiet (inr (inr (inr (inl e)))) = gets e after_station
        quiet (inr (inr (inr (inr e)))) = gets e after_body_length

        two : (number ≡ 8) ⊎ ((number ≡ 7) × ReadsTooMany given.sheet frame) → Gets given frame (error 2)
        two (inl e) = gets e after_address
        two (inr (e, many)) = gets e (after_too_many many)

        three : ((number ≡ 7) × (ReadsTooMany given.sheet frame → ⊥)) ⊎ (number ≡ 9) ⊎ (number ≡ 10) → Gets given frame (error 3)
        three (inl (e, few)) = gets e (after_count few)
        three (inr (inl e)) = gets e after_clear_value
        three (inr (inr e)) = gets e after_item
