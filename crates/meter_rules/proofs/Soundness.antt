-- A sound bank stays sound, whatever the call answers and whatever frame comes. Assumes nothing.
use mathlib.Core.Path.{◌≡◌, refl, sym, ap, ◌∙◌}
use mathlib.Core.Bool.{Bool, true, false, not, cond, ◌&&◌, ◌||◌, false≢true, true≢false}
use mathlib.Core.List.{List, [], ◌∷◌}
use Prim.Native.Nat.{ℕ, ◌+◌}
use lib.Dec.{eqb}
use borrow.Author.Tests.{eq-eqb, eqb-false}
use Rattle.std.specs.Prelude.{Option, None, Some}
use Rattle.sheet_rules.specs.Rows.{items, clear_address, record_area}
use Rattle.lists.proofs.Tests.{first_of, second_of_lem}
use Rattle.bank_rules.specs.Stores.{stored}
use Rattle.bank_rules.specs.Bank.{bank_sound}
use Rattle.bank_rules.specs.Calls.{Lent}
use Rattle.bank_rules.proofs.Changes.{Passed}
use Rattle.lists.specs.Cases.{when, first_case}
use Rattle.meter_rules.specs.declared.Judged.{Judged}
use Rattle.meter_rules.specs.declared.Judged.TheVariants.{FailsCheck, OtherStation, FunctionNotAllowed, WrongLength, WrongCount, WrongAddress, WrongValue, BadItem, GoodRead, GoodRecord, GoodClear, GoodWrite}
use Rattle.sheet_rules.specs.declared.Purpose.TheVariants.{Write}
use Rattle.frame.specs.Frame.{reads, clears, writes_one, writes_many, function, start, is_write, count, run}
use Rattle.meter_rules.specs.Steps.{starts_in_records, asked_start, wrong_read, good_read, function_allowed, fails_check, other_station, wrong_length, wrong_count, wrong_address, wrong_value, bad_write, good_frame, judged_frame}
use Rattle.sheet_rules.specs.Runs.{all_open}
use Rattle.meter_rules.specs.Write.{first_place, some_bad, stop_of, place_of_stop, stop_place, stop_side, run_stores}
use Rattle.meter_rules.specs.Reply.{stores_of}
use Rattle.meter_rules.specs.Answer.{acted_on, answer_outcome}
use Rattle.meter_rules.proofs.Order.{last_function}
use Rattle.meter_rules.proofs.Stopping.{stops, stores_to, stop_some}
use Rattle.meter_rules.proofs.Outcomes.{quiet, quiet_changes_nothing, outcome_cases}
use Rattle.meter_rules.proofs.Keeping.{write_sound, clear_sound}
use Rattle.meter_rules.specs.declared.Stop.{Stop}

-- ---- what is known of a frame that changes the bank

-- a write whose addresses are all open
pub record OpenWrite (sheet frame : List ℕ) : Type 0 where
  pub write : is_write frame ≡ true
  pub all : all_open Write sheet (run frame) ≡ true

open_of : (a w o c : Bool) → (a || w && not o || c) ≡ false → w ≡ true → o ≡ true
open_of true w o c e f = absurd (true≢false e)
open_of false w true c e f = refl
open_of false true false c e f = absurd (true≢false e)
open_of false false false c e f = f

pub open_write : (given : Lent) (frame : List ℕ) → is_write frame ≡ true → wrong_address given frame ≡ false → OpenWrite given.sheet frame
open_write given frame write right =
    record {
      write = write;
      all = open_of (eqb (function frame) reads && wrong_read given frame) (is_write frame) (all_open Write given.sheet (run frame))
          (eqb (function frame) clears && not (eqb (start frame) (clear_address given.sheet))) right write;
    }

module _ (sheet frame : List ℕ) where
  -- a function that is allowed, and neither reads nor clears, writes
  pub writes : function_allowed sheet frame ≡ true → eqb (function frame) reads ≡ false → eqb (function frame) clears ≡ false → is_write frame ≡ true
  writes permitted read clear = go (eqb (function frame) writes_one) refl
    where
      go : (one : Bool) → eqb (function frame) writes_one ≡ one → (one || eqb (function frame) writes_many) ≡ true
      go true e = refl
      go false e =
          eq-eqb (function frame) writes_many
          (last_function sheet (function frame) permitted (eqb-false (function frame) reads read) (eqb-false (function frame) clears clear)
          (eqb-false (function frame) writes_one e))

module _ (given : Lent) (frame : List ℕ) where
  -- what holds of each judgement that stores nothing, of a write with a bad item, of a good clear and of a good write holds of the frame's
  pub judged_cases : (P : Judged → Type 0) → ((judged : Judged) → quiet judged ≡ true → P judged)
      → (OpenWrite given.sheet frame → some_bad given frame ≡ true → P (BadItem (first_place given.sheet frame) (stop_place given frame) (stop_side given frame)))
      → P GoodClear
      → (OpenWrite given.sheet frame → some_bad given frame ≡ false → P (GoodWrite (first_place given.sheet frame) (count frame)))
      → P (judged_frame given frame)
  unfolding judged_frame first_case
  judged_cases P nothing stops clears-mark stores =
      go (fails_check frame) (other_station given frame) (function_allowed given.sheet frame) (wrong_length frame) (wrong_count given.sheet frame)
      (wrong_address given frame) (wrong_value frame) (bad_write given frame) refl refl refl
    where
      reading : (inside : Bool) → P (cond inside (GoodRecord (asked_start given frame) (record_area given.sheet).words)
          (GoodRead (first_place given.sheet frame) (count frame)))
      reading true = nothing (GoodRecord (asked_start given frame) (record_area given.sheet).words) refl
      reading false = nothing (GoodRead (first_place given.sheet frame) (count frame)) refl

      good : (read clear : Bool) → eqb (function frame) reads ≡ read → eqb (function frame) clears ≡ clear
          → function_allowed given.sheet frame ≡ true → wrong_address given frame ≡ false → bad_write given frame ≡ false
          → P (cond read (good_read given frame) (cond clear GoodClear (GoodWrite (first_place given.sheet frame) (count frame))))
      good true clear r c p f h = reading (starts_in_records given.sheet frame)
      good false true r c p f h = clears-mark
      good false false r c p f h =
          let write = writes given.sheet frame p r c in
          stores (open_write given frame write f) (ap (λ (b : Bool). b && some_bad given frame) (sym write) ∙ h)

      go : (a₁ a₂ a₃ a₄ a₅ a₆ a₇ a₈ : Bool) → function_allowed given.sheet frame ≡ a₃ → wrong_address given frame ≡ a₆ → bad_write given frame ≡ a₈
          → P (first_case (when a₁ FailsCheck ∷ when a₂ OtherStation ∷ when (not a₃) FunctionNotAllowed ∷ when a₄ WrongLength ∷ when a₅ WrongCount
          ∷ when a₆ WrongAddress ∷ when a₇ WrongValue ∷ when a₈ (BadItem (first_place given.sheet frame) (stop_place given frame) (stop_side given frame)) ∷ [])
          (good_frame given frame))
      go true a₂ a₃ a₄ a₅ a₆ a₇ a₈ p f h = nothing FailsCheck refl
      go false true a₃ a₄ a₅ a₆ a₇ a₈ p f h = nothing OtherStation refl
      go false false false a₄ a₅ a₆ a₇ a₈ p f h = nothing FunctionNotAllowed refl
      go false false true true a₅ a₆ a₇ a₈ p f h = nothing WrongLength refl
      go false false true false true a₆ a₇ a₈ p f h = nothing WrongCount refl
      go false false true false false true a₇ a₈ p f h = nothing WrongAddress refl
      go false false true false false false true a₈ p f h = nothing WrongValue refl
      go false false true false false false false true p f h =
          stops (open_write given frame (first_of (is_write frame) (some_bad given frame) h) f) (second_of_lem (is_write frame) (some_bad given frame) h)
      go false false true false false false false false p f h =
          good (eqb (function frame) reads) (eqb (function frame) clears) refl refl p f h

  pub some_stops : stops (stop_of given frame) ≡ some_bad given frame
  unfolding some_bad stop_of
  some_stops = stop_some (first_place given.sheet frame) (count frame) given.bank frame (items given.sheet)

  -- a write with a bad item stores up to its stop, and one without up to its end
  pub stores_to_stop : some_bad given frame ≡ true → stores_to (first_place given.sheet frame + count frame) (stop_of given frame) ≡ stop_place given frame
  unfolding stop_place
  stores_to_stop one = go (stop_of given frame) (some_stops ∙ one)
    where
      go : (stop : Option Stop) → stops stop ≡ true → stores_to (first_place given.sheet frame + count frame) stop ≡ place_of_stop stop
      go (Some stop) e = refl
      go None e = absurd (false≢true e)

  pub stores_to_end : some_bad given frame ≡ false
      → stores_to (first_place given.sheet frame + count frame) (stop_of given frame) ≡ first_place given.sheet frame + count frame
  stores_to_end none = go (stop_of given frame) (some_stops ∙ none)
    where
      go : (stop : Option Stop) → stops stop ≡ false
          → stores_to (first_place given.sheet frame + count frame) stop ≡ first_place given.sheet frame + count frame
      go (Some stop) e = absurd (true≢false e)
      go None e = refl

-- ---- a sound bank stays sound

pub acted_sound : (given : Lent) (frame buffer : List ℕ) → Passed given
    → bank_sound given.sheet (acted_on (judged_frame given frame) given frame buffer).bank ≡ true
unfolding acted_on stores_of
acted_sound given frame buffer passed =
    judged_cases given frame (λ judged. bank_sound given.sheet (acted_on judged given frame buffer).bank ≡ true)
    (λ judged silent. ap (bank_sound given.sheet) (quiet_changes_nothing judged given frame buffer silent) ∙ passed.whole)
    (λ opened one. ap (λ (stop : ℕ). bank_sound given.sheet (stored given.bank (run_stores frame (first_place given.sheet frame) stop)))
    (sym (stores_to_stop given frame one))
    ∙ write_sound given frame passed opened.all)
    (clear_sound given passed)
    (λ opened none. ap (λ (stop : ℕ). bank_sound given.sheet (stored given.bank (run_stores frame (first_place given.sheet frame) stop)))
    (sym (stores_to_end given frame none))
    ∙ write_sound given frame passed opened.all)

pub stays_sound : (given : Lent) (frame buffer : List ℕ) → bank_sound given.sheet given.bank ≡ true
    → bank_sound given.sheet (answer_outcome given frame buffer).bank ≡ true
stays_sound given frame buffer whole =
    outcome_cases given frame buffer (λ o. bank_sound given.sheet o.bank ≡ true) (λ refusal. whole)
    (λ found ringed. acted_sound given frame buffer found)
