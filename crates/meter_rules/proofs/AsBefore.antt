-- Replies and banks are what they were before W5. What a value's judgement was, yes or no, and what a write's stop was, a place or the end of the run,
-- stand here once more as 01 has them; a bank is sound, a frame is acted on and a call comes out exactly as by them. (What a sound sheet is goes by a range
-- in one thing, that it holds 1, and that is as it was by `in_range_between` of range.) Assumes nothing.
use mathlib.Core.Path.{◌≡◌, refl, sym, ap, ap₂, ◌∙◌}
use mathlib.Core.Bool.{Bool, true, false, not, cond, ◌&&◌, ◌||◌}
use mathlib.Core.List.{List, [], ◌∷◌}
use Prim.Native.Nat.{ℕ, ◌+◌}
use lib.Dec.{leb}
use Rattle.range.specs.declared.Side.{Side}
use Rattle.range.specs.declared.Side.TheVariants.{InRange}
use Rattle.range.specs.Range.{not_above, in_range}
use Rattle.range.proofs.Sides.{in_range_between}
use Rattle.sheet_rules.specs.declared.Item.{Item}
use Rattle.sheet_rules.specs.Rows.{items}
use Rattle.lists.specs.Lists.{each, some}
use Rattle.lists.specs.Cases.{Case, when, first_case}
use Rattle.lists.proofs.Tests.{second_of_lem}
use Rattle.bank_rules.specs.Stores.{word_of}
use Rattle.bank_rules.specs.Bank.{value_by, good_by, bank_sound, mark_place}
use Rattle.refusals.specs.declared.Refusal.TheVariants.{BrokenSheet, MisfittingBank, UnsoundBank, SmallBuffer, BadRing}
use Rattle.refusals.specs.Answers.{answer_by}
use Rattle.sheet_rules.specs.Rules.{broken_sheet}
use Rattle.bank_rules.specs.Calls.{Lent, misfitting_bank}
use Rattle.ring_rules.specs.Calls.{bad_ring}
use Rattle.frame.specs.Frame.{count, is_write}
use Rattle.meter_rules.specs.declared.Judged.{Judged}
use Rattle.meter_rules.specs.declared.Judged.TheVariants.{FailsCheck, OtherStation, FunctionNotAllowed, WrongLength, WrongCount, WrongAddress, WrongValue, BadItem}
use Rattle.meter_rules.specs.Write.{first_place, would_be, touched, bad_item, some_bad, stop_in, stop_of, stop_place, stop_side}
use Rattle.meter_rules.specs.Steps.{fails_check, other_station, function_not_allowed, wrong_length, wrong_count, wrong_address, wrong_value, bad_write, good_frame, judged_frame}
use Rattle.meter_rules.specs.Reply.{reply_to, stores_of}
use Rattle.frame.specs.Reply.{small_buffer}
use Rattle.meter_rules.specs.Answer.{Outcome, acted_on, unless_refused, frame_check, answer_outcome}
use Rattle.meter_rules.proofs.Stopping.{stops_at, stores_to}
use Rattle.meter_rules.proofs.Soundness.{stores_to_stop}

-- ---- as it was

-- rule B10: the low bound is not above the value, nor the value above the high bound
unfoldable pub good_before : (ℕ → ℕ) → Item → Bool
good_before at item = not_above item.kind item.low (value_by at item) && not_above item.kind (value_by at item) item.high

unfoldable pub sound_before : List ℕ → List ℕ → Bool
sound_before sheet bank = each (good_before (word_of bank)) (items sheet) && leb (word_of bank (mark_place sheet)) 1

-- rule K4
unfoldable pub bad_before : ℕ → ℕ → List ℕ → List ℕ → Item → Bool
bad_before first many bank frame item = touched first many item && not (good_before (would_be first many bank frame) item)

-- rule K5: the first place of the first bad item, or the end of the run
unfoldable pub stop_before : ℕ → ℕ → List ℕ → List ℕ → List Item → ℕ
stop_before first many bank frame [] = first + many
stop_before first many bank frame (item ∷ behind) =
    cond (bad_before first many bank frame item) item.place (stop_before first many bank frame behind)

-- rules J1, J71 and J80, by the old judgement. No side was told, and none is looked at: in range is filled in
unfoldable pub judged_before : Lent → List ℕ → Judged
judged_before given frame =
    first_case
    (when (fails_check frame) FailsCheck
    ∷ when (other_station given frame) OtherStation
    ∷ when (function_not_allowed given.sheet frame) FunctionNotAllowed
    ∷ when (wrong_length frame) WrongLength
    ∷ when (wrong_count given.sheet frame) WrongCount
    ∷ when (wrong_address given frame) WrongAddress
    ∷ when (wrong_value frame) WrongValue
    ∷ when (is_write frame && some (bad_before (first_place given.sheet frame) (count frame) given.bank frame) (items given.sheet))
    (BadItem (first_place given.sheet frame) (stop_before (first_place given.sheet frame) (count frame) given.bank frame (items given.sheet)) InRange)
    ∷ [])
    (good_frame given frame)

-- rules N50 to N52, by the old judgement of a bank
unfoldable pub answer_before : Lent → List ℕ → List ℕ → Outcome
answer_before given frame buffer =
    unless_refused
    (answer_by (when (broken_sheet given.sheet) BrokenSheet
    ∷ when (misfitting_bank given) MisfittingBank
    ∷ when (not (sound_before given.sheet given.bank)) UnsoundBank
    ∷ when (bad_ring given.sheet given.ring) BadRing
    ∷ when (small_buffer buffer) SmallBuffer
    ∷ []))
    given buffer (acted_on (judged_before given frame) given frame buffer)

-- ---- an item, and a bank

pub good_as_before : (at : ℕ → ℕ) (item : Item) → good_by at item ≡ good_before at item
unfolding good_by in_range good_before
good_as_before at item = in_range_between item.kind item.low item.high (value_by at item)

each_same : (rule other : Item → Bool) → ((item : Item) → rule item ≡ other item) → (l : List Item) → each rule l ≡ each other l
unfolding each
each_same rule other same [] = refl
each_same rule other same (item ∷ l) = ap₂ ◌&&◌ (same item) (each_same rule other same l)

some_same : (rule other : Item → Bool) → ((item : Item) → rule item ≡ other item) → (l : List Item) → some rule l ≡ some other l
unfolding some
some_same rule other same [] = refl
some_same rule other same (item ∷ l) = ap₂ ◌||◌ (same item) (some_same rule other same l)

pub sound_as_before : (sheet bank : List ℕ) → bank_sound sheet bank ≡ sound_before sheet bank
unfolding bank_sound sound_before
sound_as_before sheet bank =
    ap (λ (b : Bool). b && leb (word_of bank (mark_place sheet)) 1)
    (each_same (good_by (word_of bank)) (good_before (word_of bank)) (good_as_before (word_of bank)) (items sheet))

-- ---- a write

module _ (first many : ℕ) (bank frame : List ℕ) where
  bad_as_before : (item : Item) → bad_item first many bank frame item ≡ bad_before first many bank frame item
  unfolding bad_item bad_before
  bad_as_before item = ap (λ (b : Bool). touched first many item && not b) (good_as_before (would_be first many bank frame) item)

  stop_as_before : (l : List Item) → stores_to (first + many) (stop_in first many bank frame l) ≡ stop_before first many bank frame l
  unfolding stop_in stop_before
  stop_as_before [] = refl
  stop_as_before (item ∷ behind) =
      go (bad_item first many bank frame item) (stop_as_before behind)
      ∙ ap (λ (b : Bool). cond b item.place (stop_before first many bank frame behind)) (bad_as_before item)
    where
      go : (bad : Bool) → stores_to (first + many) (stop_in first many bank frame behind) ≡ stop_before first many bank frame behind
          → stores_to (first + many) (cond bad (stops_at first many bank frame item) (stop_in first many bank frame behind))
          ≡ cond bad item.place (stop_before first many bank frame behind)
      go true rest = refl
      go false rest = rest

-- ---- a frame

module _ (given : Lent) (frame buffer : List ℕ) where
  abbrev first : ℕ
  first = first_place given.sheet frame

  abbrev stop : ℕ
  stop = stop_before first (count frame) given.bank frame (items given.sheet)

  some_as_before : some_bad given frame ≡ some (bad_before first (count frame) given.bank frame) (items given.sheet)
  unfolding some_bad
  some_as_before =
      some_same (bad_item first (count frame) given.bank frame) (bad_before first (count frame) given.bank frame)
      (bad_as_before first (count frame) given.bank frame) (items given.sheet)

  place_as_before : some_bad given frame ≡ true → stop_place given frame ≡ stop
  unfolding stop_of
  place_as_before one = sym (stores_to_stop given frame one) ∙ stop_as_before first (count frame) given.bank frame (items given.sheet)

  -- whatever side a stop tells, the same goes out and the same is stored
  side_unseen : (place : ℕ) (one other : Side) → acted_on (BadItem first place one) given frame buffer ≡ acted_on (BadItem first place other) given frame buffer
  unfolding acted_on reply_to stores_of
  side_unseen place one other = refl

  abbrev front : (a₁ a₂ a₃ a₄ a₅ a₆ a₇ : Bool) → Case Judged → Judged
  front a₁ a₂ a₃ a₄ a₅ a₆ a₇ last =
      first_case
      (when a₁ FailsCheck ∷ when a₂ OtherStation ∷ when a₃ FunctionNotAllowed ∷ when a₄ WrongLength ∷ when a₅ WrongCount ∷ when a₆ WrongAddress
      ∷ when a₇ WrongValue ∷ last ∷ []) (good_frame given frame)

  same_last : (a₁ a₂ a₃ a₄ a₅ a₆ a₇ bad : Bool) → bad_write given frame ≡ bad
      → acted_on (front a₁ a₂ a₃ a₄ a₅ a₆ a₇ (when bad (BadItem first (stop_place given frame) (stop_side given frame)))) given frame buffer
      ≡ acted_on (front a₁ a₂ a₃ a₄ a₅ a₆ a₇ (when bad (BadItem first stop InRange))) given frame buffer
  unfolding first_case
  same_last true a₂ a₃ a₄ a₅ a₆ a₇ bad e = refl
  same_last false true a₃ a₄ a₅ a₆ a₇ bad e = refl
  same_last false false true a₄ a₅ a₆ a₇ bad e = refl
  same_last false false false true a₅ a₆ a₇ bad e = refl
  same_last false false false false true a₆ a₇ bad e = refl
  same_last false false false false false true a₇ bad e = refl
  same_last false false false false false false true bad e = refl
  same_last false false false false false false false false e = refl
  same_last false false false false false false false true e =
      side_unseen (stop_place given frame) (stop_side given frame) InRange
      ∙ ap (λ (place : ℕ). acted_on (BadItem first place InRange) given frame buffer) (place_as_before (second_of_lem (is_write frame) (some_bad given frame) e))

  -- a frame that is not refused
  pub acted_as_before : acted_on (judged_frame given frame) given frame buffer ≡ acted_on (judged_before given frame) given frame buffer
  unfolding judged_frame judged_before
  acted_as_before =
      same_last (fails_check frame) (other_station given frame) (function_not_allowed given.sheet frame) (wrong_length frame) (wrong_count given.sheet frame)
      (wrong_address given frame) (wrong_value frame) (bad_write given frame) refl
      ∙ ap (λ (some : Bool). acted_on (front (fails_check frame) (other_station given frame) (function_not_allowed given.sheet frame) (wrong_length frame)
      (wrong_count given.sheet frame) (wrong_address given frame) (wrong_value frame) (when (is_write frame && some) (BadItem first stop InRange))) given frame buffer)
      some_as_before

  -- the whole outcome of a call
  pub answer_as_before : answer_outcome given frame buffer ≡ answer_before given frame buffer
  unfolding answer_outcome frame_check answer_before
  answer_as_before =
      ap (λ (fine : Bool). unless_refused (answer_by (when (broken_sheet given.sheet) BrokenSheet ∷ when (misfitting_bank given) MisfittingBank
      ∷ when (not fine) UnsoundBank ∷ when (bad_ring given.sheet given.ring) BadRing ∷ when (small_buffer buffer) SmallBuffer ∷ [])) given buffer
      (acted_on (judged_frame given frame) given frame buffer)) (sound_as_before given.sheet given.bank)
      ∙ ap (unless_refused (answer_by (when (broken_sheet given.sheet) BrokenSheet ∷ when (misfitting_bank given) MisfittingBank
      ∷ when (not (sound_before given.sheet given.bank)) UnsoundBank ∷ when (bad_ring given.sheet given.ring) BadRing ∷ when (small_buffer buffer) SmallBuffer ∷ []))
      given buffer) acted_as_before
