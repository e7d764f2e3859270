-- A good read is of at most 47 registers, and a record has at most 47 words; every reply has 5 to 99 bytes and passes the check. Assumes nothing.
use mathlib.Core.Path.{◌≡◌, refl, sym, ap, subst, ◌∙◌}
use mathlib.Core.Bool.{true, Bool, false, ◌||◌, not, cond}
use mathlib.Core.List.{List, [], ◌∷◌}
use Prim.Native.Nat.{ℕ, ◌≤◌}
use native.Mathlib.Omega.{arith}
use lib.ListN.{length}
use borrow.Author.Tests.{leb-true, le-leb, ltb-false, eqb-true}
use Rattle.check_value.specs.Frame.{passes}
use Rattle.range.specs.declared.Side.{Side}
use Rattle.meter_rules.specs.declared.Judged.{Judged}
use Rattle.meter_rules.specs.declared.Judged.TheVariants.{FailsCheck, OtherStation, FunctionNotAllowed, WrongLength, WrongCount, WrongAddress, WrongValue, BadItem, GoodRead, GoodRecord, GoodClear, GoodWrite}
use Rattle.bank_rules.specs.Calls.{Lent}
use Rattle.frame.specs.Frame.{most_read, function, reads, start, count, run, second, clears}
use Rattle.sheet_rules.specs.Rows.{record_area}
use Rattle.sheet_rules.specs.Rules.{sound}
use Rattle.sheet_rules.proofs.Records.{in_records_has, records_rules}
use Rattle.frame.specs.Reply.{read_reply, with_check, has_room, least_buffer}
use Rattle.sheet_rules.specs.declared.Purpose.TheVariants.{Read}
use Rattle.meter_rules.specs.Reply.{reply_to}
use Rattle.frame.proofs.Reading.{write_echo, read_length}
use Rattle.lists.specs.Cases.{first_case, when}
use Rattle.meter_rules.specs.Steps.{starts_in_records, asked_start, wrong_address, judged_frame, fails_check, good_frame, other_station, function_not_allowed, wrong_length, wrong_count, wrong_value, bad_write}
use Rattle.frame.proofs.Closing.{closed_length, closed_checked, Closed, error_closed, closing, echo_closed}
use lib.Dec.{leb, ltb, eqb}
use Rattle.frame.proofs.Laying.{has_room_lem}
use Rattle.sheet_rules.specs.Runs.{all_open}
use Rattle.meter_rules.specs.Write.{first_place, stop_place, stop_side}
use Rattle.meter_rules.proofs.Order.{asks_for, read_address, registers_wrong}

-- a good read is of at most 47 words, so that its reply has room
abbrev pub read_fits : Judged → Bool
read_fits FailsCheck = true
read_fits OtherStation = true
read_fits FunctionNotAllowed = true
read_fits WrongLength = true
read_fits WrongCount = true
read_fits WrongAddress = true
read_fits WrongValue = true
read_fits (BadItem first stop side) = true
read_fits (GoodRead first many) = leb many most_read
read_fits (GoodRecord first many) = leb many most_read
read_fits GoodClear = true
read_fits (GoodWrite first many) = true

module _ (given : Lent) (frame : List ℕ) where
  fits : (a₁ a₂ a₃ a₄ a₅ a₆ a₇ a₈ : Bool) (first stop : ℕ) (side : Side) (good : Judged) → (a₆ ≡ false → read_fits good ≡ true)
      → read_fits (first_case (when a₁ FailsCheck ∷ when a₂ OtherStation ∷ when a₃ FunctionNotAllowed ∷ when a₄ WrongLength ∷ when a₅ WrongCount
      ∷ when a₆ WrongAddress ∷ when a₇ WrongValue ∷ when a₈ (BadItem first stop side) ∷ []) good) ≡ true
  unfolding first_case
  fits true a₂ a₃ a₄ a₅ a₆ a₇ a₈ first stop side good h = refl
  fits false true a₃ a₄ a₅ a₆ a₇ a₈ first stop side good h = refl
  fits false false true a₄ a₅ a₆ a₇ a₈ first stop side good h = refl
  fits false false false true a₅ a₆ a₇ a₈ first stop side good h = refl
  fits false false false false true a₆ a₇ a₈ first stop side good h = refl
  fits false false false false false true a₇ a₈ first stop side good h = refl
  fits false false false false false false true a₈ first stop side good h = refl
  fits false false false false false false false true first stop side good h = refl
  fits false false false false false false false false first stop side good h = h refl

  good_fits : sound given.sheet ≡ true → wrong_address given frame ≡ false → read_fits (good_frame given frame) ≡ true
  good_fits keeps p = go (eqb (function frame) reads) (eqb (function frame) clears) (starts_in_records given.sheet frame) refl refl
    where
      few : function frame ≡ reads → starts_in_records given.sheet frame ≡ false → leb (count frame) most_read ≡ true
      few e outside =
          ap (λ (o : Bool). leb (cond o 1 (second frame)) most_read) (asks_for frame reads e).is_one
          ∙ le-leb (second frame) most_read (ltb-false most_read (second frame) (under (ltb most_read (second frame))
          (sym (read_address frame given e ∙ registers_wrong frame given outside) ∙ p)))
        where
          under : (b : Bool) → (b || not (all_open Read given.sheet (run frame))) ≡ false → b ≡ false
          under true q = q
          under false q = refl

      short : starts_in_records given.sheet frame ≡ true → leb (record_area given.sheet).words most_read ≡ true
      short inside =
          le-leb (record_area given.sheet).words most_read
          (records_rules given.sheet keeps (in_records_has given.sheet (start frame) inside)).words_high

      go : (r c i : Bool) → eqb (function frame) reads ≡ r → starts_in_records given.sheet frame ≡ i
          → read_fits (cond r (cond i (GoodRecord (asked_start given frame) (record_area given.sheet).words)
          (GoodRead (first_place given.sheet frame) (count frame))) (cond c GoodClear (GoodWrite (first_place given.sheet frame) (count frame)))) ≡ true
      go true c true e inside = short inside
      go true c false e outside = few (eqb-true (function frame) reads e) outside
      go false true i e f = refl
      go false false i e f = refl

  pub judged_fits : sound given.sheet ≡ true → read_fits (judged_frame given frame) ≡ true
  unfolding judged_frame
  judged_fits keeps =
      fits (fails_check frame) (other_station given frame) (function_not_allowed given.sheet frame) (wrong_length frame) (wrong_count given.sheet frame)
      (wrong_address given frame) (wrong_value frame) (bad_write given frame) (first_place given.sheet frame) (stop_place given frame)
      (stop_side given frame) (good_frame given frame) (good_fits keeps)

-- a reply that is not none is closed
reply_closed : (judged : Judged) (bank ring frame : List ℕ) → read_fits judged ≡ true → (reply_to judged bank ring frame ≡ [] → ⊥)
    → Closed (reply_to judged bank ring frame)
unfolding reply_to
reply_closed FailsCheck bank ring frame fits some = absurd (some refl)
reply_closed OtherStation bank ring frame fits some = absurd (some refl)
reply_closed FunctionNotAllowed bank ring frame fits some = error_closed frame 1
reply_closed WrongLength bank ring frame fits some = absurd (some refl)
reply_closed WrongCount bank ring frame fits some = error_closed frame 3
reply_closed WrongAddress bank ring frame fits some = error_closed frame 2
reply_closed WrongValue bank ring frame fits some = error_closed frame 3
reply_closed (BadItem first stop side) bank ring frame fits some = error_closed frame 3
reply_closed (GoodRead first many) bank ring frame fits some =
    closing (read_reply bank frame first many) (omega (arith, read_length bank frame first many))
    (omega (arith, read_length bank frame first many, leb-true many most_read fits))
reply_closed (GoodRecord first many) bank ring frame fits some =
    closing (read_reply ring frame first many) (omega (arith, read_length ring frame first many))
    (omega (arith, read_length ring frame first many, leb-true many most_read fits))
reply_closed GoodClear bank ring frame fits some = echo_closed frame
reply_closed (GoodWrite first many) bank ring frame fits some =
    subst (λ (l : List ℕ). Closed (with_check l)) (write_echo frame) (echo_closed frame)

module _ (judged : Judged) (bank ring frame : List ℕ) (fits : read_fits judged ≡ true) where
  -- a reply that is not none has 5 to 99 bytes and passes the check
  module _ (some : reply_to judged bank ring frame ≡ [] → ⊥) where
    pub reply_sized : (5 ≤ length (reply_to judged bank ring frame)) × (length (reply_to judged bank ring frame) ≤ 99)
    reply_sized = closed_length (reply_closed judged bank ring frame fits some)

    pub reply_passes : passes (reply_to judged bank ring frame) ≡ true
    reply_passes = closed_checked (reply_closed judged bank ring frame fits some)

  -- so it has room in a buffer of at least 100 bytes, where none has room too
  pub reply_room : (buffer : List ℕ) → least_buffer ≤ length buffer → has_room (reply_to judged bank ring frame) buffer ≡ true
  reply_room buffer long = go (reply_to judged bank ring frame) refl
    where
      go : (reply : List ℕ) → reply_to judged bank ring frame ≡ reply → has_room reply buffer ≡ true
      go [] e = has_room_lem [] buffer (omega arith) (omega arith)
      go (byte ∷ bytes) e =
          let sized = reply_sized (λ none. let z : ◌≡◌ {A = ℕ} 0 1 = cc in omega arith) in
          has_room_lem (byte ∷ bytes) buffer (omega (arith, ap length e)) (omega (arith, ap length e))

pub judged_room : (given : Lent) (frame buffer : List ℕ) {judged : Judged} → sound given.sheet ≡ true → judged ≡ judged_frame given frame
    → least_buffer ≤ length buffer → has_room (reply_to judged given.bank given.ring frame) buffer ≡ true
judged_room given frame buffer {judged} keeps is long =
    reply_room judged given.bank given.ring frame (ap read_fits is ∙ judged_fits given frame keeps) buffer long
