-- The reason for silence or an error, its number, its address and its side, and the answer of a call that asks for it. Assumes nothing.
use Rattle.std.specs.Prelude.{ℕ, List, [], ◌∷◌, Option, None, Ok, Err, Some, Result}
use Rattle.lists.specs.Cases.{Case, when, first_case}
use Rattle.refusals.specs.declared.Refusal.{Refusal}
use Rattle.refusals.specs.Answers.{refusal_number, Answer}
use Rattle.range.specs.Range.{side_number}
use Rattle.bank_rules.specs.Calls.{Lent}
use Rattle.meter_rules.specs.Judgement.{lent_answer}
use Rattle.meter_rules.specs.Steps.{other_station, function_not_allowed, wrong_length, wrong_value, bad_write}
use Rattle.why_rules.specs.Facts.{too_short, too_long, check_differs, bad_count, shut_address, first_bad_address, first_bad_item, first_bad_side}
use Rattle.why_rules.specs.declared.Reason.{Reason}
use Rattle.why_rules.specs.declared.Reason.TheVariants.{TooShort, TooLong, Check, Station, Function, BodyLength, Count, Address, ClearValue, Item}

-- rules Y0 and Y10 to Y19: the number of each reason
abbrev pub reason_number : Option Reason → ℕ
reason_number None = 0
reason_number (Some TooShort) = 1
reason_number (Some TooLong) = 2
reason_number (Some Check) = 3
reason_number (Some Station) = 4
reason_number (Some Function) = 5
reason_number (Some BodyLength) = 6
reason_number (Some Count) = 7
reason_number (Some (Address address)) = 8
reason_number (Some ClearValue) = 9
reason_number (Some (Item address side)) = 10

-- rules Y20 to Y22: the address that is told with a reason; 0 where there is none to tell
abbrev pub reason_address : Option Reason → ℕ
reason_address None = 0
reason_address (Some TooShort) = 0
reason_address (Some TooLong) = 0
reason_address (Some Check) = 0
reason_address (Some Station) = 0
reason_address (Some Function) = 0
reason_address (Some BodyLength) = 0
reason_address (Some Count) = 0
reason_address (Some (Address address)) = address
reason_address (Some ClearValue) = 0
reason_address (Some (Item address side)) = address

-- rules Y23 and Y24: the number of the side that is told with a reason; 0 where there is none to tell
abbrev pub reason_side : Option Reason → ℕ
reason_side None = 0
reason_side (Some TooShort) = 0
reason_side (Some TooLong) = 0
reason_side (Some Check) = 0
reason_side (Some Station) = 0
reason_side (Some Function) = 0
reason_side (Some BodyLength) = 0
reason_side (Some Count) = 0
reason_side (Some (Address address)) = 0
reason_side (Some ClearValue) = 0
reason_side (Some (Item address side)) = side_number side

-- rule Y1: the facts, in their order
abbrev pub facts : Lent → List ℕ → List (Case (Option Reason))
facts given frame =
    when (too_short frame) (Some TooShort)
    ∷ when (too_long frame) (Some TooLong)
    ∷ when (check_differs frame) (Some Check)
    ∷ when (other_station given frame) (Some Station)
    ∷ when (function_not_allowed given.sheet frame) (Some Function)
    ∷ when (wrong_length frame) (Some BodyLength)
    ∷ when (bad_count given.sheet frame) (Some Count)
    ∷ when (shut_address given frame) (Some (Address (first_bad_address given.sheet frame)))
    ∷ when (wrong_value frame) (Some ClearValue)
    ∷ when (bad_write given frame) (Some (Item (first_bad_item given frame) (first_bad_side given frame)))
    ∷ []

-- rules Y0 and Y1: the first fact that holds is the reason; where none holds there is none
unfoldable pub reason_of : Lent → List ℕ → Option Reason
reason_of given frame = first_case (facts given frame) None

-- rule Y2: sheet, bank and ring are checked first
abbrev pub Explained : Type 0
Explained = Result (Option Reason) Refusal

abbrev pub explained_by : Answer → Option Reason → Explained
explained_by (Ok tt) reason = Ok reason
explained_by (Err refusal) reason = Err refusal

unfoldable pub explanation : Lent → List ℕ → Explained
explanation given frame = explained_by (lent_answer given) (reason_of given frame)

-- rules Y2 and Y3, the numbers that are handed back: that of the call, of the reason, the address, and that of the side; zeros with a refusal
abbrev pub explained_number : Explained → ℕ
explained_number (Err refusal) = refusal_number refusal
explained_number (Ok reason) = 0

abbrev pub reason_in : Explained → ℕ
reason_in (Err refusal) = 0
reason_in (Ok reason) = reason_number reason

abbrev pub address_in : Explained → ℕ
address_in (Err refusal) = 0
address_in (Ok reason) = reason_address reason

abbrev pub side_in : Explained → ℕ
side_in (Err refusal) = 0
side_in (Ok reason) = reason_side reason
