-- The reason by where a frame stops: what a judgement leaves to be told apart. Only private promises cite this file. Assumes nothing.
use Rattle.std.specs.Prelude.{ℕ, ◌%◌, cond, List, ltb, eqb, Option, None, Some}
use Rattle.frame.specs.Frame.{reads, clears, most_read, function, start, second}
use Rattle.sheet_rules.specs.Rows.{areas}
use Rattle.sheet_rules.specs.Lookup.{address_of}
use Rattle.sheet_rules.specs.Runs.{reach}
use Rattle.sheet_rules.specs.declared.Purpose.TheVariants.{Read, Write}
use Rattle.meter_rules.specs.declared.Judged.{Judged}
use Rattle.meter_rules.specs.declared.Judged.TheVariants.{FailsCheck, OtherStation, FunctionNotAllowed, WrongLength, WrongCount, WrongAddress, WrongValue, BadItem, GoodRead, GoodRecord, GoodClear, GoodWrite}
use Rattle.why_rules.specs.Facts.{too_short, too_long}
use Rattle.why_rules.specs.declared.Reason.{Reason}
use Rattle.why_rules.specs.declared.Reason.TheVariants.{TooShort, TooLong, Check, Station, Function, BodyLength, Count, Address, ClearValue, Item}

-- a frame that does not pass
abbrev pub unpassed : List ℕ → Reason
unpassed frame = cond (too_short frame) TooShort (cond (too_long frame) TooLong Check)

-- a frame that step 6 stops
abbrev pub wrongly_addressed : List ℕ → List ℕ → Reason
wrongly_addressed sheet frame =
    cond (eqb (function frame) clears) (Address (start frame))
    (cond (eqb (function frame) reads)
    (cond (ltb most_read (second frame)) Count (Address (reach Read (areas sheet) (start frame))))
    (Address (reach Write (areas sheet) (start frame))))

abbrev pub reason_by : Judged → List ℕ → List ℕ → Option Reason
reason_by FailsCheck sheet frame = Some (unpassed frame)
reason_by OtherStation sheet frame = Some Station
reason_by FunctionNotAllowed sheet frame = Some Function
reason_by WrongLength sheet frame = Some BodyLength
reason_by WrongCount sheet frame = Some Count
reason_by WrongAddress sheet frame = Some (wrongly_addressed sheet frame)
reason_by WrongValue sheet frame = Some ClearValue
reason_by (BadItem first stop side) sheet frame = Some (Item (address_of (areas sheet) (stop % 65536)) side)
reason_by (GoodRead first many) sheet frame = None
reason_by (GoodRecord first many) sheet frame = None
reason_by GoodClear sheet frame = None
reason_by (GoodWrite first many) sheet frame = None
