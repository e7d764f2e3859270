-- What becomes of each judgement: its error code, the reply to the frame, and what the frame stores. Assumes nothing.
use Rattle.std.specs.Prelude.{ℕ, ◌+◌, cond, List, [], eqb}
use Rattle.frame.specs.Reply.{read_reply, echo, write_reply, error_reply, with_check}
use Rattle.bank_rules.specs.Stores.{Store}
use Rattle.bank_rules.specs.Bank.{mark_stores}
use Rattle.meter_rules.specs.declared.Judged.{Judged}
use Rattle.meter_rules.specs.declared.Judged.TheVariants.{FailsCheck, OtherStation, FunctionNotAllowed, WrongLength, WrongCount, WrongAddress, WrongValue, BadItem, GoodRead, GoodRecord, GoodClear, GoodWrite}
use Rattle.meter_rules.specs.Write.{run_stores}

-- rules R4, J30, J50 to J53, J60 to J66, J70 and J71: the code of an error; 0 where a judgement is no error
abbrev pub error_code : Judged → ℕ
error_code FailsCheck = 0
error_code OtherStation = 0
error_code FunctionNotAllowed = 1
error_code WrongLength = 0
error_code WrongCount = 3
error_code WrongAddress = 2
error_code WrongValue = 3
error_code (BadItem first stop side) = 3
error_code (GoodRead first many) = 0
error_code (GoodRecord first many) = 0
error_code GoodClear = 0
error_code (GoodWrite first many) = 0

-- rules R1 to R3 and R9: the reply to a frame that is no error, by bank and ring; empty where there is none
abbrev pub good_reply : Judged → List ℕ → List ℕ → List ℕ → List ℕ
good_reply FailsCheck bank ring frame = []
good_reply OtherStation bank ring frame = []
good_reply FunctionNotAllowed bank ring frame = []
good_reply WrongLength bank ring frame = []
good_reply WrongCount bank ring frame = []
good_reply WrongAddress bank ring frame = []
good_reply WrongValue bank ring frame = []
good_reply (BadItem first stop side) bank ring frame = []
good_reply (GoodRead first many) bank ring frame = with_check (read_reply bank frame first many)
good_reply (GoodRecord first many) bank ring frame = with_check (read_reply ring frame first many)
good_reply GoodClear bank ring frame = with_check (echo frame)
good_reply (GoodWrite first many) bank ring frame = with_check (write_reply frame)

-- the reply to a frame: an error by its code, or else the reply to a good frame, or none
unfoldable pub reply_to : Judged → List ℕ → List ℕ → List ℕ → List ℕ
reply_to judged bank ring frame =
    cond (eqb (error_code judged) 0) (good_reply judged bank ring frame) (with_check (error_reply frame (error_code judged)))

-- rules K5 to K10: what a frame stores
unfoldable pub stores_of : Judged → List ℕ → List ℕ → List Store
stores_of FailsCheck sheet frame = []
stores_of OtherStation sheet frame = []
stores_of FunctionNotAllowed sheet frame = []
stores_of WrongLength sheet frame = []
stores_of WrongCount sheet frame = []
stores_of WrongAddress sheet frame = []
stores_of WrongValue sheet frame = []
stores_of (BadItem first stop side) sheet frame = run_stores frame first stop
stores_of (GoodRead first many) sheet frame = []
stores_of (GoodRecord first many) sheet frame = []
stores_of GoodClear sheet frame = mark_stores sheet 0
stores_of (GoodWrite first many) sheet frame = run_stores frame first (first + many)
