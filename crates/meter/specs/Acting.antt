-- What is answered to a judged frame, before its stores are made. Only private promises cite this file. Assumes nothing.
use Rattle.std.specs.Prelude.{ℕ, List, length, Ok}
use Rattle.frame.specs.Reply.{laid}
use Rattle.meter_rules.specs.declared.Judged.{Judged}
use Rattle.meter_rules.specs.Reply.{error_code, reply_to}
use Rattle.meter_rules.specs.Answer.{Outcome, outcome, answered_by}

unfoldable pub replied : Judged → ℕ → List ℕ → List ℕ → List ℕ → List ℕ → Outcome
replied judged rate bank ring frame buffer =
    outcome (Ok (answered_by (error_code judged) (length (reply_to judged bank ring frame)) rate)) bank (laid (reply_to judged bank ring frame) buffer)
