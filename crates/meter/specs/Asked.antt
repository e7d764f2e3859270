-- What the stages are handed, seen as what a call is lent. Only private promises cite this file. Assumes nothing.
use Rattle.bank_rules.specs.Calls.{Lent, lent_with}
use Rattle.meter.specs.declared.asked.Asked.{Asked}

abbrev pub given_to : Asked → Lent
given_to asked = lent_with asked.sheet.bytes.now asked.bank.now asked.ring.now
