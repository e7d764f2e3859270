-- What goes over the line: the query that a box was told, and the reply that a meter handed back; and what is said of a query in plain numbers
-- (rule Q24). Assumes nothing.
use Rattle.std.specs.Prelude.{◌≡◌, List, ℕ, ◌+◌, ◌*◌, ◌≤◌, ◌<◌, length, take}
use Rattle.bank_rules.specs.Calls.{Lent}
use Rattle.plain.specs.Numbers.{byte, word}
use Rattle.plain.specs.Frame.{Whole}
use Rattle.controller_rules.specs.declared.Order.TheVariants.{Writes}
use Rattle.controller_rules.specs.Order.{Asked, function_of, address_of, second_of}
use Rattle.cedarskein.specs.Door.{Handed, QueryTold}

-- the first bytes of the buffer, as many as were told
abbrev pub query_in : QueryTold → List ℕ
query_in told = take told.length told.buffer

abbrev pub reply_in : Handed → List ℕ
reply_in left = take left.length left.buffer

-- the station that a bank answers to: the word at the place that header word 8 gives
abbrev pub bank_station : Lent → ℕ
bank_station given = word given.bank (2 * word given.sheet 16)

-- a query that is whole, and whose parts are the order's; behind them stand the check alone or, of several writes, their byte count and the values first
pub record BuiltAs (asked : Asked) (frame : List ℕ) : Type 0 where
  pub whole : Whole frame
  pub at_most : length frame ≤ 100
  pub station : byte frame 0 ≡ asked.station
  pub function : byte frame 1 ≡ function_of asked.order
  pub address : word frame 2 ≡ address_of asked.order
  pub second : word frame 4 ≡ second_of asked.order asked.values
  pub eight : ((start : ℕ) → asked.order ≡ Writes start → ⊥) → length frame ≡ 8
  pub several : (start : ℕ) → asked.order ≡ Writes start → (length frame ≡ 9 + length asked.values) × (byte frame 6 ≡ length asked.values)
      × ((k : ℕ) → 2 * k + 1 < length asked.values → word frame (7 + 2 * k) ≡ word asked.values (2 * k))
