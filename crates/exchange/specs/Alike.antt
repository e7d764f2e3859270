-- When two orders take one reply alike (rule Q54). Assumes nothing.
use Rattle.std.specs.Prelude.{◌≡◌, true, false, List, ◌⊎◌, ℕ}
use Rattle.controller_rules.specs.Order.{Asked, function_of, address_of, second_of, word_count}
use Rattle.controller_rules.specs.Reading.{is_error, brings_values}

-- of one station and one function; and the reply is an error, or both are reads of as many words, or both are others with one address and one second word:
-- the value of 05 and 06, the count of 10
pub record Alike (one other : Asked) (reply : List ℕ) : Type 0 where
  pub station : one.station ≡ other.station
  pub function : function_of one.order ≡ function_of other.order
  pub body : (is_error one.order reply ≡ true)
      ⊎ ((brings_values one.order ≡ true) × (word_count one.order ≡ word_count other.order))
      ⊎ ((brings_values one.order ≡ false) × (address_of one.order ≡ address_of other.order)
      × (second_of one.order one.values ≡ second_of other.order other.values))
