-- What a 06 to a register comes to, by the register's bounds in its map. Assumes nothing.
use Rattle.std.specs.Prelude.{◌≡◌, ◌↔◌, List, [], ◌∷◌, ◌++◌, ℕ, ◌+◌, ◌*◌, ◌/◌, ◌%◌, ◌<◌}
use Rattle.check_value.specs.Check.{value_of}
use Rattle.bank_rules.specs.Calls.{Lent}
use Rattle.makers.specs.Maps.{Row}
use Rattle.plain.specs.Numbers.{word}
use Rattle.plain.specs.Sheet.{WritableAt}
use Rattle.plain.specs.Frame.{Within, Gets, error, good}

-- a 06 to the bank's own station: station, 06, address, value, and the check
abbrev pub one_body : Lent → ℕ → ℕ → List ℕ
one_body given at value =
    word given.bank (2 * word given.sheet 16) ∷ 0x06 ∷ (at / 256) ∷ (at % 256) ∷ (value / 256) ∷ (value % 256) ∷ []

abbrev pub write_one : Lent → ℕ → ℕ → List ℕ
write_one given at value =
    one_body given at value ++ (value_of (one_body given at value) % 256 ∷ value_of (one_body given at value) / 256 ∷ [])

-- such a 06 is good exactly if a value is within bounds, and else error 03
pub record TakenWithin (given : Lent) (at sent kind low high value : ℕ) : Type 0 where
  pub taken : Gets given (write_one given at sent) good ↔ Within kind low high value
  pub refused : Gets given (write_one given at sent) (error 3) ↔ (Within kind low high value → ⊥)

-- a row as a map has it: a word is judged by itself, a half of a pair with the other half as the bank has it
pub record AsPrinted (given : Lent) (row : Row) : Type 0 where
  pub of_word : (row.kind ≡ 2 → ⊥) → (v : ℕ) → v < 65536 → TakenWithin given row.first v row.kind row.low row.high v
  pub of_upper : row.kind ≡ 2 → (v place : ℕ) → v < 65536 → WritableAt given.sheet (row.first + 1) place
      → TakenWithin given row.first v row.kind row.low row.high (65536 * v + word given.bank (2 * place))
  pub of_lower : row.kind ≡ 2 → (v place : ℕ) → v < 65536 → WritableAt given.sheet row.first place
      → TakenWithin given (row.first + 1) v row.kind row.low row.high (65536 * word given.bank (2 * place) + v)
