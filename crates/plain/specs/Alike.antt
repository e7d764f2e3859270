-- Banks that no read tells apart: those that agree outside the areas of access 2, of one station and one rate. Assumes nothing.
use Rattle.std.specs.Prelude.{◌≡◌, List, ℕ, ◌*◌}
use Rattle.bank_rules.specs.Calls.{Lent, lent_with}
use Rattle.plain.specs.Numbers.{word}
use Rattle.plain.specs.Sheet.{LiesAt}

-- the same sheet and ring, with another bank
abbrev pub with_bank : Lent → List ℕ → Lent
with_bank given bank = lent_with given.sheet bank given.ring

-- rule D29: the station and the rate are the same, and so is the word of each place that lies in an area of another access than 2. Station and rate may themselves
-- lie in one of access 2, so they are named. Of the mark, which lies in no area, nothing is asked
pub record AgreeOutside (given : Lent) (bank : List ℕ) : Type 0 where
  pub station : word bank (2 * word given.sheet 16) ≡ word given.bank (2 * word given.sheet 16)
  pub rate : word bank (2 * word given.sheet 18) ≡ word given.bank (2 * word given.sheet 18)
  pub elsewhere : (address place access : ℕ) → LiesAt given.sheet address place access → (access ≡ 2 → ⊥) → word bank (2 * place) ≡ word given.bank (2 * place)
