-- What is seen of a call that asks for the reason, beside the call that answers the same frame. Assumes nothing.
use Rattle.std.specs.Prelude.{◌≡◌, ◌↔◌, ◌⊎◌, List, ℕ, ◌≤◌}
use Rattle.plain.specs.Numbers.{byte}
use Rattle.plain.specs.Why.{ReadsTooMany}
use Rattle.cedarskein.specs.Door.{Handed, Said}

-- an error goes out: five bytes, with its code as the third
abbrev pub Errs : ℕ → Handed → Type 0
Errs code left = (left.number ≡ 0) × (left.length ≡ 5) × (byte left.buffer 2 ≡ code)

-- rule Y4, where neither call is refused: what went out and the reason that was told, both ways
pub record Agrees (sheet frame : List ℕ) (told : Said) (left : Handed) : Type 0 where
  pub no_error : ((left.number ≡ 0) × (6 ≤ left.length)) ↔ (told.reason ≡ 0)
  pub silent : (left.number ≡ 1) ↔ ((told.reason ≡ 1) ⊎ (told.reason ≡ 2) ⊎ (told.reason ≡ 3) ⊎ (told.reason ≡ 4) ⊎ (told.reason ≡ 6))
  pub error_one : Errs 1 left ↔ (told.reason ≡ 5)
  pub error_two : Errs 2 left ↔ ((told.reason ≡ 8) ⊎ ((told.reason ≡ 7) × ReadsTooMany sheet frame))
  pub error_three : Errs 3 left ↔ (((told.reason ≡ 7) × (ReadsTooMany sheet frame → ⊥)) ⊎ (told.reason ≡ 9) ⊎ (told.reason ≡ 10))
