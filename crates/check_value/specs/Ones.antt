-- How many bits of a list of bytes are 1. Assumes nothing.
use Rattle.std.specs.Prelude.{ℕ, ◌+◌, List, [], ◌∷◌}
use Rattle.std.specs.Int.Count.{ones}

-- what rule C8 counts; that it is even is a theorem
unfoldable pub ones_of : List ℕ → ℕ
ones_of [] = 0
ones_of (byte ∷ bytes) = ones byte + ones_of bytes
