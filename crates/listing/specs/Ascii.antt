-- The bytes of a quoted text. Assumes nothing.
use Rattle.std.specs.Prelude.{ℕ, List}
use Prim.Native.Char.{code}
use Prim.Native.String.{String, [], ◌∷◌}
use mathlib.Core.List as Lists

unfoldable pub ascii : String → List ℕ
ascii [] = Lists.[]
ascii (character ∷ behind) = Lists.◌∷◌ (code character) (ascii behind)
