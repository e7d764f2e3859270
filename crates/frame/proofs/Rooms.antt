-- A reply in an answer buffer, as one table under one statement: with room for it, with just room, and without; and one that is longer than a frame
-- can be. And which buffers are too small. Assumes nothing.
use mathlib.Core.Path.{◌≡◌, refl}
use mathlib.Core.Bool.{Bool, true, false, ◌&&◌}
use mathlib.Core.List.{List, [], ◌∷◌, ◌++◌, map}
use Prim.Native.Nat.{ℕ}
use lib.Dec.{eqb}
use lib.ListN.{replicate}
use Rattle.lists.specs.Lists.{each, same_places}
use Rattle.frame.specs.Reply.{small_buffer, lay_reply}

-- a reply, a buffer, how many of its bytes are filled, and the buffer afterwards
pub record Row : Type 0 where
  pub reply : List ℕ
  pub buffer : List ℕ
  pub length : ℕ
  pub left : List ℕ

abbrev row : List ℕ → List ℕ → ℕ → List ℕ → Row
row reply buffer length left = record { reply = reply; buffer = buffer; length = length; left = left }

abbrev pub right : Row → Bool
right this = eqb (lay_reply this.reply this.buffer).length this.length && same_places (lay_reply this.reply this.buffer).buffer this.left

pub table : List Row
table =
    row (1 ∷ 2 ∷ 3 ∷ []) (7 ∷ 8 ∷ 9 ∷ 10 ∷ []) 3 (1 ∷ 2 ∷ 3 ∷ 10 ∷ [])  -- a byte more than it needs
    ∷ row (1 ∷ 2 ∷ 3 ∷ []) (7 ∷ 8 ∷ 9 ∷ []) 3 (1 ∷ 2 ∷ 3 ∷ [])  -- just room
    ∷ row (1 ∷ 2 ∷ 3 ∷ []) (7 ∷ 8 ∷ []) 0 (7 ∷ 8 ∷ [])  -- a byte too few
    ∷ row (replicate 100 1) (replicate 101 7) 100 (replicate 100 1 ++ (7 ∷ []))  -- the longest
    ∷ row (replicate 101 1) (replicate 102 7) 0 (replicate 102 7)  -- one more
    ∷ []

-- every row is right
pub rooms : each right table ≡ true
unfolding table each same_places lay_reply
rooms = refl

-- rule N5: buffers of no byte, of 99, 100 and 101
pub small_buffers : map (λ n. small_buffer (replicate n 7)) (0 ∷ 99 ∷ 100 ∷ 101 ∷ []) ≡ true ∷ true ∷ false ∷ false ∷ []
small_buffers = refl
