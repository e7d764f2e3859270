-- Bytes and words of a list, and what a signed word stands for, in plain numbers. Nothing here is shared with the definitions that are held
-- to it. Assumes nothing.
use Rattle.std.specs.Prelude.{ℕ, ◌+◌, ◌*◌, ◌<◌, cond, List, ltb, get_or}

-- the byte at a place, 0 past the end
abbrev pub byte : List ℕ → ℕ → ℕ
byte bytes at = get_or bytes at 0

-- the word whose upper byte is at a place
abbrev pub word : List ℕ → ℕ → ℕ
word bytes at = 256 * byte bytes at + byte bytes (at + 1)

-- every element is a byte
abbrev pub Bytes : List ℕ → Type 0
Bytes bytes = (at : ℕ) → byte bytes at < 256

-- the number that a signed word stands for, and 10000 (hexadecimal) more: below 8000 the word itself counts, from 8000 on itself less 10000
abbrev pub signed_and_more : ℕ → ℕ
signed_and_more w = cond (ltb w 0x8000) (w + 0x10000) w
