-- Numbers as text, and a line's room, as computed tables: each digit of an address at both ends, decimal numbers up to the highest of 32 bits, a line that is
-- empty, and one that is full. Every row is right. Assumes nothing.
use mathlib.Core.Path.{◌≡◌, refl}
use mathlib.Core.List.{[], ◌∷◌, ◌++◌, map}
use lib.ListN.{length, replicate}
use Rattle.listing.specs.Ascii.{ascii}
use Rattle.listing.specs.Text.{hexadecimal, decimal, decimal_within}
use Rattle.listing.specs.Line.{line_of, with_character}

pub addresses : map hexadecimal (0x0000 ∷ 0x000F ∷ 0x0010 ∷ 0x00FF ∷ 0x0100 ∷ 0x0FFF ∷ 0x1000 ∷ 0xF000 ∷ 0xFFFF ∷ 0x9ABC ∷ [])
    ≡ ascii "0000" ∷ ascii "000F" ∷ ascii "0010" ∷ ascii "00FF" ∷ ascii "0100" ∷ ascii "0FFF" ∷ ascii "1000" ∷ ascii "F000" ∷ ascii "FFFF" ∷ ascii "9ABC" ∷ []
unfolding ascii
addresses = refl

pub numbers : map decimal (0 ∷ 9 ∷ 10 ∷ 99 ∷ 100 ∷ 65535 ∷ 999999999 ∷ 1000000000 ∷ 4294967295 ∷ [])
    ≡ ascii "0" ∷ ascii "9" ∷ ascii "10" ∷ ascii "99" ∷ ascii "100" ∷ ascii "65535" ∷ ascii "999999999" ∷ ascii "1000000000" ∷ ascii "4294967295" ∷ []
unfolding ascii decimal decimal_within
numbers = refl

-- an empty line has room for forty bytes; a text of as many fills it, and one of more is cut
pub rooms : (length (line_of []).bytes ∷ (line_of []).len ∷ (line_of (replicate 40 65)).len ∷ (line_of (replicate 41 65)).len ∷ [])
    ≡ 40 ∷ 0 ∷ 40 ∷ 40 ∷ []
unfolding line_of
rooms = refl

-- one more byte: behind the others, or not at all
pub one_more : (with_character (line_of []) 66 ∷ with_character (line_of (replicate 39 65)) 66 ∷ with_character (line_of (replicate 40 65)) 66 ∷ [])
    ≡ line_of (66 ∷ []) ∷ line_of (replicate 39 65 ++ (66 ∷ [])) ∷ line_of (replicate 40 65) ∷ []
unfolding line_of with_character
one_more = refl
