-- What demand 3 supposes is met: a frame that was sent right, and of each sort of damage one that arrives. They are those of check_value's
-- witnesses; here they meet the records in plain numbers. Assumes nothing.
use mathlib.Core.Path.{refl}
use mathlib.Core.List.{List, [], ◌∷◌, ◌++◌}
use Prim.Native.Nat.{ℕ, ◌%◌, ◌/◌}
use lib.ListN.{replicate}
use native.Mathlib.Omega.{arith}
use Rattle.words.proofs.Small.{tested_bytes}
use Rattle.lists.proofs.Among.{Among, here, there}
use Rattle.check_value.specs.Check.{value_of}
use Rattle.check_value.proofs.Witness.{frame_sent, frames_received, AllDamaged, received_damaged}
use Rattle.plain.specs.Damage.{Sent, Damage}
use Rattle.plain.proofs.Damage.{so_damage}

-- the frame that reads two registers at 0101 of station 1: six bytes and their check
pub frame_sent_lem : Sent frame_sent
unfolding value_of
frame_sent_lem =
    record {
      bytes = tested_bytes frame_sent tt;
      least = omega arith;
      most = omega arith;
      body = 0x01 ∷ 0x03 ∷ 0x01 ∷ 0x01 ∷ 0x00 ∷ 0x02 ∷ [];
      its_check = refl;
    }

-- the shortest frame, of four bytes, and the longest, of a hundred: both sides of what demand 3 supposes
abbrev closed : List ℕ → List ℕ
closed body = body ++ (value_of body % 256 ∷ value_of body / 256 ∷ [])

pub shortest_sent : Sent (closed (0x01 ∷ 0x03 ∷ []))
unfolding value_of
shortest_sent =
    record { bytes = tested_bytes (closed (0x01 ∷ 0x03 ∷ [])) tt; least = omega arith; most = omega arith; body = 0x01 ∷ 0x03 ∷ []; its_check = refl }

pub longest_sent : Sent (closed (replicate 98 0x55))
unfolding value_of
longest_sent =
    record { bytes = tested_bytes (closed (replicate 98 0x55)) tt; least = omega arith; most = omega arith; body = replicate 98 0x55; its_check = refl }

-- one bit changed, two, three far apart, and sixteen in one run over three bytes
pub frames_damaged : {received : List ℕ} → Among received frames_received → Damage frame_sent received
frames_damaged m = one_of_lem frames_received received_damaged m
  where
    one_of_lem : (frames : List (List ℕ)) → AllDamaged frame_sent frames → {received : List ℕ} → Among received frames → Damage frame_sent received
    one_of_lem [] all m = elim m [ ]
    one_of_lem (frame ∷ frames) all here = so_damage all.0
    one_of_lem (frame ∷ frames) all (there m) = one_of_lem frames all.1 m
