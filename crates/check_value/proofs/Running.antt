-- The running state, one byte after another: what is left from a place on. Assumes nothing.
use mathlib.Core.Path.{◌≡◌, ap}
use mathlib.Core.List.{List}
use Prim.Native.Nat.{ℕ, ◌+◌, ◌≤◌, ◌<◌}
use native.Mathlib.Numerals.{add-one}
use lib.ListN.{length, get_or, drop, drop_of_length-le}
use lib.Seq.{drop-cons}
use Rattle.check_value.specs.Check.{taken, state_after}

pub after_step : (state : ℕ) (bytes : List ℕ) (at : ℕ) → at < length bytes
    → state_after state (drop at bytes) ≡ state_after (taken state (get_or bytes at 0)) (drop (at + 1) bytes)
unfolding state_after
after_step state bytes at inside = rw (add-one, drop-cons bytes at 0 inside)

pub after_end : (state : ℕ) (bytes : List ℕ) (at : ℕ) → length bytes ≤ at → state_after state (drop at bytes) ≡ state
unfolding state_after
after_end state bytes at past = ap (state_after state) (drop_of_length-le bytes past)
