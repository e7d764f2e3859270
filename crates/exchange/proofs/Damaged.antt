-- A reply damaged as in demand 3 is refused by 10, and the buffer is as it was. Assumes nothing.
use mathlib.Core.Path.{◌≡◌, ap, ◌∙◌}
use mathlib.Core.Bool.{true, false, not}
use mathlib.Core.List.{List}
use Prim.Native.Nat.{ℕ, ◌≤◌}
use lib.ListN.{length}
use borrow.Author.Tests.{le-ltb}
use Rattle.lists.specs.Cases.{first_case}
use Rattle.frame.specs.Reply.{least_buffer}
use Rattle.controller_rules.specs.Order.{Asked, no_frame}
use Rattle.controller_rules.specs.Reading.{damaged_reply, reading_of, reading_outcome}
use Rattle.plain.specs.Damage.{Sent, Damage}
use Rattle.plain.proofs.Damage.{damaged_fails}
use Rattle.cedarskein.specs.Door.{ReplyTold, reply_told, reply_told_of}
use Rattle.demands.proofs.Calls.{Reads, reads_is, reads_bytes}

module _ (asked : Asked) (reply out : List ℕ) (has : no_frame asked ≡ false) (large : 100 ≤ length out) where
  fails_told : damaged_reply reply ≡ true → reply_told_of (reading_outcome asked reply out) ≡ reply_told 10 0 0 out
  unfolding reading_outcome reading_of first_case
  fails_told fails = simp (has, le-ltb (length out) least_buffer large, fails)

  -- rule Q56
  pub damaged_reply_refused : {told : ReplyTold} → Reads asked reply out told → (sent : List ℕ) → Sent sent → Damage sent reply → told ≡ reply_told 10 0 0 out
  damaged_reply_refused call sent is damage = reads_is call ∙ fails_told (ap not (damaged_fails sent reply is (reads_bytes call).1 damage))
