-- Every reply with its check behind it has 5 to 99 bytes, is of bytes and passes the check. Assumes nothing.
use mathlib.Core.Path.{◌≡◌, refl, ap, ◌∙◌}
use mathlib.Core.Bool.{true}
use mathlib.Core.List.{List, [], ◌∷◌}
use Prim.Native.Nat.{ℕ, ◌+◌, ◌/◌, ◌%◌, ◌<◌, ◌≤◌}
use native.Mathlib.Omega.{arith}
use lib.ListN.{length}
use Rattle.words.specs.Words.{Bytes}
use Rattle.words.proofs.Small.{are_bytes_lem, bytes_none, bytes_one, bytes_both}
use Rattle.check_value.specs.Check.{value_of}
use Rattle.check_value.specs.Frame.{passes}
use Rattle.check_value.proofs.Shift.{value_below}
use Rattle.check_value.proofs.Zero.{closed_passes}
use Rattle.frame.specs.Reply.{error_reply, echo, with_check}
use Rattle.frame.proofs.Reading.{check_length}

-- a reply is 3 to 97 bytes with their check behind them
pub record Closed (reply : List ℕ) : Type 0 where
  pub bytes : List ℕ
  pub least : 3 ≤ length bytes
  pub most : length bytes ≤ 97
  pub is : reply ≡ with_check bytes

pub closing : (bytes : List ℕ) → 3 ≤ length bytes → length bytes ≤ 97 → Closed (with_check bytes)
closing bytes least most = record { bytes = bytes; least = least; most = most; is = refl }

pub error_closed : (frame : List ℕ) (code : ℕ) → Closed (with_check (error_reply frame code))
error_closed frame code = closing (error_reply frame code) (omega arith) (omega arith)

pub echo_closed : (frame : List ℕ) → Closed (with_check (echo frame))
echo_closed frame = closing (echo frame) (omega arith) (omega arith)

-- a check of bytes is two bytes
pub closed_bytes : (bytes : List ℕ) → Bytes bytes → Bytes (with_check bytes)
unfolding with_check
closed_bytes bytes small =
    let value : ℕ = value_of bytes in
    let below : value < 0x10000 = value_below bytes (are_bytes_lem bytes small) in
    bytes_both bytes (value % 256 ∷ value / 256 ∷ []) small
    (bytes_one (value % 256) (value / 256 ∷ []) (omega arith) (bytes_one (value / 256) [] (omega (arith, below)) bytes_none))

module _ {reply : List ℕ} (closed : Closed reply) where
  pub closed_length : (5 ≤ length reply) × (length reply ≤ 99)
  closed_length =
      let long : length reply ≡ length closed.bytes + 2 = ap length closed.is ∙ check_length closed.bytes in
      (omega (arith, closed.least), omega (arith, closed.most))

  pub closed_checked : passes reply ≡ true
  unfolding with_check
  closed_checked = ap passes closed.is ∙ closed_passes closed.bytes (omega (arith, closed.least)) (omega (arith, closed.most))
