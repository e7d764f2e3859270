-- What a call with one frame leaves of bytes is bytes: the bank, and the answer buffer. Assumes nothing.
use mathlib.Core.Path.{◌≡◌, refl}
use mathlib.Core.Bool.{Bool, true, false, cond}
use mathlib.Core.List.{List, [], ◌∷◌, ◌++◌, map}
use Prim.Native.Nat.{ℕ, ◌+◌, ◌-◌, ◌*◌, ◌<◌, ◌≤◌}
use native.Mathlib.Omega.{arith}
use lib.Dec.{ltb, eqb}
use lib.ListN.{length, drop}
use borrow.Author.Tests.{ltb-true, leb-true}
use Rattle.lists.specs.Lists.{up_from}
use Rattle.words.specs.Words.{Bytes, with_word, word_bytes, bytes_of}
use Rattle.words.proofs.Small.{word_below, bytes_none, bytes_one, bytes_both, bytes_behind, bytes_word, bytes_stored, bytes_words}
use Rattle.frame.specs.Frame.{reads, writes_many, most_read, station, function, start, second, values_at, sent}
use Rattle.frame.specs.Reply.{words_from, read_reply, echo, write_reply, top_bit, top_bit_set, error_reply}
use Rattle.frame.proofs.Closing.{closed_bytes}
use Rattle.bank_rules.specs.Stores.{stored}
use Rattle.bank_rules.specs.Bank.{mark_place}
use Rattle.bank_rules.specs.Calls.{Lent}
use Rattle.meter_rules.specs.declared.Judged.{Judged}
use Rattle.meter_rules.specs.declared.Judged.TheVariants.{FailsCheck, OtherStation, FunctionNotAllowed, WrongLength, WrongCount, WrongAddress, WrongValue, BadItem, GoodRead, GoodRecord, GoodClear, GoodWrite}
use Rattle.meter_rules.specs.Write.{run_store, run_stores}
use Rattle.meter_rules.specs.Steps.{judged_frame}
use Rattle.meter_rules.specs.Reply.{reply_to, stores_of}
use Rattle.meter_rules.specs.Answer.{Outcome, acted_on, answer_outcome}
use Rattle.meter_rules.proofs.Closing.{read_fits, judged_fits}
use Rattle.meter_rules.proofs.Outcomes.{outcome_cases}

-- ---- the reply

module _ (frame : List ℕ) (small : Bytes frame) where
  top_bit_byte : (byte : ℕ) → byte < 256 → top_bit_set byte < 256
  top_bit_byte byte fits = go (ltb byte top_bit) refl
    where
      go : (under : Bool) → ltb byte top_bit ≡ under → cond under (byte + top_bit) byte < 256
      go true e = omega (arith, ltb-true byte top_bit e)
      go false e = fits

  error_bytes : (code : ℕ) → code < 256 → Bytes (error_reply frame code)
  error_bytes code fits =
      bytes_one (station frame) (top_bit_set (function frame) ∷ code ∷ []) (small 0)
      (bytes_one (top_bit_set (function frame)) (code ∷ []) (top_bit_byte (function frame) (small 1)) (bytes_one code [] fits bytes_none))

  echo_bytes : (code : ℕ) → code < 256 → Bytes (station frame ∷ code ∷ word_bytes (start frame) ++ word_bytes (second frame))
  echo_bytes code fits =
      let words : List ℕ = word_bytes (start frame) ++ word_bytes (second frame) in
      bytes_one (station frame) (code ∷ words) (small 0)
      (bytes_one code words fits
      (bytes_both (word_bytes (start frame)) (word_bytes (second frame)) (bytes_word (start frame) (word_below frame small 2))
      (bytes_word (second frame) (word_below frame small 4))))

  write_bytes : Bytes (write_reply frame)
  write_bytes = go (eqb (function frame) writes_many)
    where
      go : (many : Bool) → Bytes (cond many (station frame ∷ writes_many ∷ word_bytes (start frame) ++ word_bytes (second frame)) (echo frame))
      go true = echo_bytes writes_many (omega arith)
      go false = echo_bytes (function frame) (small 1)

  read_bytes : (bank : List ℕ) → Bytes bank → (first many : ℕ) → many ≤ most_read → Bytes (read_reply bank frame first many)
  read_bytes bank held first many few =
      let words : List ℕ = bytes_of (words_from bank first many) in
      bytes_one (station frame) (reads ∷ (2 * many) ∷ words) (small 0)
      (bytes_one reads ((2 * many) ∷ words) (omega arith) (bytes_one (2 * many) words (omega (arith, few)) (bytes_words bank held (up_from first many))))

  reply_bytes : (judged : Judged) (bank ring : List ℕ) → Bytes bank → Bytes ring → read_fits judged ≡ true → Bytes (reply_to judged bank ring frame)
  unfolding reply_to
  reply_bytes FailsCheck bank ring held kept fits = bytes_none
  reply_bytes OtherStation bank ring held kept fits = bytes_none
  reply_bytes FunctionNotAllowed bank ring held kept fits = closed_bytes (error_reply frame 1) (error_bytes 1 (omega arith))
  reply_bytes WrongLength bank ring held kept fits = bytes_none
  reply_bytes WrongCount bank ring held kept fits = closed_bytes (error_reply frame 3) (error_bytes 3 (omega arith))
  reply_bytes WrongAddress bank ring held kept fits = closed_bytes (error_reply frame 2) (error_bytes 2 (omega arith))
  reply_bytes WrongValue bank ring held kept fits = closed_bytes (error_reply frame 3) (error_bytes 3 (omega arith))
  reply_bytes (BadItem first stop side) bank ring held kept fits = closed_bytes (error_reply frame 3) (error_bytes 3 (omega arith))
  reply_bytes (GoodRead first many) bank ring held kept fits =
      closed_bytes (read_reply bank frame first many) (read_bytes bank held first many (leb-true many most_read fits))
  reply_bytes (GoodRecord first many) bank ring held kept fits =
      closed_bytes (read_reply ring frame first many) (read_bytes ring kept first many (leb-true many most_read fits))
  reply_bytes GoodClear bank ring held kept fits = closed_bytes (echo frame) (echo_bytes (function frame) (small 1))
  reply_bytes (GoodWrite first many) bank ring held kept fits = closed_bytes (write_reply frame) write_bytes

  -- ---- the bank

  run_bytes : (first : ℕ) (ks bank : List ℕ) → Bytes bank → Bytes (stored bank (map (run_store frame first) ks))
  unfolding stored
  run_bytes first [] bank held = held
  run_bytes first (k ∷ ks) bank held =
      run_bytes first ks (with_word bank (2 * (first + k)) (sent frame k))
      (bytes_stored bank (2 * (first + k)) (sent frame k) (word_below frame small (values_at frame + 2 * k)) held)

  stored_bytes : (judged : Judged) (sheet bank : List ℕ) → Bytes bank → Bytes (stored bank (stores_of judged sheet frame))
  unfolding stores_of run_stores stored
  stored_bytes FailsCheck sheet bank held = held
  stored_bytes OtherStation sheet bank held = held
  stored_bytes FunctionNotAllowed sheet bank held = held
  stored_bytes WrongLength sheet bank held = held
  stored_bytes WrongCount sheet bank held = held
  stored_bytes WrongAddress sheet bank held = held
  stored_bytes WrongValue sheet bank held = held
  stored_bytes (BadItem first stop side) sheet bank held = run_bytes first (up_from 0 (stop - first)) bank held
  stored_bytes (GoodRead first many) sheet bank held = held
  stored_bytes (GoodRecord first many) sheet bank held = held
  stored_bytes GoodClear sheet bank held = bytes_stored bank (2 * mark_place sheet) 0 (omega arith) held
  stored_bytes (GoodWrite first many) sheet bank held = run_bytes first (up_from 0 (first + many - first)) bank held

-- ---- the call

pub answer_bytes : (given : Lent) (frame buffer : List ℕ) → Bytes given.bank → Bytes given.ring → Bytes frame → Bytes buffer
    → Bytes (answer_outcome given frame buffer).bank × Bytes (answer_outcome given frame buffer).buffer
unfolding acted_on
answer_bytes given frame buffer held kept small room =
    outcome_cases given frame buffer (λ (o : Outcome). Bytes o.bank × Bytes o.buffer) (λ refusal. (held, room))
    (λ found ringed.
    let judged : Judged = judged_frame given frame in
    let reply : List ℕ = reply_to judged given.bank given.ring frame in (
      stored_bytes frame small judged given.sheet given.bank held,
      bytes_both reply (drop (length reply) buffer)
          (reply_bytes frame small judged given.bank given.ring held kept (judged_fits given frame found.right))
          (bytes_behind (length reply) buffer room),
    ))
