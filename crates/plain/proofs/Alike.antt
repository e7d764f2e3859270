-- A read is answered alike by two banks that agree outside the areas of access 2, and the reason that it gets is the same: every condition of a read
-- is the same of both, and so is every word that it sends. Assumes nothing.
use mathlib.Core.Path.{◌≡◌, refl, sym, ap, ◌∙◌}
use mathlib.Core.Bool.{true}
use mathlib.Core.Logic.{◌⊎◌, inl, inr}
use mathlib.Core.List.{List}
use Prim.Native.Nat.{ℕ, ◌*◌, ◌<◌}
use native.Mathlib.Omega.{arith}
use Rattle.sheet_rules.specs.Rules.{sound}
use Rattle.bank_rules.specs.Calls.{Lent}
use Rattle.sheet_rules.proofs.Addresses.{at_access}
use Rattle.plain.specs.Numbers.{byte, word}
use Rattle.plain.specs.Sheet.{LiesAt}
use Rattle.plain.specs.Records.{AtRecord}
use Rattle.plain.specs.Frame as fates
use Rattle.plain.specs.Frame.{OurStation, RightAddress, RightValue, registers, address, Readable, Fate, Gets}
use Rattle.plain.specs.Left as plain
use Rattle.plain.specs.Left.{Left, ReadReply, HandsBack, WordLeft, Leaves}
use Rattle.plain.specs.Why as why
use Rattle.plain.specs.Why.{AsFunction, AsCount, FirstBadAddress, Why}
use Rattle.plain.specs.Alike.{with_bank, AgreeOutside}
use Rattle.plain.proofs.Rows.{plain_lies}

-- what lies at an address has one access
pub access_once : (sheet : List ℕ) → sound sheet ≡ true → {at p q x y : ℕ} → LiesAt sheet at p x → LiesAt sheet at q y → x ≡ y
access_once sheet keeps {at} {p} {q} {x} {y} one other =
    at_access (plain_lies sheet keeps one) (plain_lies sheet keeps other)

module _ (given : Lent) (bank : List ℕ) (agree : AgreeOutside given bank) (frame : List ℕ) (reads : byte frame 1 ≡ 0x03) where
  abbrev other : Lent
  other = with_bank given bank

  -- a read is no clear and no write
  no_clear : byte frame 1 ≡ 0x05 → ⊥
  no_clear is = omega (arith, reads, is)

  no_write : (byte frame 1 ≡ 0x06) ⊎ (byte frame 1 ≡ 0x10) → ⊥
  no_write (inl is) = omega (arith, reads, is)
  no_write (inr is) = omega (arith, reads, is)

  -- ---- the conditions

  ours : OurStation other frame → OurStation given frame
  ours is = is ∙ agree.station

  ours_too : OurStation given frame → OurStation other frame
  ours_too is = is ∙ sym agree.station

  addressed : RightAddress other frame → RightAddress given frame
  addressed right =
      record { at_most47 = right.at_most47; read = right.read; recorded = right.recorded; written = right.written; cleared = right.cleared }

  addressed_too : RightAddress given frame → RightAddress other frame
  addressed_too right =
      record { at_most47 = right.at_most47; read = right.read; recorded = right.recorded; written = right.written; cleared = right.cleared }

  -- condition 7 asks nothing of a read
  valued : (lent : Lent) → RightValue lent frame
  valued lent = record { of_clear = λ is. absurd (no_clear is); of_items = λ is. absurd (no_write is) }

  pub gets_alike : {fate : Fate} → Gets other frame fate → Gets given frame fate
  gets_alike (fates.not_whole e) = fates.not_whole e
  gets_alike (fates.other_station whole e) = fates.other_station whole (λ is. e (ours_too is))
  gets_alike (fates.not_allowed whole our e) = fates.not_allowed whole (ours our) e
  gets_alike (fates.wrong_length whole our allowed e) = fates.wrong_length whole (ours our) allowed e
  gets_alike (fates.wrong_count whole our allowed long e) = fates.wrong_count whole (ours our) allowed long e
  gets_alike (fates.wrong_address whole our allowed long counted e) =
      fates.wrong_address whole (ours our) allowed long counted (λ right. e (addressed_too right))
  gets_alike (fates.wrong_value whole our allowed long counted right e) = absurd (e (valued other))
  gets_alike (fates.all_right whole our allowed long counted right inside) =
      fates.all_right whole (ours our) allowed long counted (addressed right) (valued given)

  -- ---- the reason

  function_alike : AsFunction other frame → AsFunction given frame
  function_alike so_far = record { whole = so_far.whole; ours = ours so_far.ours; allowed = so_far.allowed }

  count_alike : AsCount other frame → AsCount given frame
  count_alike so_far =
      record { function = function_alike so_far.function; long = so_far.long; counted = so_far.counted; few = so_far.few }

  first_alike : {at : ℕ} → FirstBadAddress other frame at → FirstBadAddress given frame at
  first_alike (why.of_run outside k less shut front) = why.of_run outside k less shut front
  first_alike (why.of_record is number many words at beyond) = why.of_record is number many words at beyond
  first_alike (why.of_clear is e) = why.of_clear is e

  pub why_alike : {reason at side : ℕ} → Why other frame reason at side → Why given frame reason at side
  why_alike (why.by_none gets) = why.by_none (gets_alike gets)
  why_alike (why.by_too_short e) = why.by_too_short e
  why_alike (why.by_too_long e) = why.by_too_long e
  why_alike (why.by_check least most e) = why.by_check least most e
  why_alike (why.by_station whole e) = why.by_station whole (λ is. e (ours_too is))
  why_alike (why.by_function whole our e) = why.by_function whole (ours our) e
  why_alike (why.by_body_length so_far e) = why.by_body_length (function_alike so_far) e
  why_alike (why.by_count so_far long e) = why.by_count (function_alike so_far) long e
  why_alike (why.by_address so_far first) = why.by_address (count_alike so_far) (first_alike first)
  why_alike (why.by_clear_value so_far right is e) = absurd (no_clear is)
  why_alike (why.by_item so_far right item) = absurd (no_write item.writes)

  -- ---- what is handed back

  -- the same handed back, and the bank as it was
  abbrev pub handed_alike : Left → Left
  handed_alike left = record { number = left.number; size = left.size; rate = left.rate; bank = given.bank; buffer = left.buffer }

  readable : Gets other frame fates.good → (AtRecord given.sheet (word frame 2) → ⊥) → (k : ℕ) → k < registers frame
      → Readable given.sheet (address frame k)
  readable (fates.all_right whole our allowed long counted right inside) none k less = right.read reads none k less

  module _ (keeps : sound given.sheet ≡ true) where
    words_alike : {before after : List ℕ} → ((k : ℕ) → k < registers frame → Readable given.sheet (address frame k)) → ReadReply other frame before after
        → ReadReply given frame before after
    words_alike all reply =
        record {
          closed = reply.closed;
          station = reply.station;
          function = reply.function;
          bytes = reply.bytes;
          words = λ k place access less lies. reply.words k place access less lies ∙ agree.elsewhere (address frame k) place access lies (open? k less lies);
        }
      where
        open? : (k : ℕ) → k < registers frame → {place access : ℕ} → LiesAt given.sheet (address frame k) place access → access ≡ 2 → ⊥
        open? k less lies two = go (all k less).permitted
          where
            go : ((all k less).access ≡ 1) ⊎ ((all k less).access ≡ 3) → ⊥
            go (inl e) = omega (arith, e, two, access_once given.sheet keeps lies (all k less).lies)
            go (inr e) = omega (arith, e, two, access_once given.sheet keeps lies (all k less).lies)

    hands_alike : {before : List ℕ} {left : Left} {fate : Fate} → Gets other frame fate → HandsBack other frame before left fate
        → HandsBack given frame before (handed_alike left) fate
    hands_alike gets (plain.quiet is) = plain.quiet (ap handed_alike is)
    hands_alike gets (plain.erred number size rate reply) = plain.erred number size (rate ∙ agree.rate) reply
    hands_alike gets (plain.read asks none number size rate reply) =
        plain.read asks none number size (rate ∙ agree.rate) (words_alike (readable gets none) reply)
    hands_alike gets (plain.recorded asks k many words at number size rate reply) =
        plain.recorded asks k many words at number size (rate ∙ agree.rate) reply
    hands_alike gets (plain.echoed asks number size rate reply) = absurd (asks reads)

    unchanged : (place : ℕ) → WordLeft given frame place (word given.bank (2 * place))
    unchanged place = plain.as_before (λ k stored. no_write stored.through.writes) (λ clears. no_clear clears.1) refl

    -- what the one bank leaves to a read is what the other one does, but for the bank itself, which stays
    pub leaves_alike : {before : List ℕ} {left : Left} → Leaves other frame before left → Leaves given frame before (handed_alike left)
    leaves_alike leaves =
        record {
          fate = leaves.fate;
          gets = gets_alike leaves.gets;
          hands_back = hands_alike leaves.gets leaves.hands_back;
          bank_size = refl;
          words = unchanged;
        }
