-- Reading and writing by the access of an area, over the calls themselves: a good read is of addresses that can be read, a good write of ones that can be
-- written, and leaves each word as sent; what is written in an area of access 2 changes no read. Assumes nothing.
use mathlib.Core.Path.{◌≡◌, refl, sym, ap, ap₂, subst, ◌∙◌}
use mathlib.Core.Bool.{true}
use mathlib.Core.List.{List}
use mathlib.Core.Logic.{◌⊎◌, inl, inr}
use Prim.Native.Nat.{ℕ, ◌*◌, ◌<◌}
use native.Mathlib.Omega.{arith}
use Rattle.sheet_rules.specs.Rules.{sound}
use Rattle.sheet_rules.proofs.Addresses.{place_address}
use Rattle.sheet_rules.specs.declared.Item.{Item}
use Rattle.bank_rules.specs.Calls.{Lent}
use Rattle.bank_rules.proofs.Held.{holds_first, holder_alone}
use Rattle.plain.specs.Numbers.{byte, word}
use Rattle.plain.specs.Sheet.{ItemRow, LiesAt, WritableAt}
use Rattle.plain.specs.Records.{AtRecord}
use Rattle.plain.specs.Frame as fates
use Rattle.plain.specs.Frame.{good, error, Gets, Whole, OurStation, Allowed, RightLength, RightCount, Readable, Writable, registers, address, sent_word, Touches, ValueWouldBe, Within}
use Rattle.plain.specs.Left as plain
use Rattle.plain.specs.Left.{Left, LetThrough, Stored, WordLeft}
use Rattle.plain.specs.Why as why
use Rattle.plain.specs.Why.{Why}
use Rattle.plain.specs.Alike.{with_bank, AgreeOutside}
use Rattle.plain.proofs.Rows.{plain_lies, row_item}
use Rattle.plain.proofs.Registers.{lies_once}
use Rattle.plain.proofs.FullPairs.{full_pair_within, full_pair_never_bad}
use Rattle.plain.proofs.Alike.{access_once, leaves_alike, why_alike}
use Rattle.plain.proofs.ReadOnly.{one_access}
use Rattle.cedarskein.specs.Door.{Handed, Said, said}
use Rattle.demands.specs.Seen.{Accepted, left_by, Replied, HandedAlike}
use Rattle.demands.specs.Reasons.{Errs}
use Rattle.demands.proofs.Calls.{Answers, Explains, answers_bytes, explains_bytes}
use Rattle.demands.proofs.Frames.{frame_leaves, leaves_once}
use Rattle.demands.proofs.Reasons.{seen_gets, told_sound, why_true, why_once}

module _ (given : Lent) (frame buffer : List ℕ) (accepted : Accepted given buffer) {left : Handed} (call : Answers given frame buffer left) where
  keeps : sound given.sheet ≡ true
  keeps = accepted.sheet_sound

  gets : Replied left → Gets given frame good
  gets replied = (seen_gets given frame buffer accepted call good).0 replied

  -- ---- rule J61: where a read gets a reply, each of its addresses lies in an area of access 1 or 3, or it is a record's

  pub good_read_lem : Replied left → byte frame 1 ≡ 0x03 → (AtRecord given.sheet (word frame 2) → ⊥) → (k : ℕ) → k < registers frame
      → Readable given.sheet (address frame k)
  good_read_lem replied is none k less = go (gets replied)
    where
      go : Gets given frame good → Readable given.sheet (address frame k)
      go (fates.all_right whole ours allowed long counted right inside) = right.read is none k less

  -- ---- a read that steps 1 to 5 let through and that touches an area of access 2 gets error 02

  pub preset_unread : Whole frame → OurStation given frame → Allowed given.sheet frame → RightLength frame → RightCount given.sheet frame
      → byte frame 1 ≡ 0x03 → (AtRecord given.sheet (word frame 2) → ⊥) → (k place : ℕ) → k < registers frame
      → LiesAt given.sheet (address frame k) place 2 → Errs 2 left
  preset_unread whole ours allowed long counted is none k place less lies =
      (seen_gets given frame buffer accepted call (error 2)).1
      (fates.wrong_address whole ours allowed long counted (λ right. shut (right.read is none k less)))
    where
      shut : Readable given.sheet (address frame k) → ⊥
      shut open_at = go open_at.permitted
        where
          same : open_at.access ≡ 2
          same = access_once given.sheet keeps open_at.lies lies

          go : (open_at.access ≡ 1) ⊎ (open_at.access ≡ 3) → ⊥
          go (inl e) = omega (arith, e, same)
          go (inr e) = omega (arith, e, same)

  -- ---- rule J61: where a write gets a reply, each of its addresses lies in an area of access 2 or 3

  module _ (writing : (byte frame 1 ≡ 0x06) ⊎ (byte frame 1 ≡ 0x10)) where
    not_clear : byte frame 1 ≡ 0x05 → ⊥
    not_clear is = go writing
      where
        go : (byte frame 1 ≡ 0x06) ⊎ (byte frame 1 ≡ 0x10) → ⊥
        go (inl one) = omega (arith, one, is)
        go (inr many) = omega (arith, many, is)

    pub good_write : Replied left → (k : ℕ) → k < registers frame → Writable given.sheet (address frame k)
    good_write replied k less = go (gets replied)
      where
        go : Gets given frame good → Writable given.sheet (address frame k)
        go (fates.all_right whole ours allowed long counted right inside) = right.written writing k less

    -- ---- each word of a good write is in the bank as sent

    stored_in : Gets given frame good → (k place : ℕ) → k < registers frame → WritableAt given.sheet (address frame k) place → Stored given frame k place
    stored_in (fates.all_right whole ours allowed long counted right inside) k place less lies =
        record {
          through = record { whole = whole; ours = ours; allowed = allowed; long = long; counted = counted; addressed = right; writes = writing };
          goes = (less, lies);
          in_front =
              λ kind first low high value row touches would bad.
              absurd (bad (inside.of_items writing kind first low high value row touches would));
        }

    -- two addresses of one place are one
    one_address : {a b place : ℕ} → WritableAt given.sheet a place → WritableAt given.sheet b place → a ≡ b
    one_address {a} {b} {place} one other =
        sym (place_address given.sheet keeps a place one.access (plain_lies given.sheet keeps one.lies))
        ∙ place_address given.sheet keeps b place other.access (plain_lies given.sheet keeps other.lies)

    pub written_as_sent : Replied left → (k place : ℕ) → k < registers frame → WritableAt given.sheet (address frame k) place
        → word left.bank (2 * place) ≡ sent_word frame k
    written_as_sent replied k place less lies = go ((frame_leaves given frame buffer accepted call).words place)
      where
        go : {w : ℕ} → WordLeft given frame place w → w ≡ sent_word frame k
        go (plain.stored other there is) =
            is ∙ ap (sent_word frame) (let same : other ≡ k = omega (arith, one_address there.goes.1 lies) in same)
        go (plain.cleared clears is) = absurd (not_clear clears.1)
        go (plain.as_before none unclear is) = absurd (none k (stored_in (gets replied) k place less lies))

    -- ---- a write of access 2 areas alone, be it stopped at a bad item: the bank agrees with the one before outside of them, as far as it keeps station and rate

    pub hidden_write : ((k place access : ℕ) → k < registers frame → LiesAt given.sheet (address frame k) place access → access ≡ 2)
        → word left.bank (2 * word given.sheet 16) ≡ word given.bank (2 * word given.sheet 16)
        → word left.bank (2 * word given.sheet 18) ≡ word given.bank (2 * word given.sheet 18)
        → AgreeOutside given left.bank
    hidden_write hidden station rate =
        record {
          station = station;
          rate = rate;
          elsewhere = λ at place access lies other. go lies other ((frame_leaves given frame buffer accepted call).words place);
        }
      where
        go : {at place access w : ℕ} → LiesAt given.sheet at place access → (access ≡ 2 → ⊥) → WordLeft given frame place w
            → w ≡ word given.bank (2 * place)
        go {place = place} lies other (plain.stored k stored is) =
            let there = stored.goes.1 in
            absurd (other (one_access given.sheet keeps lies there.lies ∙ hidden k place there.access stored.goes.0 there.lies))
        go lies other (plain.cleared clears is) = absurd (not_clear clears.1)
        go lies other (plain.as_before none unclear is) = is

-- ---- a read is answered alike, whatever the areas of access 2 hold

-- what another call handed back, with this bank as it was
abbrev alike_to : Lent → Handed → Left
alike_to given other = record { number = other.number; size = other.length; rate = other.rate; bank = given.bank; buffer = other.buffer }

module _ (given : Lent) (bank frame buffer : List ℕ) (accepted : Accepted given buffer) (accepted-too : Accepted (with_bank given bank) buffer)
    (agree : AgreeOutside given bank) (reads : byte frame 1 ≡ 0x03) where
  pub read_alike : {left other : Handed} → Answers given frame buffer left → Answers (with_bank given bank) frame buffer other → HandedAlike left other
  read_alike {left} {other} call call-too =
      record {
        number = ap (λ (l : Left). l.number) same;
        size = ap (λ (l : Left). l.size) same;
        rate = ap (λ (l : Left). l.rate) same;
        buffer = ap (λ (l : Left). l.buffer) same;
      }
    where
      same : left_by left ≡ alike_to given other
      same =
          leaves_once given frame buffer accepted call (alike_to given other) (answers_bytes call).1 (answers_bytes call-too).6
          (leaves_alike given bank agree frame reads accepted.sheet_sound (frame_leaves (with_bank given bank) frame buffer accepted-too call-too))

-- .. and so is the question why
pub why_alike_told : (given : Lent) (bank frame : List ℕ) → AgreeOutside given bank → byte frame 1 ≡ 0x03 → {told other : Said}
    → Explains given frame told → Explains (with_bank given bank) frame other → told.number ≡ 0 → other.number ≡ 0 → told ≡ other
why_alike_told given bank frame agree reads {told} {other} call call-too taken taken-too =
    let found = why_once given frame call taken (why_alike given bank agree frame reads (why_true (with_bank given bank) frame call-too taken-too)) in
    ap₂ (λ (number reason : ℕ). said number reason told.address told.side) (taken ∙ sym taken-too) (sym found.0)
    ∙ ap₂ (λ (at side : ℕ). said other.number other.reason at side) (sym found.1) (sym found.2)

-- ---- rule K13, over the calls: pairs over all 32 bits

-- a write that steps 1 to 6 let through, and that touches such pairs alone, gets a reply without error, whatever is sent and whatever the bank holds
pub full_pairs_taken : (given : Lent) (frame buffer : List ℕ) → Accepted given buffer → {left : Handed} → Answers given frame buffer left → LetThrough given frame
    → ((kind place low high : ℕ) → ItemRow given.sheet kind place low high → Touches given.sheet frame kind place → (kind ≡ 2) × (low ≡ 0) × (high ≡ 0xFFFFFFFF))
    → Replied left
full_pairs_taken given frame buffer accepted call through alone =
    (seen_gets given frame buffer accepted call good).1
    (fates.all_right through.whole through.ours through.allowed through.long through.counted through.addressed
    record { of_clear = λ is. absurd (not_clear given frame buffer accepted call through.writes is); of_items = λ is kind place low high value row touches would. within row touches would })
  where
    within : {kind place low high value : ℕ} → ItemRow given.sheet kind place low high → Touches given.sheet frame kind place
        → ValueWouldBe given frame place value kind → Within kind low high value
    within {kind} {place} {low} {high} {value} row touches would =
        let full = alone kind place low high row touches in
        subst (λ (n : ℕ). Within n low high value) (sym full.0)
        (subst (λ (n : ℕ). Within 2 n high value) (sym full.1)
        (subst (λ (n : ℕ). Within 2 0 n value) (sym full.2)
        (full_pair_within given frame (answers_bytes call).1 (answers_bytes call).3 (subst (ValueWouldBe given frame place value) full.0 would))))

-- and no call for the reason tells of such a pair that it is bad
pub full_pair_never_told : (given : Lent) (frame : List ℕ) {told : Said} → Explains given frame told → told.number ≡ 0 → {place : ℕ}
    → ItemRow given.sheet 2 place 0 0xFFFFFFFF → WritableAt given.sheet told.address place → told.reason ≡ 10 → ⊥
full_pair_never_told given frame {told} call taken {place} row there is = go (why_true given frame call taken) is there
  where
    sheet_sound_lem : sound given.sheet ≡ true
    sheet_sound_lem = told_sound given frame call taken

    go : {reason at side : ℕ} → Why given frame reason at side → reason ≡ 10 → WritableAt given.sheet at place → ⊥
    go (why.by_none gets) e at = omega (arith, e)
    go (why.by_too_short f) e at = omega (arith, e)
    go (why.by_too_long f) e at = omega (arith, e)
    go (why.by_check least most f) e at = omega (arith, e)
    go (why.by_station whole f) e at = omega (arith, e)
    go (why.by_function whole our f) e at = omega (arith, e)
    go (why.by_body_length so_far f) e at = omega (arith, e)
    go (why.by_count so_far long f) e at = omega (arith, e)
    go (why.by_address so_far first) e at = omega (arith, e)
    go (why.by_clear_value so_far right is-clear f) e at = omega (arith, e)
    go (why.by_item so_far right first) e at =
        let same : first.place ≡ place = lies_once given.sheet sheet_sound_lem first.its_address.lies at.lies in
        let one : Item = record { kind = first.kind; place = first.place; low = first.low; high = first.high } in
        let pair : Item = record { kind = 2; place = place; low = 0; high = 0xFFFFFFFF } in
        let alone : one ≡ pair =
        holder_alone given.sheet sheet_sound_lem place (row_item given.sheet first.row) (holds_first one place same) (row_item given.sheet row) (holds_first pair place refl) in
        full_pair_never_bad given frame (explains_bytes call).1 (explains_bytes call).3 first
        (ap (λ (i : Item). i.kind) alone) (ap (λ (i : Item). i.low) alone) (ap (λ (i : Item). i.high) alone)
