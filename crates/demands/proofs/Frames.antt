-- Demands 2 and 3 over the calls themselves. Demand 2: what is handed back and left is what the plain numbers say (`Leaves`), and they leave
-- no choice. A frame for a station that no meter has, and demand 3, what arrives damaged of a frame that was sent right: silence, and nothing is
-- touched. That what was lent is bytes is supposed nowhere: the call says it. Assumes nothing.
use mathlib.Core.Path.{◌≡◌, sym, ap, subst, ◌∙◌}
use mathlib.Core.Bool.{not}
use mathlib.Core.List.{List}
use mathlib.Core.Logic.{◌↔◌, ◌⊎◌}
use Prim.Native.Nat.{ℕ, ◌*◌, ◌+◌}
use native.Mathlib.Omega.{arith}
use lib.ListN.{length}
use borrow.Author.Tests.{eqb-true, le-ltb}
use Rattle.lists.specs.Cases.{first_case}
use Rattle.bank_rules.specs.Bank.{bank_bytes}
use Rattle.bank_rules.specs.Calls.{Lent}
use Rattle.meter_rules.specs.Steps.{judged_frame}
use Rattle.frame.specs.Reply.{least_buffer}
use Rattle.meter_rules.specs.Answer.{frame_check, acted_on, answer_outcome}
use Rattle.plain.specs.Numbers.{Bytes, byte, word}
use Rattle.plain.specs.Sheet.{LiesAt}
use Rattle.plain.specs.Frame as fates
use Rattle.plain.specs.Frame.{Fate, silence, good, Gets, Within, address}
use Rattle.plain.specs.Stations.{Station, KeptBack}
use Rattle.plain.specs.Damage.{Sent, Damage}
use Rattle.plain.specs.Registers.{write_one, TakenWithin}
use Rattle.plain.specs.Left as plain
use Rattle.plain.specs.Left.{Left, Leaves}
use Rattle.plain.proofs.Rows.{word_same}
use Rattle.plain.proofs.Damage.{damaged_fails}
use Rattle.plain.proofs.Conditions.{whole_tells}
use Rattle.plain.proofs.Fates.{one_fate, unmet}
use Rattle.plain.proofs.Stations.{bank_station_lem, kept_back_quiet}
use Rattle.plain.proofs.ReadOnly as read_only_lem
use Rattle.plain.proofs.Once as once
use Rattle.plain.proofs.Meets.{meets}
use Rattle.cedarskein.specs.Door.{Handed, handed, handed_of}
use Rattle.demands.specs.Seen.{Accepted, left_by}
use Rattle.demands.proofs.Calls.{Answers, answers_is, answers_bytes}

module _ (given : Lent) (frame buffer : List ℕ) (accepted : Accepted given buffer) where
  -- where nothing is refused, the frame is acted on
  acted : answer_outcome given frame buffer ≡ acted_on (judged_frame given frame) given frame buffer
  unfolding answer_outcome frame_check first_case
  acted =
      simp (accepted.sheet_sound, accepted.bank_fits, accepted.bank_whole, accepted.ring_goes, le-ltb (length buffer) least_buffer accepted.buffer_long)

  -- rule J21: the bank is at one of the stations 1 to 247
  pub at_station : Station (word given.bank (2 * word given.sheet 16))
  at_station = bank_station_lem given accepted.sheet_sound accepted.bank_whole

  module _ {left : Handed} (call : Answers given frame buffer left) where
    sheet_bytes : Bytes given.sheet
    sheet_bytes = (answers_bytes call).0

    frame_bytes : Bytes frame
    frame_bytes = (answers_bytes call).3

    -- demand 2: what a call hands back and leaves
    pub frame_leaves : Leaves given frame buffer (left_by left)
    frame_leaves =
        subst (λ (h : Handed). Leaves given frame buffer (left_by h)) (sym (answers_is call ∙ ap handed_of acted))
        (meets given frame buffer record { right = accepted.sheet_sound; fitting = accepted.bank_fits; whole = accepted.bank_whole } accepted.ring_goes sheet_bytes frame_bytes
        accepted.buffer_long)

    -- .. and that leaves no choice: no other outcome of bytes is so
    pub leaves_once : (other : Left) → Bytes other.bank → Bytes other.buffer → Leaves given frame buffer other → left_by left ≡ other
    leaves_once other bank-bytes buffer-bytes leaves =
        once.leaves_once given frame accepted.sheet_sound sheet_bytes buffer accepted.ring_goes size accepted.buffer_long
        (left_by left) other (answers_bytes call).5 bank-bytes (answers_bytes call).6 buffer-bytes frame_leaves leaves
      where
        size : length given.bank ≡ 2 * word given.sheet 10 + 2
        size =
            eqb-true (length given.bank) (bank_bytes given.sheet) accepted.bank_fits
            ∙ omega (arith, word_same given.sheet 10)

    -- a word that lies in an access 1 area is as before, whatever the frame
    pub read_only_kept : {address place : ℕ} → LiesAt given.sheet address place 1
        → word left.bank (2 * place) ≡ word given.bank (2 * place)
    read_only_kept {address} {place} lies =
        read_only_lem.read_only_kept given frame accepted.sheet_sound lies (frame_leaves.words place)

    -- a word that is not as before is one that a write goes to, at an address of its run in an area of access 2 or 3, or the mark of a clear
    pub changed_writable : {place : ℕ} → (word left.bank (2 * place) ≡ word given.bank (2 * place) → ⊥)
        → (((byte frame 1 ≡ 0x06) ⊎ (byte frame 1 ≡ 0x10)) × ((k : ℕ) × fates.Goes given.sheet frame k place)) ⊎ ((byte frame 1 ≡ 0x05) × (place ≡ word given.sheet 10))
    changed_writable {place} other =
        read_only_lem.changed_writable given frame accepted.sheet_sound (frame_leaves.words place) other

    -- a 06 that is good exactly if a value is within bounds gets the eight bytes of its echo exactly then
    pub taken_echoed : {at sent kind low high value : ℕ} → TakenWithin given at sent kind low high value
        → frame ≡ write_one given at sent → (left.length ≡ 8) ↔ Within kind low high value
    taken_echoed {at} {sent} {kind} {low} {high} {value} within is = (to frame_leaves, from frame_leaves)
      where
        one : byte frame 1 ≡ 6
        one = ap (λ (f : List ℕ). byte f 1) is

        sized : {fate : Fate} → plain.HandsBack given frame buffer (left_by left) fate → left.length ≡ 8
            → Gets given frame fate → Gets given frame good
        sized (plain.quiet e) eight gets = absurd (omega (arith, eight, ap (λ (l : Left). l.size) e))
        sized (plain.erred n size r reply) eight gets = absurd (omega (arith, eight, size))
        sized (plain.read asks none n size r reply) eight gets = gets
        sized (plain.recorded asks number many words at n size r reply) eight gets = gets
        sized (plain.echoed asks n size r reply) eight gets = gets

        to : Leaves given frame buffer (left_by left) → left.length ≡ 8 → Within kind low high value
        to leaves eight =
            within.taken.0 (subst (λ (f : List ℕ). Gets given f good) is (sized leaves.hands_back eight leaves.gets))

        echo : plain.HandsBack given frame buffer (left_by left) good → left.length ≡ 8
        echo (plain.read asks none n size r reply) = absurd (omega (arith, asks, one))
        echo (plain.recorded asks number many words at n size r reply) = absurd (omega (arith, asks, one))
        echo (plain.echoed asks n size r reply) = size

        from : Leaves given frame buffer (left_by left) → Within kind low high value → left.length ≡ 8
        from leaves inside =
            echo (subst (plain.HandsBack given frame buffer (left_by left))
            (one_fate given frame accepted.sheet_sound sheet_bytes leaves.gets
            (subst (λ (f : List ℕ). Gets given f good) (sym is) (within.taken.1 inside))) leaves.hands_back)

    -- a frame that gets silence: nothing is handed back but the number, and nothing is touched
    met_by_silence : frame_leaves.fate ≡ silence → left ≡ handed 1 0 0 given.bank buffer
    met_by_silence quiet = go (subst (plain.HandsBack given frame buffer (left_by left)) quiet frame_leaves.hands_back)
      where
        go : plain.HandsBack given frame buffer (left_by left) silence → left ≡ handed 1 0 0 given.bank buffer
        go (plain.quiet e) = ap (λ (l : Left). handed l.number l.size l.rate l.bank l.buffer) e

    -- rule D25: a frame for station 0, or for one above F7, whatever else it holds
    pub kept_back_silent : KeptBack (byte frame 0) → left ≡ handed 1 0 0 given.bank buffer
    kept_back_silent kept_back =
        met_by_silence (kept_back_quiet given accepted.sheet_sound accepted.bank_whole frame kept_back frame_leaves.gets)

    -- demand 3
    pub damaged_silent : (sent : List ℕ) → Sent sent → Damage sent frame → left ≡ handed 1 0 0 given.bank buffer
    damaged_silent sent is damage =
        met_by_silence (one_fate given frame accepted.sheet_sound sheet_bytes frame_leaves.gets quiet)
      where
        quiet : Gets given frame silence
        quiet = fates.not_whole (unmet (whole_tells frame) (ap not (damaged_fails sent frame is frame_bytes damage)))
