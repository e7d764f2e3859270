-- What the definitions make of a call with one frame, where nothing is refused, meets what the plain numbers say. Assumes nothing.
use mathlib.Core.Path.{◌≡◌, refl, sym, ap, subst, ◌∙◌}
use mathlib.Core.Bool.{Bool, true, false, cond, ◌||◌}
use mathlib.Core.List.{List, [], ◌∷◌}
use Prim.Native.Nat.{ℕ, ◌+◌, ◌*◌, ◌≤◌, ◌<◌}
use native.Mathlib.Omega.{arith}
use lib.Dec.{eqb}
use lib.ListN.{length}
use borrow.Author.Tests.{eqb-true, eqb-false, ne_eqb}
use Rattle.std.specs.Prelude.{Ok}
use Rattle.words.specs.Words.{word_at}
use Rattle.lists.specs.Cases.{when, first_case}
use Rattle.sheet_rules.specs.declared.RecordArea.{RecordArea}
use Rattle.sheet_rules.specs.Rows.{areas, record_area}
use Rattle.sheet_rules.proofs.Records.{in_records_has, records_rules}
use Rattle.ring_rules.specs.Ring.{place_of}
use Rattle.ring_rules.specs.Calls.{ring_fits}
use Rattle.sheet_rules.specs.Lookup.{lies_in, place_in}
use Rattle.bank_rules.specs.Stores.{stored}
use Rattle.bank_rules.specs.Bank.{rate_of}
use Rattle.bank_rules.specs.Calls.{Lent}
use Rattle.bank_rules.proofs.Stores.{stored_length}
use Rattle.bank_rules.proofs.Changes.{Passed}
use Rattle.frame.specs.Frame.{function, start, count, run}
use Rattle.frame.specs.Reply.{read_reply, echo, error_reply, with_check, laid}
use Rattle.frame.proofs.Reading.{read_length, check_length, write_echo}
use Rattle.meter_rules.specs.declared.Judged.{Judged}
use Rattle.meter_rules.specs.declared.Judged.TheVariants.{FailsCheck, OtherStation, FunctionNotAllowed, WrongLength, WrongCount, WrongAddress, WrongValue, BadItem, GoodRead, GoodRecord, GoodClear, GoodWrite}
use Rattle.sheet_rules.specs.declared.Purpose.TheVariants.{Read}
use Rattle.sheet_rules.specs.Runs.{all_open}
use Rattle.meter_rules.specs.Write.{first_place, stop_place, stop_side}
use Rattle.meter_rules.specs.Steps.{starts_in_records, asked_number, asked_start, fails_check, other_station, function_not_allowed, wrong_length, wrong_count, wrong_address, wrong_value, bad_write, good_frame, judged_frame}
use Rattle.meter_rules.specs.Reply.{reply_to, stores_of}
use Rattle.meter_rules.specs.Answer.{Outcome, outcome, answered_number, length_in, rate_in, answered_by, acted_on}
use Rattle.meter_rules.proofs.Written.{run_place}
use Rattle.meter_rules.specs.declared.Answered.{Answered}
use Rattle.meter_rules.specs.declared.Answered.TheVariants.{Reply, Silence}
use Rattle.plain.specs.Numbers.{byte, word, Bytes}
use Rattle.plain.specs.Sheet.{LiesAt}
use Rattle.plain.specs.Records.{RecordAt, AtRecord, StandsAt}
use Rattle.plain.specs.Frame as plain
use Rattle.plain.specs.Frame.{error, good, registers, address}
use Rattle.plain.specs.Left as left
use Rattle.plain.specs.Left.{Left, ReadReply, RecordReply, rate_before, HandsBack, Leaves}
use Rattle.plain.proofs.Rows.{word_same, plain_lies}
use Rattle.plain.proofs.Records.{record_so, its_place_once}
use Rattle.plain.proofs.Conditions.{not_begins}
use Rattle.plain.proofs.Addresses.{address_same, registers_same, address_tells, so_open, so_readable}
use Rattle.plain.proofs.Fates.{tested, judged_fate, judged_gets}
use Rattle.plain.proofs.Words.{words_left}
use Rattle.plain.proofs.Replies.{closed_by, error_plain, echo_plain, read_word}

-- an outcome as the plain numbers have it
abbrev pub left_of : Outcome → Left
left_of outcome =
    record {
      number = answered_number outcome.answered;
      size = length_in outcome.answered;
      rate = rate_in outcome.answered;
      bank = outcome.bank;
      buffer = outcome.buffer;
    }

module _ (given : Lent) (frame buffer : List ℕ) (passed : Passed given) (ringed : ring_fits given.sheet given.ring ≡ true) (sheet_bytes : Bytes given.sheet) (frame_bytes : Bytes frame)
    (room : 100 ≤ length buffer) where
  abbrev acted : Judged → Left
  acted judged = left_of (acted_on judged given frame buffer)

  rated : rate_of given.sheet given.bank ≡ rate_before given
  rated = sym (word_same given.bank (2 * word given.sheet 18) ∙ ap (λ (n : ℕ). word_at given.bank (2 * n)) (word_same given.sheet 18))

  -- an echo, and what is the same bytes
  echoed : (byte frame 1 ≡ 0x03 → ⊥) → {reply : List ℕ} → echo frame ≡ reply → (after : List ℕ)
      → HandsBack given frame buffer
      (left_of (outcome (Ok (answered_by 0 (length (with_check reply)) (rate_of given.sheet given.bank))) after (laid (with_check reply) buffer))) good
  unfolding with_check
  echoed other same after =
      subst (λ (r : List ℕ). HandsBack given frame buffer
      (left_of (outcome (Ok (answered_by 0 (length (with_check r)) (rate_of given.sheet given.bank))) after (laid (with_check r) buffer))) good) same
      (left.echoed other refl refl rated (echo_plain frame buffer frame_bytes room))

  -- a good read of registers: its addresses are open, and their places follow each other
  module _ (is : byte frame 1 ≡ 0x03) (none : AtRecord given.sheet (word frame 2) → ⊥) (right : plain.RightAddress given frame) where
    abbrev body : List ℕ
    body = read_reply given.bank frame (first_place given.sheet frame) (count frame)

    size : length body ≡ 3 + 2 * count frame
    size = read_length given.bank frame (first_place given.sheet frame) (count frame)

    few : count frame ≤ 47
    few = omega (arith, right.at_most47 is none, sym (registers_same frame), ap (λ (n : ℕ). cond (eqb n 0x06) 1 (word frame 4)) is)

    all_open_lem : all_open Read given.sheet (run frame) ≡ true
    all_open_lem = so_open given.sheet passed.right sheet_bytes Read frame (λ k less. so_readable given.sheet passed.right sheet_bytes (right.read is none k less))

    there : (k place access : ℕ) → k < registers frame → LiesAt given.sheet (address frame k) place access → place ≡ first_place given.sheet frame + k
    there k place access less lies =
        sym (ap place_in (plain_lies given.sheet passed.right lies)) ∙ ap (λ (n : ℕ). place_in (lies_in (areas given.sheet) n)) (address_same frame k)
        ∙ run_place Read given.sheet passed.right (start frame) (count frame) all_open_lem k (omega (arith, less, registers_same frame))

    read_plain : ReadReply given frame buffer (laid (with_check body) buffer)
    unfolding with_check
    read_plain =
        record {
          closed = closed_by body buffer (omega (arith, size, few)) (5 + 2 * registers frame) (omega (arith, size, registers_same frame));
          station = refl;
          function = refl;
          bytes = ap (λ (n : ℕ). 2 * n) (sym (registers_same frame));
          words = λ k place access less lies. read_word given.bank frame buffer (first_place given.sheet frame) (count frame) k (omega (arith, less, registers_same frame))
              ∙ ap (λ (n : ℕ). word given.bank (2 * n)) (sym (there k place access less lies));
        }

    hands_read : (after : List ℕ) → HandsBack given frame buffer
        (left_of (outcome (Ok (answered_by 0 (length (with_check body)) (rate_of given.sheet given.bank))) after (laid (with_check body) buffer))) good
    hands_read after =
        subst (λ (a : Answered). HandsBack given frame buffer (left_of (outcome (Ok a) after (laid (with_check body) buffer))) good) (sym replied)
        (left.read is none refl (check_length body ∙ omega (arith, size, registers_same frame)) rated read_plain)
      where
        replied : answered_by 0 (length (with_check body)) (rate_of given.sheet given.bank) ≡ Reply (length (with_check body)) (rate_of given.sheet given.bank)
        replied =
            ap (λ (none : Bool). cond none Silence (Reply (length (with_check body)) (rate_of given.sheet given.bank)))
            (ne_eqb (length (with_check body)) 0 (λ e. omega (arith, e, check_length body, size)))

  -- a good read of a record: the words of its place
  module _ (is : byte frame 1 ≡ 0x03) (inside : starts_in_records given.sheet frame ≡ true) (right : plain.RightAddress given frame) where
    abbrev area : RecordArea
    area = record_area given.sheet

    abbrev number : ℕ
    number = asked_number given.sheet frame

    one : RecordAt given.sheet (word frame 2) number area.records area.words
    one =
        subst (λ (n : ℕ). RecordAt given.sheet n number area.records area.words) (sym (word_same frame 2))
        (record_so given.sheet (start frame) inside)

    abbrev record_body : List ℕ
    record_body = read_reply given.ring frame (asked_start given frame) area.words

    record_size : length record_body ≡ 3 + 2 * area.words
    record_size = read_length given.ring frame (asked_start given frame) area.words

    short : area.words ≤ 47
    short = (records_rules given.sheet passed.right (in_records_has given.sheet (start frame) inside)).words_high

    there_it_is : (place : ℕ) → StandsAt given.ring area.records number place → place ≡ place_of area given.ring number
    there_it_is = its_place_once given.sheet given.ring ringed one (right.recorded is number area.records area.words one)

    record_plain : RecordReply given.ring frame buffer (laid (with_check record_body) buffer) number area.records area.words
    unfolding with_check
    record_plain =
        record {
          closed = closed_by record_body buffer (omega (arith, record_size, short)) (5 + 2 * area.words) (omega (arith, record_size));
          station = refl;
          function = refl;
          bytes = refl;
          its_words = λ k place less stands. read_word given.ring frame buffer (asked_start given frame) area.words k less
              ∙ ap (λ (p : ℕ). word given.ring (2 * (2 + p * area.words + k))) (sym (there_it_is place stands))
              ∙ ap (word given.ring) (let same : 2 * (2 + place * area.words + k) ≡ 4 + 2 * (place * area.words + k) = omega arith in same);
        }

    hands_record : (after : List ℕ) → HandsBack given frame buffer
        (left_of (outcome (Ok (answered_by 0 (length (with_check record_body)) (rate_of given.sheet given.bank))) after (laid (with_check record_body) buffer))) good
    hands_record after =
        subst (λ (a : Answered). HandsBack given frame buffer (left_of (outcome (Ok a) after (laid (with_check record_body) buffer))) good) (sym replied)
        (left.recorded is number area.records area.words one refl (check_length record_body ∙ omega (arith, record_size)) rated record_plain)
      where
        replied : answered_by 0 (length (with_check record_body)) (rate_of given.sheet given.bank)
            ≡ Reply (length (with_check record_body)) (rate_of given.sheet given.bank)
        replied =
            ap (λ (none : Bool). cond none Silence (Reply (length (with_check record_body)) (rate_of given.sheet given.bank)))
            (ne_eqb (length (with_check record_body)) 0 (λ e. omega (arith, e, check_length record_body, record_size)))

  hands_good : (read clear inside : Bool) → eqb (function frame) 0x03 ≡ read → eqb (function frame) 0x05 ≡ clear → starts_in_records given.sheet frame ≡ inside
      → plain.RightAddress given frame → HandsBack given frame buffer
      (acted (cond read (cond inside (GoodRecord (asked_start given frame) (record_area given.sheet).words) (GoodRead (first_place given.sheet frame) (count frame)))
      (cond clear GoodClear (GoodWrite (first_place given.sheet frame) (count frame))))) good
  unfolding acted_on reply_to stores_of stored with_check
  hands_good true clear true r c i right = hands_record (eqb-true (function frame) 0x03 r) i right given.bank
  hands_good true clear false r c i right = hands_read (eqb-true (function frame) 0x03 r) (not_begins given.sheet frame i) right given.bank
  hands_good false true inside r c i right = echoed (eqb-false (function frame) 0x03 r) refl _
  hands_good false false inside r c i right = echoed (eqb-false (function frame) 0x03 r) (write_echo frame) _

  pub hands_back_lem : HandsBack given frame buffer (acted (judged_frame given frame)) (judged_fate given frame passed.right sheet_bytes)
  unfolding judged_frame first_case acted_on reply_to stores_of stored
  hands_back_lem =
      go (fails_check frame) (other_station given frame) (function_not_allowed given.sheet frame) (wrong_length frame) (wrong_count given.sheet frame)
      (wrong_address given frame) (wrong_value frame) (bad_write given frame) refl
    where
      failed : (code : ℕ) (after : List ℕ) → HandsBack given frame buffer
          (record { number = 0; size = 5; rate = rate_of given.sheet given.bank; bank = after; buffer = laid (with_check (error_reply frame code)) buffer }) (error code)
      failed code after = left.erred refl refl rated (error_plain frame buffer code room)

      go : (a b c d e f g h : Bool) → wrong_address given frame ≡ f
          → HandsBack given frame buffer
          (acted (first_case (when a FailsCheck ∷ when b OtherStation ∷ when c FunctionNotAllowed ∷ when d WrongLength ∷ when e WrongCount
          ∷ when f WrongAddress ∷ when g WrongValue ∷ when h (BadItem (first_place given.sheet frame) (stop_place given frame) (stop_side given frame)) ∷ []) (good_frame given frame)))
          (tested a b c d e f (g || h))
      go true b c d e f g h u = left.quiet refl
      go false true c d e f g h u = left.quiet refl
      go false false true d e f g h u = failed 1 given.bank
      go false false false true e f g h u = left.quiet refl
      go false false false false true f g h u = failed 3 given.bank
      go false false false false false true g h u = failed 2 given.bank
      go false false false false false false true h u = failed 3 given.bank
      go false false false false false false false true u = failed 3 _
      go false false false false false false false false u =
          hands_good (eqb (function frame) 0x03) (eqb (function frame) 0x05) (starts_in_records given.sheet frame) refl refl refl
          ((address_tells given passed.right sheet_bytes frame).right u)

  -- all of it
  pub meets : Leaves given frame buffer (acted (judged_frame given frame))
  unfolding acted_on
  meets =
      record {
        fate = judged_fate given frame passed.right sheet_bytes;
        gets = judged_gets given frame passed.right sheet_bytes;
        hands_back = hands_back_lem;
        bank_size = stored_length given.bank (stores_of (judged_frame given frame) given.sheet frame);
        words = words_left given frame passed sheet_bytes;
      }
