-- A write that is done, then a read at the station that the bank then has, of as many of the addresses written as may be, in a run, all of which can be read: it gives
-- the values written. Assumes nothing.
use mathlib.Core.Path.{◌≡◌, refl, sym, ap, ap₂, subst, ◌∙◌}
use mathlib.Core.Bool.{Bool, true, false, not, cond, true≢false, false≢true}
use mathlib.Core.List.{List}
use mathlib.Core.Logic.{◌⊎◌, inl, inr}
use Prim.Native.Nat.{ℕ, ◌+◌, ◌*◌, ◌≤◌, ◌<◌}
use native.Mathlib.Omega.{arith}
use lib.Dec.{eqb}
use lib.ListN.{length}
use Rattle.std.specs.Prelude.{None}
use Rattle.sheet_rules.specs.Rows.{record_area}
use Rattle.sheet_rules.specs.Rules.{sound, in_records}
use Rattle.sheet_rules.proofs.Records.{record_nowhere}
use Rattle.sheet_rules.specs.Lookup.{found_at}
use Rattle.bank_rules.specs.Calls.{Lent}
use Rattle.bank_rules.specs.Bank.{bank_bytes, bank_sound}
use Rattle.bank_rules.proofs.Stores.{stored_length}
use Rattle.meter_rules.specs.Answer.{answer_outcome}
use Rattle.meter_rules.proofs.Outcomes.{answer_stored}
use Rattle.meter_rules.proofs.Soundness.{stays_sound}
use Rattle.frame.specs.Frame.{many_of}
use Rattle.controller_rules.specs.declared.Order.{Order}
use Rattle.controller_rules.specs.declared.Order.TheVariants.{Read, Record, Write, Writes, Clear, Unknown}
use Rattle.controller_rules.specs.Order.{Asked, ask, address_of, address_count, no_frame}
use Rattle.controller_rules.specs.Query.{query}
use Rattle.controller_rules.proofs.Framed.{framed, values_fit_lem, count_fits}
use Rattle.controller_rules.proofs.Queries.{query_station, query_function, query_start, query_second}
use Rattle.plain.specs.Numbers.{byte, word}
use Rattle.plain.specs.Sheet.{WritableAt}
use Rattle.plain.specs.Records.{AtRecord}
use Rattle.plain.specs.Frame as fates
use Rattle.plain.specs.Frame.{error, good, Gets, Set, Readable, registers, sent_word}
use Rattle.plain.proofs.Rows.{word_same, plain_lies}
use Rattle.plain.proofs.Records.{no_record}
use Rattle.plain.proofs.Addresses.{registers_same, address_same}
use Rattle.plain.proofs.Fates.{one_fate}
use Rattle.cedarskein.specs.Door.{Handed, ReplyTold}
use Rattle.demands.specs.Seen.{Accepted, Replied}
use Rattle.demands.proofs.Calls.{Answers, answers_is, answers_bytes}
use Rattle.demands.proofs.Reasons.{seen_gets}
use Rattle.demands.proofs.Presets.{good_write, written_as_sent}
use Rattle.exchange.specs.Judged.{suits, writes_to}
use Rattle.exchange.specs.Sent.{query_in, bank_station}
use Rattle.exchange.specs.Heard.{Tells, Heard, erred, values, recorded, done, written_value, afterwards}
use Rattle.exchange.proofs.Built.{query_as, has_frame, sent_is}
use Rattle.exchange.proofs.Silence.{right_length}
use Rattle.exchange.proofs.Heard.{Exchanged, heard_as_sent}

-- ---- after an answer nothing more is refused

pub still_accepted : (given : Lent) (frame buffer again : List ℕ) → Accepted given buffer → {left : Handed} → Answers given frame buffer left
    → 100 ≤ length again → Accepted (afterwards given left) again
still_accepted given frame buffer again accepted {left} call large =
    let is : left.bank ≡ (answer_outcome given frame buffer).bank = ap (λ (h : Handed). h.bank) (answers_is call) in
    let same : length left.bank ≡ length given.bank = ap length (is ∙ answer_stored given frame buffer) ∙ stored_length given.bank _ in
    record {
      sheet_sound = accepted.sheet_sound;
      bank_fits = ap (λ (n : ℕ). eqb n (bank_bytes given.sheet)) same ∙ accepted.bank_fits;
      bank_whole = ap (bank_sound given.sheet) is ∙ stays_sound given frame buffer accepted.bank_whole;
      ring_goes = accepted.ring_goes;
      buffer_long = large;
    }

-- ---- what a write that is done leaves

done_good : {given : Lent} {frame out : List ℕ} {heard : ReplyTold} {order : Order} → Heard given frame out heard order → writes_to order ≡ true
    → heard.error ≡ 0 → Gets given frame good
done_good (erred code gets least most is) writes none = absurd (omega (arith, least, ap (λ (t : ReplyTold). t.error) is, none))
done_good (values gets told places words) writes none = absurd (false≢true writes)
done_good (recorded gets told words) writes none = absurd (false≢true writes)
done_good (done brings gets is) writes none = gets

-- ---- what is sent is what the order writes

module _ (stationed : ℕ) (sent : List ℕ) where
  which_write : (order : Order) → writes_to order ≡ true
      → (byte (query (ask order stationed sent)) 1 ≡ 0x06) ⊎ (byte (query (ask order stationed sent)) 1 ≡ 0x10)
  which_write (Read start count) writes = absurd (false≢true writes)
  which_write (Record address words) writes = absurd (false≢true writes)
  which_write (Write address value) writes = inl (query_function (ask (Write address value) stationed sent))
  which_write (Writes start) writes = inr (query_function (ask (Writes start) stationed sent))
  which_write (Clear address) writes = absurd (false≢true writes)
  which_write Unknown writes = absurd (false≢true writes)

  pub many_written : (order : Order) → writes_to order ≡ true → registers (query (ask order stationed sent)) ≡ address_count order sent
  many_written (Read start count) writes = absurd (false≢true writes)
  many_written (Record address words) writes = absurd (false≢true writes)
  many_written (Write address value) writes =
      let asked : Asked = ask (Write address value) stationed sent in
      registers_same (query asked) ∙ ap₂ many_of (query_function asked) (query_second asked)
  many_written (Writes start) writes =
      let asked : Asked = ask (Writes start) stationed sent in
      registers_same (query asked) ∙ ap₂ many_of (query_function asked) (query_second asked)
  many_written (Clear address) writes = absurd (false≢true writes)
  many_written Unknown writes = absurd (false≢true writes)

  pub value_sent : (order : Order) → no_frame (ask order stationed sent) ≡ false → writes_to order ≡ true → (k : ℕ) → k < address_count order sent
      → sent_word (query (ask order stationed sent)) k ≡ written_value order sent k
  value_sent (Read start count) has writes k less = absurd (false≢true writes)
  value_sent (Record address words) has writes k less = absurd (false≢true writes)
  value_sent (Write address value) has writes k less =
      let asked : Asked = ask (Write address value) stationed sent in
      ap (λ (f : ℕ). word (query asked) (cond (eqb f 0x06) 4 7 + 2 * k)) (query_function asked)
      ∙ ap (word (query asked)) (let first : 4 + 2 * k ≡ 4 = omega (arith, less) in first) ∙ word_same (query asked) 4 ∙ query_second asked
  value_sent (Writes start) has writes k less =
      let asked : Asked = ask (Writes start) stationed sent in
      let fits = values_fit_lem sent (framed asked has).number in
      ap (λ (f : ℕ). word (query asked) (cond (eqb f 0x06) 4 7 + 2 * k)) (query_function asked)
      ∙ ((query_as asked has).several start refl).2 k (omega (arith, less, fits.0))
  value_sent (Clear address) has writes k less = absurd (false≢true writes)
  value_sent Unknown has writes k less = absurd (false≢true writes)

-- ---- a read of addresses that can be read

module _ (given : Lent) (keeps : sound given.sheet ≡ true) (start count stationed : ℕ) (sent : List ℕ)
    (has : no_frame (ask (Read start count) stationed sent) ≡ false) (readable : (k : ℕ) → k < count → Readable given.sheet (start + k)) where
  abbrev asked : Asked
  asked = ask (Read start count) stationed sent

  abbrev frame : List ℕ
  frame = query asked

  few : (1 ≤ count) × (count ≤ 47)
  few = count_fits sent (Read start count) (framed asked has).number

  -- the first of them is in an area, and so no record's
  pub starts_outside : in_records start (record_area given.sheet) ≡ false
  starts_outside = go (in_records start (record_area given.sheet)) refl
    where
      first : Readable given.sheet start
      first = subst (Readable given.sheet) (let same : start + 0 ≡ start = omega arith in same) (readable 0 (omega (arith, few.0)))

      go : (inside : Bool) → in_records start (record_area given.sheet) ≡ inside → inside ≡ false
      go true e =
          let here : found_at first.place first.access ≡ None = sym (plain_lies given.sheet keeps first.lies) ∙ record_nowhere given.sheet keeps start e in
          absurd (let y : ◌≡◌ {A = ℕ} 0 1 = cc in omega arith)
      go false e = refl

  no_record_there : AtRecord given.sheet (word frame 2) → ⊥
  no_record_there at =
      no_record given.sheet start starts_outside (subst (AtRecord given.sheet) (word_same frame 2 ∙ query_start asked) at)

  counts : word frame 4 ≡ count
  counts = word_same frame 4 ∙ query_second asked

  is_read_lem : byte frame 1 ≡ 0x03
  is_read_lem = query_function asked

  neither_write : (byte frame 1 ≡ 0x06) ⊎ (byte frame 1 ≡ 0x10) → ⊥
  neither_write (inl one) = omega (arith, one, is_read_lem)
  neither_write (inr many) = omega (arith, many, is_read_lem)

  pub read_good : stationed ≡ bank_station given → Set (word given.sheet 12) 1 → Gets given frame good
  read_good here allowed =
      fates.all_right (query_as asked has).whole (query_station asked ∙ here) (inl (is_read_lem, allowed)) (right_length asked)
      record {
        of_read = λ is. omega (arith, counts, few.0);
        of_record = λ is at. absurd (no_record_there at);
        of_many = λ is. absurd (omega (arith, is, is_read_lem));
      }
      record {
        at_most47 = λ is outside. omega (arith, counts, few.1);
        read =
            λ is outside k less.
            subst (Readable given.sheet) (sym (address_same frame k ∙ ap (λ (a : ℕ). a + k) (query_start asked)))
            (readable k (omega (arith, less, registers_same frame, ap₂ many_of (query_function asked) (query_second asked))));
        recorded = λ is number many words one. absurd (no_record_there (number, many, words, one));
        written = λ write. absurd (neither_write write);
        cleared = λ is. absurd (omega (arith, is, is_read_lem));
      }
      record { of_clear = λ is. absurd (omega (arith, is, is_read_lem)); of_items = λ write. absurd (neither_write write) }

-- ---- both exchanges

-- so many values in the first bytes of the buffer, each as it was written, but for so many in front that are not read
pub record ReadsBack (asked : Asked) (skipped count : ℕ) (out : List ℕ) (heard : ReplyTold) : Type 0 where
  pub told : Tells out heard count
  pub same : (k : ℕ) → k < count → word heard.buffer (2 * k) ≡ written_value asked.order asked.values (skipped + k)

suits_write : (sheet : List ℕ) (order : Order) → writes_to order ≡ true → suits sheet order ≡ true
suits_write sheet (Read start count) writes = absurd (false≢true writes)
suits_write sheet (Record address words) writes = absurd (false≢true writes)
suits_write sheet (Write address value) writes = refl
suits_write sheet (Writes start) writes = refl
suits_write sheet (Clear address) writes = refl
suits_write sheet Unknown writes = refl

-- the write, of which no error was heard
module _ (given : Lent) (asked : Asked) {left : Handed} {heard : ReplyTold} (first : Exchanged given asked left heard)
    (here : asked.station ≡ bank_station given) (writes : writes_to asked.order ≡ true) (no_error : heard.error ≡ 0) where
  abbrev start : ℕ
  start = address_of asked.order

  abbrev many : ℕ
  many = address_count asked.order asked.values

  has : no_frame asked ≡ false
  has = has_frame asked first.room first.asking first.built

  is : query_in first.told ≡ query asked
  is = sent_is asked first.room first.asking first.built

  answered : Answers given (query asked) first.buffer left
  answered = subst (λ (f : List ℕ). Answers given f first.buffer left) is first.answering

  gets : Gets given (query asked) good
  gets =
      subst (λ (f : List ℕ). Gets given f good) is
      (done_good (heard_as_sent given asked first here (suits_write given.sheet asked.order writes)) writes no_error)

  replied : Replied left
  replied = (seen_gets given (query asked) first.buffer first.accepted answered good).1 gets

  writing : (byte (query asked) 1 ≡ 0x06) ⊎ (byte (query asked) 1 ≡ 0x10)
  writing = which_write asked.station asked.values asked.order writes

  address_is : (k : ℕ) → fates.address (query asked) k ≡ start + k
  address_is k = address_same (query asked) k ∙ ap (λ (a : ℕ). a + k) (query_start asked)

  within : (k : ℕ) → k < many → k < registers (query asked)
  within k less = omega (arith, less, many_written asked.station asked.values asked.order writes)

  -- each value is in the bank
  pub value_kept : (k : ℕ) → k < many
      → (place : ℕ) × WritableAt given.sheet (start + k) place × (word left.bank (2 * place) ≡ written_value asked.order asked.values k)
  value_kept k less =
      let open_at = good_write given (query asked) first.buffer first.accepted answered writing replied k (within k less) in (
        open_at.place,
        subst (λ (a : ℕ). WritableAt given.sheet a open_at.place) (address_is k) open_at.written,
        written_as_sent given (query asked) first.buffer first.accepted answered writing replied k open_at.place (within k less) open_at.written
            ∙ value_sent asked.station asked.values asked.order has writes k less,
      )

  -- the read of a run within the one that was written, at the station that the bank has now, where 03 is allowed and its addresses can be read
  module _ (skipped count : ℕ) (inside : skipped + count ≤ many) (stationed : ℕ) (sent : List ℕ) (there : stationed ≡ bank_station (afterwards given left))
      (allowed : Set (word given.sheet 12) 1) (readable : (k : ℕ) → k < count → Readable given.sheet (start + skipped + k)) {last : Handed} {back : ReplyTold}
      (second : Exchanged (afterwards given left) (ask (Read (start + skipped) count) stationed sent) last back) where
    abbrev again : Asked
    again = ask (Read (start + skipped) count) stationed sent

    has_again : no_frame again ≡ false
    has_again = has_frame again second.room second.asking second.built

    good_again : Gets (afterwards given left) (query_in second.told) good
    good_again =
        subst (λ (f : List ℕ). Gets (afterwards given left) f good) (sym (sent_is again second.room second.asking second.built))
        (read_good (afterwards given left) first.accepted.sheet_sound (start + skipped) count stationed sent has_again readable there allowed)

    value_again : (k : ℕ) → k < count
        → (place : ℕ) × WritableAt given.sheet (start + skipped + k) place
        × (word left.bank (2 * place) ≡ written_value asked.order asked.values (skipped + k))
    value_again k less =
        let kept = value_kept (skipped + k) (omega (arith, less, inside)) in
        (kept.0, subst (λ (a : ℕ). WritableAt given.sheet a kept.0) (let same : start + (skipped + k) ≡ start + skipped + k = omega arith in same) kept.1, kept.2)

    from_heard : Heard (afterwards given left) (query_in second.told) second.out back (Read (start + skipped) count)
        → ReadsBack asked skipped count second.out back
    from_heard (erred code fails least most told) =
        absurd
        (let same : good ≡ error code =
        one_fate (afterwards given left) (query_in second.told) first.accepted.sheet_sound (answers_bytes second.answering).0 good_again fails in
        let y : ◌≡◌ {A = ℕ} 0 1 = cc in omega arith)
    from_heard (values fine told places words) =
        record {
          told = told;
          same = λ k less. let kept = value_again k less in words k kept.0 kept.1.access less kept.1.lies ∙ kept.2;
        }
    from_heard (done brings fine told) = absurd (true≢false brings)

    -- rule Q53
    pub read_back_lem : ReadsBack asked skipped count second.out back
    read_back_lem =
        from_heard
        (heard_as_sent (afterwards given left) again second there
        (ap not (starts_outside (afterwards given left) first.accepted.sheet_sound (start + skipped) count stationed sent has_again readable)))
