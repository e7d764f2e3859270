-- A meter's reply to a built query is read as exactly its values, its done or its error code. Assumes nothing.
use mathlib.Core.Path.{◌≡◌, refl, sym, ap, ap₂, subst, ◌∙◌}
use mathlib.Core.Bool.{true, false}
use mathlib.Core.List.{List}
use Prim.Native.Nat.{ℕ, ◌+◌, ◌-◌, ◌*◌, ◌≤◌, ◌<◌}
use native.Mathlib.Omega.{arith}
use lib.Dec.{eqb}
use lib.ListN.{length, get_or, take, drop, length-drop, get_or-append}
use lib.Seq.{length-take-le, get_or-take, get_or-drop, get_or-append-add}
use borrow.Author.Tests.{le-ltb, eq-eqb, ne_eqb, eqb-true, not-true}
use Rattle.lists.proofs.Tests.{first_of, second_of_lem}
use Rattle.words.specs.Words.{word_at}
use Rattle.check_value.specs.Frame.{passes}
use Rattle.sheet_rules.specs.declared.RecordArea.{RecordArea}
use Rattle.sheet_rules.specs.Rows.{record_area}
use Rattle.sheet_rules.specs.Rules.{in_records}
use Rattle.sheet_rules.specs.Lookup.{record_number}
use Rattle.bank_rules.specs.Calls.{Lent}
use Rattle.ring_rules.specs.Ring.{record_of}
use Rattle.frame.specs.Frame.{reads, many_of}
use Rattle.frame.specs.Reply.{least_buffer, laid, small_buffer}
use Rattle.frame.proofs.Laying.{laid_length}
use Rattle.meter_rules.proofs.Outcomes.{answer_sized}
use Rattle.controller_rules.specs.declared.Order.{Order}
use Rattle.controller_rules.specs.declared.Order.TheVariants.{Read, Record, Write, Writes, Clear, Unknown}
use Rattle.controller_rules.specs.Order.{Asked, ask, function_of, word_count, no_frame}
use Rattle.controller_rules.specs.Query.{query}
use Rattle.controller_rules.specs.Reading.{code_in, brings_values, reading_outcome}
use Rattle.controller_rules.proofs.Framed.{framed, words_fit, known}
use Rattle.controller_rules.proofs.Queries.{query_station, query_function, query_start, query_second}
use Rattle.controller_rules.proofs.Readings.{reads_error, reads_values, reads_done}
use Rattle.plain.specs.Numbers.{byte, word}
use Rattle.plain.specs.Sheet.{LiesAt}
use Rattle.plain.specs.Records.{RecordAt, AtRecord}
use Rattle.plain.specs.Frame as fates
use Rattle.plain.specs.Frame.{Fate, error, good, Gets, Readable, registers}
use Rattle.plain.specs.Left as plain
use Rattle.plain.specs.Left.{marked, ErrorReply, ReadReply, RecordReply, Echo, HandsBack}
use Rattle.plain.proofs.Rows.{word_same}
use Rattle.plain.proofs.Records.{so_record, no_record, at_record}
use Rattle.plain.proofs.Addresses.{registers_same, address_same}
use Rattle.cedarskein.specs.Door.{Handed, QueryTold, ReplyTold, reply_told, reply_told_of}
use Rattle.demands.specs.Seen.{Accepted, left_by}
use Rattle.demands.proofs.Calls.{Queries, Answers, Reads, answers_is, reads_is}
use Rattle.demands.proofs.Frames.{frame_leaves}
use Rattle.demands.proofs.Records.{words_sent}
use Rattle.exchange.specs.Judged.{suits}
use Rattle.exchange.specs.Sent.{query_in, reply_in, bank_station}
use Rattle.exchange.specs.Heard.{Tells, Heard, erred, values, recorded, done}
use Rattle.exchange.proofs.Built.{has_frame, sent_is}
use Rattle.exchange.proofs.Silence.{query_silent}

-- ---- the values of a reply, laid in a buffer

module _ (reply out : List ℕ) (n : ℕ) (long : length reply ≡ 5 + 2 * n) (room : 2 * n ≤ length out) where
  abbrev taken : List ℕ
  taken = take (2 * n) (drop 3 reply)

  taken_length : length taken ≡ 2 * n
  taken_length = length-take-le (2 * n) (drop 3 reply) (omega (arith, length-drop 3 reply, long))

  laid_size : length (laid taken out) ≡ length out
  laid_size = laid_length taken out (omega (arith, taken_length, room))

  laid_front : (k : ℕ) → k < 2 * n → byte (laid taken out) k ≡ byte reply (3 + k)
  laid_front k less =
      get_or-append taken (drop (length taken) out) 0 k (omega (arith, taken_length, less))
      ∙ get_or-take (2 * n) (drop 3 reply) k 0 less ∙ get_or-drop 3 reply k 0

  laid_word : (k : ℕ) → k < n → word (laid taken out) (2 * k) ≡ word reply (3 + 2 * k)
  laid_word k less =
      ap₂ (λ (upper lower : ℕ). 256 * upper + lower) (laid_front (2 * k) (omega (arith, less)))
      (laid_front (2 * k + 1) (omega (arith, less)) ∙ ap (byte reply) (let same : 3 + (2 * k + 1) ≡ 3 + 2 * k + 1 = omega arith in same))

  laid_beyond : (k : ℕ) → 2 * n ≤ k → byte (laid taken out) k ≡ byte out k
  laid_beyond k more =
      let size = taken_length in
      let j : ℕ = k - length taken in
      let at : k ≡ length taken + j = omega (arith, size, more) in
      ap (byte (laid taken out)) at ∙ get_or-append-add taken (drop (length taken) out) j 0 ∙ get_or-drop (length taken) out j 0 ∙ ap (byte out) (sym at)

-- an error's code is 1 to 3
code_between : {given : Lent} {frame : List ℕ} {fate : Fate} → Gets given frame fate → (code : ℕ) → fate ≡ error code → (1 ≤ code) × (code ≤ 3)
code_between (fates.not_whole fails) code e = absurd (let y : ◌≡◌ {A = ℕ} 0 1 = cc in omega arith)
code_between (fates.other_station whole fails) code e = absurd (let y : ◌≡◌ {A = ℕ} 0 1 = cc in omega arith)
code_between (fates.not_allowed whole ours fails) code e = let is : 1 ≡ code = cc in (omega arith, omega arith)
code_between (fates.wrong_length whole ours allowed fails) code e = absurd (let y : ◌≡◌ {A = ℕ} 0 1 = cc in omega arith)
code_between (fates.wrong_count whole ours allowed long fails) code e = let is : 3 ≡ code = cc in (omega arith, omega arith)
code_between (fates.wrong_address whole ours allowed long counted fails) code e = let is : 2 ≡ code = cc in (omega arith, omega arith)
code_between (fates.wrong_value whole ours allowed long counted right fails) code e = let is : 3 ≡ code = cc in (omega arith, omega arith)
code_between (fates.all_right whole ours allowed long counted right inside) code e = absurd (let y : ◌≡◌ {A = ℕ} 0 1 = cc in omega arith)

-- a good read is of addresses that can be read
readable_in : {given : Lent} {frame : List ℕ} → Gets given frame good → byte frame 1 ≡ 0x03 → (AtRecord given.sheet (word frame 2) → ⊥) → (k : ℕ)
    → k < registers frame → Readable given.sheet (fates.address frame k)
readable_in (fates.all_right whole ours allowed long counted right inside) is none k less = right.read is none k less

module _ (given : Lent) (stationed : ℕ) (sent : List ℕ) (here : stationed ≡ bank_station given) (buffer : List ℕ) (accepted : Accepted given buffer)
    (out : List ℕ) (large : 100 ≤ length out) where
  module _ (order : Order) (has : no_frame (ask order stationed sent) ≡ false) (fits : suits given.sheet order ≡ true) {left : Handed}
      (call : Answers given (query (ask order stationed sent)) buffer left) where
    abbrev asked : Asked
    asked = ask order stationed sent

    abbrev frame : List ℕ
    frame = query asked

    abbrev reply : List ℕ
    reply = reply_in left

    abbrev told : ReplyTold
    told = reply_told_of (reading_outcome asked reply out)

    roomy : small_buffer out ≡ false
    roomy = le-ltb (length out) least_buffer large

    checked : left.number ≡ 0 → passes reply ≡ true
    checked zero =
        ap (λ (h : Handed). passes (reply_in h)) (answers_is call)
        ∙ (answer_sized given frame buffer (sym (ap (λ (h : Handed). h.number) (answers_is call)) ∙ zero)).checked

    module _ (zero : left.number ≡ 0) (same_size : length left.buffer ≡ length buffer) (n : ℕ) (size : left.length ≡ n) (few : n ≤ 100) where
      reply_length : length reply ≡ n
      reply_length = length-take-le left.length left.buffer (omega (arith, size, few, same_size, accepted.buffer_long)) ∙ size

      reply_byte : (k : ℕ) → k < n → byte reply k ≡ byte left.buffer k
      reply_byte k less = get_or-take left.length left.buffer k 0 (omega (arith, size, less))

    -- ---- an error

    heard_error : {code : ℕ} → Gets given frame (error code) → left.number ≡ 0 → left.length ≡ 5 → ErrorReply frame buffer left.buffer code
        → Heard given frame out told order
    heard_error {code} gets zero size is =
        let bytes = reply_byte zero is.closed.same_length 5 size (omega arith) in
        let its_code_lem : code_in reply ≡ code = bytes 2 (omega arith) ∙ is.its_code in
        let between = code_between gets code refl in
        let read = reads_error asked reply out has roomy (checked zero) (bytes 0 (omega arith) ∙ is.station ∙ query_station asked)
        (bytes 1 (omega arith) ∙ is.function ∙ ap marked (query_function asked))
        (reply_length zero is.closed.same_length 5 size (omega arith)) (omega (arith, its_code_lem, between.0)) (omega (arith, its_code_lem, between.1)) in
        erred code gets between.0 between.1 (ap reply_told_of read ∙ ap (λ (c : ℕ). reply_told 0 0 c out) its_code_lem)

    -- ---- done: the query's first six bytes

    heard_done : Gets given frame good → (byte frame 1 ≡ 0x03 → ⊥) → left.number ≡ 0 → left.length ≡ 8 → Echo frame buffer left.buffer
        → Heard given frame out told order
    heard_done gets other zero size is =
        let bytes = reply_byte zero is.closed.same_length 8 size (omega arith) in
        let six : (k : ℕ) → k < 6 → byte reply k ≡ byte frame k = λ k less. bytes k (omega (arith, less)) ∙ is.six k less in
        let brings : brings_values order ≡ false = ne_eqb (function_of order) reads (λ e. other (query_function asked ∙ e)) in
        let two : (k : ℕ) → k + 1 < 6 → word_at reply k ≡ word_at frame k = λ k less. sym (word_same reply k)
        ∙ ap₂ (λ (upper lower : ℕ). 256 * upper + lower) (six k (omega (arith, less))) (six (k + 1) less) ∙ word_same frame k in
        let read = reads_done asked reply out has roomy (checked zero) (six 0 (omega arith) ∙ query_station asked) (six 1 (omega arith) ∙ query_function asked) brings
        (reply_length zero is.closed.same_length 8 size (omega arith)) (two 2 (omega arith) ∙ query_start asked) (two 4 (omega arith) ∙ query_second asked) in
        done brings gets (ap reply_told_of read)

    -- ---- values

    module _ (n : ℕ) (many : word_count order ≡ n) (zero : left.number ≡ 0) (same_size : length left.buffer ≡ length buffer) (size : left.length ≡ 5 + 2 * n)
        (from : byte left.buffer 0 ≡ byte frame 0) (code : byte left.buffer 1 ≡ 0x03) (counted : byte left.buffer 2 ≡ 2 * n) (is : function_of order ≡ 0x03) where
      few : n ≤ 47
      few = omega (arith, many, words_fit sent order (framed asked has).number)

      abbrev bytes : (k : ℕ) → k < 5 + 2 * n → byte reply k ≡ byte left.buffer k
      bytes = reply_byte zero same_size (5 + 2 * n) size (omega (arith, few))

      abbrev whole_reply : length reply ≡ 5 + 2 * n
      whole_reply = reply_length zero same_size (5 + 2 * n) size (omega (arith, few))

      read_as : told ≡ reply_told 0 (2 * n) 0 (laid (take (2 * n) (drop 3 reply)) out)
      read_as =
          ap reply_told_of
          (reads_values asked reply out has roomy (checked zero) (bytes 0 (omega arith) ∙ from ∙ query_station asked) (bytes 1 (omega arith) ∙ code ∙ sym is)
          (eq-eqb (function_of order) reads is) (whole_reply ∙ omega (arith, many)) (bytes 2 (omega arith) ∙ counted ∙ omega (arith, many)))
          ∙ ap (λ (w : ℕ). reply_told 0 (2 * w) 0 (laid (take (2 * w) (drop 3 reply)) out)) many

      values_told : Tells out told n
      values_told =
          subst (λ (t : ReplyTold). Tells out t n) (sym read_as)
          record {
            done = refl;
            size = refl;
            no_error = refl;
            same_length = laid_size reply out n whole_reply (omega (arith, few, large));
            beyond = laid_beyond reply out n whole_reply (omega (arith, few, large));
          }

      word_told : (k : ℕ) → k < n → word told.buffer (2 * k) ≡ word left.buffer (3 + 2 * k)
      word_told k less =
          ap (λ (t : ReplyTold). word t.buffer (2 * k)) read_as
          ∙ laid_word reply out n whole_reply (omega (arith, few, large)) k less
          ∙ ap₂ (λ (upper lower : ℕ). 256 * upper + lower) (bytes (3 + 2 * k) (omega (arith, less))) (bytes (3 + 2 * k + 1) (omega (arith, less)))

  -- ---- by the order: a read of registers, and of a record

  heard_read : (order : Order) (has : no_frame (ask order stationed sent) ≡ false) (fits : suits given.sheet order ≡ true) {left : Handed}
      (call : Answers given (query (ask order stationed sent)) buffer left) → Gets given (query (ask order stationed sent)) good
      → byte (query (ask order stationed sent)) 1 ≡ 0x03 → (AtRecord given.sheet (word (query (ask order stationed sent)) 2) → ⊥) → left.number ≡ 0
      → left.length ≡ 5 + 2 * registers (query (ask order stationed sent)) → ReadReply given (query (ask order stationed sent)) buffer left.buffer
      → Heard given (query (ask order stationed sent)) out (reply_told_of (reading_outcome (ask order stationed sent) (reply_in left) out)) order
  heard_read (Read start count) has fits {left} call gets is none zero size sends =
      let asked : Asked = ask (Read start count) stationed sent in
      let frame : List ℕ = query asked in
      let many : registers frame ≡ count = registers_same frame ∙ ap₂ many_of (query_function asked) (query_second asked) in
      let at : (k : ℕ) → fates.address frame k ≡ start + k = λ k. address_same frame k ∙ ap (λ (a : ℕ). a + k) (query_start asked) in
      values gets
      (values_told (Read start count) has fits call count refl zero sends.closed.same_length (size ∙ ap (λ (n : ℕ). 5 + 2 * n) many) sends.station sends.function
      (sends.bytes ∙ ap (λ (n : ℕ). 2 * n) many) refl)
      (λ k less. subst (Readable given.sheet) (at k) (readable_in gets is none k (omega (arith, less, many))))
      (λ k place access less lies.
      word_told (Read start count) has fits call count refl zero sends.closed.same_length (size ∙ ap (λ (n : ℕ). 5 + 2 * n) many) sends.station sends.function
      (sends.bytes ∙ ap (λ (n : ℕ). 2 * n) many) refl k less
      ∙ sends.words k place access (omega (arith, less, many)) (subst (λ (a : ℕ). LiesAt given.sheet a place access) (sym (at k)) lies))
  heard_read (Record address words) has fits call gets is none zero size sends =
      let asked : Asked = ask (Record address words) stationed sent in
      let area : RecordArea = record_area given.sheet in
      let inside = first_of (in_records address area) (eqb words area.words) fits in
      absurd (none (subst (AtRecord given.sheet) (sym (word_same (query asked) 2 ∙ query_start asked)) (at_record given.sheet address inside)))
  heard_read (Write address value) has fits call gets is none zero size sends =
      absurd (omega (arith, is, query_function (ask (Write address value) stationed sent)))
  heard_read (Writes start) has fits call gets is none zero size sends = absurd (omega (arith, is, query_function (ask (Writes start) stationed sent)))
  heard_read (Clear address) has fits call gets is none zero size sends = absurd (omega (arith, is, query_function (ask (Clear address) stationed sent)))
  heard_read Unknown has fits call gets is none zero size sends = absurd (known (ask Unknown stationed sent) has refl)

  heard_record : (order : Order) (has : no_frame (ask order stationed sent) ≡ false) (fits : suits given.sheet order ≡ true) {left : Handed}
      (call : Answers given (query (ask order stationed sent)) buffer left) → Gets given (query (ask order stationed sent)) good
      → byte (query (ask order stationed sent)) 1 ≡ 0x03 → (number many words : ℕ)
      → RecordAt given.sheet (word (query (ask order stationed sent)) 2) number many words → left.number ≡ 0 → left.length ≡ 5 + 2 * words
      → RecordReply given.ring (query (ask order stationed sent)) buffer left.buffer number many words
      → Heard given (query (ask order stationed sent)) out (reply_told_of (reading_outcome (ask order stationed sent) (reply_in left) out)) order
  heard_record (Read start count) has fits call gets is number many words one zero size sends =
      let asked : Asked = ask (Read start count) stationed sent in
      let at : word (query asked) 2 ≡ start = word_same (query asked) 2 ∙ query_start asked in
      absurd
      (no_record given.sheet start (not-true (in_records start (record_area given.sheet)) fits)
      (subst (AtRecord given.sheet) at (number, many, words, one)))
  heard_record (Record address own) has fits {left} call gets is number many words one zero size sends =
      let asked : Asked = ask (Record address own) stationed sent in
      let frame : List ℕ = query asked in
      let area : RecordArea = record_area given.sheet in
      let at : word frame 2 ≡ address = word_same frame 2 ∙ query_start asked in
      let same = so_record given.sheet one in
      let its : own ≡ words =
      eqb-true own area.words (second_of_lem (in_records address area) (eqb own area.words) fits) ∙ sym same.its_words in
      recorded gets
      (values_told (Record address own) has fits call own refl zero sends.closed.same_length (size ∙ ap (λ (n : ℕ). 5 + 2 * n) (sym its)) sends.station
      sends.function (sends.bytes ∙ ap (λ (n : ℕ). 2 * n) (sym its)) refl)
      (λ k less.
      word_told (Record address own) has fits call own refl zero sends.closed.same_length (size ∙ ap (λ (n : ℕ). 5 + 2 * n) (sym its)) sends.station
      sends.function (sends.bytes ∙ ap (λ (n : ℕ). 2 * n) (sym its)) refl k less
      ∙ words_sent given frame buffer accepted call gets is one k (omega (arith, less, its))
      ∙ ap (λ (n : ℕ). get_or (record_of area given.ring n) k 0) (same.its_number ∙ ap (record_number area) at))
  heard_record (Write address value) has fits call gets is number many words one zero size sends =
      absurd (omega (arith, is, query_function (ask (Write address value) stationed sent)))
  heard_record (Writes start) has fits call gets is number many words one zero size sends =
      absurd (omega (arith, is, query_function (ask (Writes start) stationed sent)))
  heard_record (Clear address) has fits call gets is number many words one zero size sends =
      absurd (omega (arith, is, query_function (ask (Clear address) stationed sent)))
  heard_record Unknown has fits call gets is number many words one zero size sends = absurd (known (ask Unknown stationed sent) has refl)

  -- ---- by what the meter hands back

  module _ (order : Order) (has : no_frame (ask order stationed sent) ≡ false) (fits : suits given.sheet order ≡ true) {left : Handed}
      (call : Answers given (query (ask order stationed sent)) buffer left) where
    by_fate : {fate : Fate} → HandsBack given (query (ask order stationed sent)) buffer (left_by left) fate → Gets given (query (ask order stationed sent)) fate
        → Heard given (query (ask order stationed sent)) out (reply_told_of (reading_outcome (ask order stationed sent) (reply_in left) out)) order
    by_fate (plain.quiet e) gets =
        absurd ((query_silent given (ask order stationed sent) has buffer accepted call).0 (ap (λ (l : plain.Left). l.number) e) here)
    by_fate (plain.erred number size rate reply) gets = heard_error order has fits call gets number size reply
    by_fate (plain.read is none number size rate reply) gets = heard_read order has fits call gets is none number size reply
    by_fate (plain.recorded is k many words at number size rate reply) gets = heard_record order has fits call gets is k many words at number size reply
    by_fate (plain.echoed other number size rate reply) gets = heard_done order has fits call gets other number size reply

    pub query_heard : Heard given (query (ask order stationed sent)) out (reply_told_of (reading_outcome (ask order stationed sent) (reply_in left) out)) order
    query_heard = let leaves = frame_leaves given (query (ask order stationed sent)) buffer accepted call in by_fate leaves.hands_back leaves.gets

-- ---- over the calls

-- one exchange: a query that was built, the answer of a meter that refuses nothing, and its reply read against the order
pub record Exchanged (given : Lent) (asked : Asked) (left : Handed) (heard : ReplyTold) : Type 0 where
  pub room : List ℕ
  pub told : QueryTold
  pub asking : Queries asked room told
  pub built : told.number ≡ 0
  pub buffer : List ℕ
  pub accepted : Accepted given buffer
  pub answering : Answers given (query_in told) buffer left
  pub out : List ℕ
  pub large : 100 ≤ length out
  pub reading : Reads asked (reply_in left) out heard

-- rule Q52: where the station is the order's, and the order suits the meter's records
pub heard_as_sent : (given : Lent) (asked : Asked) {left : Handed} {heard : ReplyTold} (exchange : Exchanged given asked left heard)
    → asked.station ≡ bank_station given → suits given.sheet asked.order ≡ true
    → Heard given (query_in exchange.told) exchange.out heard asked.order
heard_as_sent given asked {left} {heard} exchange here fits =
    let is = sent_is asked exchange.room exchange.asking exchange.built in
    let answered = subst (λ (f : List ℕ). Answers given f exchange.buffer left) is exchange.answering in
    subst (λ (f : List ℕ). Heard given f exchange.out heard asked.order) (sym is)
    (subst (λ (t : ReplyTold). Heard given (query asked) exchange.out t asked.order) (sym (reads_is exchange.reading))
    (query_heard given asked.station asked.values here exchange.buffer exchange.accepted exchange.out exchange.large asked.order
    (has_frame asked exchange.room exchange.asking exchange.built) fits answered))
