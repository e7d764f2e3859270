-- What a call leaves in plain numbers determines it: over a sound sheet of bytes and a bank of 2B + 2 bytes, two outcomes of bytes that meet it
-- are equal. Assumes nothing.
use mathlib.Core.Path.{◌≡◌, refl, sym, ap, ap₂, subst, ◌∙◌}
use mathlib.Core.Bool.{Bool, true, false, cond}
use mathlib.Core.Logic.{◌⊎◌, inl, inr}
use mathlib.Core.List.{List}
use Prim.Native.Nat.{ℕ, zero, suc, ◌+◌, ◌-◌, ◌*◌, ◌/◌, ◌%◌, ◌≤◌, ◌<◌}
use native.Mathlib.Omega.{arith}
use lib.Dec.{ltb, eqb}
use lib.ListN.{length, take}
use lib.Seq.{ext_get_or, get_or-take, length-take-le}
use borrow.Author.Tests.{ltb-true, ltb-false}
use Rattle.check_value.specs.Check.{value_of}
use Rattle.sheet_rules.specs.Rows.{record_area}
use Rattle.sheet_rules.specs.Rules.{sound}
use Rattle.sheet_rules.proofs.Records.{in_records_has, records_rules}
use Rattle.ring_rules.specs.Ring.{place_of}
use Rattle.ring_rules.specs.Calls.{ring_fits}
use Rattle.bank_rules.specs.Calls.{Lent}
use Rattle.sheet_rules.specs.declared.Purpose.TheVariants.{Write}
use Rattle.sheet_rules.specs.Runs.{all_open}
use Rattle.frame.specs.Frame.{run}
use Rattle.meter_rules.proofs.Soundness.{open_write}
use Rattle.plain.specs.Numbers.{byte, word, Bytes}
use Rattle.plain.specs.Sheet.{LiesAt}
use Rattle.plain.specs.Records.{StandsAt}
use Rattle.plain.specs.Frame as plain
use Rattle.plain.specs.Frame.{registers, address, sent_word, Gets, Fate, silence, error, good}
use Rattle.plain.specs.Left as left
use Rattle.plain.specs.Left.{Left, Closed, ErrorReply, ReadReply, RecordReply, Echo, HandsBack, LetThrough, Stored, Clears, WordLeft, Leaves}
use Rattle.plain.proofs.Records.{SameRecord, so_record, its_place_lem}
use Rattle.plain.proofs.Addresses.{address_tells, writes}
use Rattle.plain.proofs.Values.{goes_at}
use Rattle.plain.proofs.Fates.{one_fate}

-- ---- buffers

-- lists of one length that agree in front of a place agree in what is taken there
take_same : (n : ℕ) (a b : List ℕ) → n ≤ length a → length a ≡ length b → ((k : ℕ) → k < n → byte a k ≡ byte b k) → take n a ≡ take n b
take_same n a b fits same agree =
    ext_get_or 0 (take n a) (take n b) (length-take-le n a fits ∙ sym (length-take-le n b (omega arith)))
    (λ k less. let low : k < n = omega (arith, length-take-le n a fits) in
    get_or-take n a k 0 low ∙ agree k low ∙ sym (get_or-take n b k 0 low))

module _ {before one other : List ℕ} (n : ℕ) (few : 2 ≤ n) (room : n ≤ length before) (a : Closed before one n) (b : Closed before other n)
    (one-bytes : Bytes one) (other-bytes : Bytes other) (agree : (k : ℕ) → k < n - 2 → byte one k ≡ byte other k) where
  check_same : byte one (n - 2) + 256 * byte one (n - 1) ≡ byte other (n - 2) + 256 * byte other (n - 1)
  check_same =
      a.check
      ∙ ap value_of (take_same (n - 2) one other (omega (arith, a.same_length)) (a.same_length ∙ sym b.same_length) agree)
      ∙ sym b.check

  pub closed_once : one ≡ other
  closed_once = ext_get_or 0 one other (a.same_length ∙ sym b.same_length) (λ k less. at k (ltb k (n - 2)) refl (ltb k n) refl)
    where
      low_byte : byte one (n - 2) ≡ byte other (n - 2)
      low_byte = omega (arith, check_same, one-bytes (n - 2), other-bytes (n - 2), one-bytes (n - 1), other-bytes (n - 1))

      high_byte : byte one (n - 1) ≡ byte other (n - 1)
      high_byte = omega (arith, check_same, one-bytes (n - 2), other-bytes (n - 2), one-bytes (n - 1), other-bytes (n - 1))

      last_two : (k : ℕ) → n - 2 ≤ k → k < n → byte one k ≡ byte other k
      last_two k low high = go (ltb k (n - 1)) refl
        where
          go : (first : Bool) → ltb k (n - 1) ≡ first → byte one k ≡ byte other k
          go true e =
              let is : k ≡ n - 2 = omega (arith, ltb-true k (n - 1) e) in
              ap (byte one) is ∙ low_byte ∙ ap (byte other) (sym is)
          go false e =
              let is : k ≡ n - 1 = omega (arith, ltb-false k (n - 1) e) in
              ap (byte one) is ∙ high_byte ∙ ap (byte other) (sym is)

      at : (k : ℕ) (front : Bool) → ltb k (n - 2) ≡ front → (inside : Bool) → ltb k n ≡ inside → byte one k ≡ byte other k
      at k true e inside f = agree k (ltb-true k (n - 2) e)
      at k false e true f = last_two k (ltb-false k (n - 2) e) (ltb-true k n f)
      at k false e false f =
          let past = ltb-false k n f in
          a.beyond k past ∙ sym (b.beyond k past)

-- ---- words and their bytes

module _ (one other : List ℕ) (one-bytes : Bytes one) (other-bytes : Bytes other) (at : ℕ) (same : word one at ≡ word other at) where
  upper_same : byte one at ≡ byte other at
  upper_same = omega (arith, same, one-bytes at, one-bytes (at + 1), other-bytes at, other-bytes (at + 1))

  lower_same : byte one (at + 1) ≡ byte other (at + 1)
  lower_same = omega (arith, same, one-bytes at, one-bytes (at + 1), other-bytes at, other-bytes (at + 1))

-- a place is the upper or the lower byte of a word behind a first one
word_of : (first k : ℕ) → first ≤ k → (i : ℕ) × ((k ≡ first + 2 * i) ⊎ (k ≡ first + 2 * i + 1))
word_of first k low = ((k - first) / 2, go (ltb ((k - first) % 2) 1) refl)
  where
    go : (even : Bool) → ltb ((k - first) % 2) 1 ≡ even → (k ≡ first + 2 * ((k - first) / 2)) ⊎ (k ≡ first + 2 * ((k - first) / 2) + 1)
    go true e = inl (omega (arith, ltb-true ((k - first) % 2) 1 e))
    go false e = inr (omega (arith, ltb-false ((k - first) % 2) 1 e))

words_same : (one other : List ℕ) → Bytes one → Bytes other → (first many : ℕ) → ((i : ℕ) → i < many → word one (first + 2 * i) ≡ word other (first + 2 * i))
    → (k : ℕ) → first ≤ k → k < first + 2 * many → byte one k ≡ byte other k
words_same one other one-bytes other-bytes first many same k low high = go (word_of first k low)
  where
    go : (i : ℕ) × ((k ≡ first + 2 * i) ⊎ (k ≡ first + 2 * i + 1)) → byte one k ≡ byte other k
    go (i, inl is) = ap (byte one) is ∙ upper_same one other one-bytes other-bytes (first + 2 * i) (same i (omega (arith, is))) ∙ ap (byte other) (sym is)
    go (i, inr is) = ap (byte one) is ∙ lower_same one other one-bytes other-bytes (first + 2 * i) (same i (omega (arith, is))) ∙ ap (byte other) (sym is)

-- ---- replies

module _ (frame before one other : List ℕ) (room : 100 ≤ length before) (one-bytes : Bytes one) (other-bytes : Bytes other) where
  error_once : {code : ℕ} → ErrorReply frame before one code → ErrorReply frame before other code → one ≡ other
  error_once a b = closed_once 5 (omega arith) (omega arith) a.closed b.closed one-bytes other-bytes (λ k less. at k less)
    where
      at : (k : ℕ) → k < 3 → byte one k ≡ byte other k
      at zero less = a.station ∙ sym b.station
      at (suc zero) less = a.function ∙ sym b.function
      at (suc (suc zero)) less = a.its_code ∙ sym b.its_code
      at (suc (suc (suc k))) less = absurd (omega (arith, less))

  echo_once : Echo frame before one → Echo frame before other → one ≡ other
  echo_once a b =
      closed_once 8 (omega arith) (omega arith) a.closed b.closed one-bytes other-bytes (λ k less. a.six k less ∙ sym (b.six k less))

  read_once : {given : Lent} → registers frame ≤ 47 → ((k : ℕ) → k < registers frame → (place access : ℕ) × LiesAt given.sheet (address frame k) place access)
      → ReadReply given frame before one → ReadReply given frame before other → one ≡ other
  read_once {given} few lies a b =
      closed_once (5 + 2 * registers frame) (omega arith) (omega arith) a.closed b.closed one-bytes other-bytes (λ k less. at k (omega arith))
    where
      word_at_lem : (i : ℕ) → i < registers frame → word one (3 + 2 * i) ≡ word other (3 + 2 * i)
      word_at_lem i less =
          let there = lies i less in
          a.words i there.0 there.1 less there.2 ∙ sym (b.words i there.0 there.1 less there.2)

      at : (k : ℕ) → k < 3 + 2 * registers frame → byte one k ≡ byte other k
      at zero less = a.station ∙ sym b.station
      at (suc zero) less = a.function ∙ sym b.function
      at (suc (suc zero)) less = a.bytes ∙ sym b.bytes
      at (suc (suc (suc k))) less = words_same one other one-bytes other-bytes 3 (registers frame) word_at_lem (suc (suc (suc k))) (omega arith) less

  record_once : {ring : List ℕ} {number many words : ℕ} → words ≤ 47 → (place : ℕ) × StandsAt ring many number place
      → RecordReply ring frame before one number many words → RecordReply ring frame before other number many words → one ≡ other
  record_once {words = words} few stands a b =
      closed_once (5 + 2 * words) (omega arith) (omega arith) a.closed b.closed one-bytes other-bytes (λ k less. at k (omega arith))
    where
      word_at_lem : (i : ℕ) → i < words → word one (3 + 2 * i) ≡ word other (3 + 2 * i)
      word_at_lem i less = a.its_words i stands.0 less stands.1 ∙ sym (b.its_words i stands.0 less stands.1)

      at : (k : ℕ) → k < 3 + 2 * words → byte one k ≡ byte other k
      at zero less = a.station ∙ sym b.station
      at (suc zero) less = a.function ∙ sym b.function
      at (suc (suc zero)) less = a.bytes ∙ sym b.bytes
      at (suc (suc (suc k))) less = words_same one other one-bytes other-bytes 3 words word_at_lem (suc (suc (suc k))) (omega arith) less

-- ---- the words of the bank

module _ (given : Lent) (frame : List ℕ) (keeps : sound given.sheet ≡ true) (bytes : Bytes given.sheet) where
  all_open_lem : LetThrough given frame → all_open Write given.sheet (run frame) ≡ true
  all_open_lem through =
      (open_write given frame (writes frame through.writes) ((address_tells given keeps bytes frame).wrongly through.addressed)).all

  -- one word goes to a place
  stored_once : (j k place : ℕ) → Stored given frame j place → Stored given frame k place → j ≡ k
  stored_once j k place a b =
      let open-all = all_open_lem a.through in
      omega (arith, goes_at given frame keeps open-all j place a.goes, goes_at given frame keeps open-all k place b.goes)

  not_cleared : (k place : ℕ) → Stored given frame k place → Clears given frame place → ⊥
  not_cleared k place stored clears = go stored.through.writes
    where
      go : (byte frame 1 ≡ 0x06) ⊎ (byte frame 1 ≡ 0x10) → ⊥
      go (inl e) = omega (arith, e, clears.1)
      go (inr e) = omega (arith, e, clears.1)

  word_once : {place v w : ℕ} → WordLeft given frame place v → WordLeft given frame place w → v ≡ w
  word_once {place} (left.stored j a p) (left.stored k b q) = p ∙ ap (sent_word frame) (stored_once j k place a b) ∙ sym q
  word_once {place} (left.stored j a p) (left.cleared b q) = absurd (not_cleared j place a b)
  word_once (left.stored j a p) (left.as_before none b q) = absurd (none j a)
  word_once {place} (left.cleared a p) (left.stored k b q) = absurd (not_cleared k place b a)
  word_once (left.cleared a p) (left.cleared b q) = p ∙ sym q
  word_once (left.cleared a p) (left.as_before b none q) = absurd (none a)
  word_once (left.as_before none a p) (left.stored k b q) = absurd (none k b)
  word_once (left.as_before a none p) (left.cleared b q) = absurd (none b)
  word_once (left.as_before a b p) (left.as_before c d q) = p ∙ sym q

  -- ---- all of it

  module _ (before : List ℕ) (ringed : ring_fits given.sheet given.ring ≡ true) (fits : length given.bank ≡ 2 * word given.sheet 10 + 2) (room : 100 ≤ length before) (one other : Left)
      (one-bank : Bytes one.bank) (other-bank : Bytes other.bank) (one-buffer : Bytes one.buffer) (other-buffer : Bytes other.buffer) where
    same_left : one.number ≡ other.number → one.size ≡ other.size → one.rate ≡ other.rate → one.bank ≡ other.bank → one.buffer ≡ other.buffer
        → one ≡ other
    same_left a b c d e =
        ap₂ (λ (n s : ℕ). record { number = n; size = s; rate = one.rate; bank = one.bank; buffer = one.buffer }) a b
        ∙ ap₂ (λ (r : ℕ) (l : List ℕ). record { number = other.number; size = other.size; rate = r; bank = l; buffer = one.buffer }) c d
        ∙ ap (λ (l : List ℕ). record { number = other.number; size = other.size; rate = other.rate; bank = other.bank; buffer = l }) e

    hands_back_once : (fate : Fate) → Gets given frame fate → HandsBack given frame before one fate → HandsBack given frame before other fate
        → one.bank ≡ other.bank → one ≡ other
    hands_back_once silence gets (left.quiet p) (left.quiet q) banks = p ∙ sym q
    hands_back_once (error code) gets (left.erred a b c d) (left.erred e f g h) banks =
        same_left (a ∙ sym e) (b ∙ sym f) (c ∙ sym g) banks (error_once frame before one.buffer other.buffer room one-buffer other-buffer d h)
    hands_back_once good gets (left.read is none a b c d) (left.read was also e f g h) banks =
        same_left (a ∙ sym e) (b ∙ sym f) (c ∙ sym g) banks (reads gets)
      where
        reads : Gets given frame good → one.buffer ≡ other.buffer
        reads (plain.all_right x y z s t right v) =
            read_once frame before one.buffer other.buffer room one-buffer other-buffer (omega (arith, right.at_most47 is none, count_is))
            (λ k less. let open-one = right.read is none k less in (open-one.place, open-one.access, open-one.lies)) d h
          where
            count_is : registers frame ≡ word frame 4
            count_is = ap (λ (n : ℕ). cond (eqb n 0x06) 1 (word frame 4)) is
    hands_back_once good gets (left.recorded is number many words at a b c d) (left.recorded was number' many' words' at' e f g h) banks =
        same_left (a ∙ sym e) (b ∙ ap (λ (n : ℕ). 5 + 2 * n) same_words ∙ sym f) (c ∙ sym g) banks (reads gets)
      where
        mine : SameRecord given.sheet (word frame 2) number many words
        mine = so_record given.sheet at

        theirs : SameRecord given.sheet (word frame 2) number' many' words'
        theirs = so_record given.sheet at'

        same_words : words ≡ words'
        same_words = mine.its_words ∙ sym theirs.its_words

        reply : RecordReply given.ring frame before other.buffer number many words
        reply =
            subst (λ (n : ℕ). RecordReply given.ring frame before other.buffer n many words) (theirs.its_number ∙ sym mine.its_number)
            (subst (λ (n : ℕ). RecordReply given.ring frame before other.buffer number' n words) (theirs.its_many ∙ sym mine.its_many)
            (subst (RecordReply given.ring frame before other.buffer number' many') (sym same_words) h))

        reads : Gets given frame good → one.buffer ≡ other.buffer
        reads (plain.all_right x y z s t right v) =
            record_once frame before one.buffer other.buffer room one-buffer other-buffer
            (omega (arith, mine.its_words, (records_rules given.sheet keeps (in_records_has given.sheet (word frame 2) mine.inside)).words_high)) (
              place_of (record_area given.sheet) given.ring number,
              its_place_lem given.sheet given.ring ringed at (right.recorded is number many words at),
            ) d reply
    hands_back_once good gets (left.read is none a b c d) (left.recorded was number many words at e f g h) banks = absurd (none (number, many, words, at))
    hands_back_once good gets (left.recorded is number many words at a b c d) (left.read was none e f g h) banks = absurd (none (number, many, words, at))
    hands_back_once good gets (left.read is none a b c d) (left.echoed another e f g h) banks = absurd (another is)
    hands_back_once good gets (left.recorded is number many words at a b c d) (left.echoed another e f g h) banks = absurd (another is)
    hands_back_once good gets (left.echoed another a b c d) (left.read is none e f g h) banks = absurd (another is)
    hands_back_once good gets (left.echoed another a b c d) (left.recorded is number many words at e f g h) banks = absurd (another is)
    hands_back_once good gets (left.echoed another a b c d) (left.echoed also e f g h) banks =
        same_left (a ∙ sym e) (b ∙ sym f) (c ∙ sym g) banks (echo_once frame before one.buffer other.buffer room one-buffer other-buffer d h)

    pub leaves_once : Leaves given frame before one → Leaves given frame before other → one ≡ other
    leaves_once a b =
        hands_back_once a.fate a.gets a.hands_back
        (subst (HandsBack given frame before other) (one_fate given frame keeps bytes b.gets a.gets) b.hands_back)
        (ext_get_or 0 one.bank other.bank (a.bank_size ∙ sym b.bank_size)
        (λ k less. words_same one.bank other.bank one-bank other-bank 0 (word given.sheet 10 + 1)
        (λ i inside. subst (λ (n : ℕ). word one.bank n ≡ word other.bank n) (let same : 2 * i ≡ 0 + 2 * i = omega arith in same)
        (word_once (a.words i) (b.words i))) k (omega arith) (omega (arith, a.bank_size, fits, less))))
