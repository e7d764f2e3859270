-- Records over the calls themselves. A good read of a record sends exactly its words; what was added last is what a read of record 1 sends, and what
-- was record k before is what a read of record k + 1 sends then. Assumes nothing.
use mathlib.Core.Path.{◌≡◌, sym, ap, subst, ◌∙◌}
use mathlib.Core.List.{List, map}
use Prim.Native.Nat.{ℕ, zero, suc, ◌+◌, ◌*◌, ◌≤◌, ◌<◌}
use native.Mathlib.Omega.{arith}
use lib.ListN.{get_or}
use Rattle.lists.specs.Lists.{up_from}
use Rattle.words.specs.Words.{word_at}
use Rattle.refusals.proofs.Numbers.{number_tells}
use Rattle.sheet_rules.specs.declared.RecordArea.{RecordArea}
use Rattle.sheet_rules.specs.Rows.{record_area}
use Rattle.bank_rules.specs.Stores.{word_of}
use Rattle.bank_rules.specs.Calls.{Lent, lent_with}
use Rattle.ring_rules.specs.Ring.{stored_count, place_of, record_start, record_of}
use Rattle.ring_rules.specs.Calls.{add_answer, add_outcome}
use Rattle.ring_rules.specs.Theorems.{words_in}
use Rattle.ring_rules.proofs.Calls.{add_newest, add_others}
use Rattle.plain.specs.Numbers.{byte, word}
use Rattle.plain.specs.Records.{RecordAt, how_many}
use Rattle.plain.specs.Frame as fates
use Rattle.plain.specs.Frame.{good, Gets}
use Rattle.plain.specs.Left as plain
use Rattle.plain.specs.Left.{RecordReply, HandsBack}
use Rattle.plain.proofs.Rows.{word_same}
use Rattle.plain.proofs.Records.{so_record, record_once, its_place_lem}
use Rattle.plain.proofs.Fates.{one_fate}
use Rattle.cedarskein.specs.Door.{RingTold, Handed}
use Rattle.demands.specs.Seen.{Accepted, left_by}
use Rattle.demands.proofs.Calls.{Adds, Answers, adds_is, answers_bytes}
use Rattle.demands.proofs.Frames.{frame_leaves}
use Rattle.refusals.specs.Answers.{call_done}

-- the n-th of numbers from a first one on, seen in a way
listed : (at : ℕ → ℕ) (first count n : ℕ) → n < count → get_or (map at (up_from first count)) n 0 ≡ at (first + n)
unfolding up_from
listed at first zero n inside = absurd (omega arith)
listed at first (suc count) zero inside = ap at (let same : first ≡ first + 0 = omega arith in same)
listed at first (suc count) (suc n) inside =
    listed at (suc first) count n (omega arith) ∙ ap at (let same : suc first + n ≡ first + suc n = omega arith in same)

-- ---- a read

-- a good read of a record: what is sent is the record
pub record Sends (given : Lent) (frame buffer : List ℕ) (number many words : ℕ) (left : Handed) : Type 0 where
  pub done : left.number ≡ 0
  pub size : left.length ≡ 5 + 2 * words
  pub reply : RecordReply given.ring frame buffer left.buffer number many words

module _ (given : Lent) (frame buffer : List ℕ) (accepted : Accepted given buffer) {left : Handed} (call : Answers given frame buffer left)
    (gets : Gets given frame good) (is : byte frame 1 ≡ 0x03) {number many words : ℕ} (one : RecordAt given.sheet (word frame 2) number many words) where
  -- rule D27
  pub record_sent : Sends given frame buffer number many words left
  record_sent =
      let leaves = frame_leaves given frame buffer accepted call in
      go (subst (HandsBack given frame buffer (left_by left))
      (one_fate given frame accepted.sheet_sound (answers_bytes call).0 leaves.gets gets) leaves.hands_back)
    where
      go : HandsBack given frame buffer (left_by left) good → Sends given frame buffer number many words left
      go (plain.read asks none n size r reply) = absurd (none (number, many, words, one))
      go (plain.echoed other n size r reply) = absurd (other is)
      go (plain.recorded asks number' many' words' at n size r reply) =
          let same = record_once given.sheet at one in
          record {
            done = n;
            size = size ∙ ap (λ (w : ℕ). 5 + 2 * w) same.2;
            reply =
                subst (λ (k : ℕ). RecordReply given.ring frame buffer left.buffer k many words) same.0
                (subst (λ (k : ℕ). RecordReply given.ring frame buffer left.buffer number' k words) same.1
                (subst (RecordReply given.ring frame buffer left.buffer number' many') same.2 reply));
          }

  -- it is one of those stored
  stored : number ≤ how_many given.ring
  stored = go gets
    where
      go : Gets given frame good → number ≤ how_many given.ring
      go (fates.all_right whole ours allowed long counted right values) = right.recorded is number many words one

  -- the k-th word that is sent is the k-th of the record
  pub words_sent : (k : ℕ) → k < words → word left.buffer (3 + 2 * k) ≡ get_or (record_of (record_area given.sheet) given.ring number) k 0
  words_sent k less =
      let area : RecordArea = record_area given.sheet in
      let place : ℕ = place_of area given.ring number in
      let same = (so_record given.sheet one).its_words in
      record_sent.reply.its_words k place less (its_place_lem given.sheet given.ring accepted.ring_goes one stored)
      ∙ word_same given.ring (4 + 2 * (place * words + k))
      ∙ ap (word_at given.ring) (let at : 4 + 2 * (place * words + k) ≡ 2 * (2 + place * words + k) = omega arith in at)
      ∙ ap (λ (w : ℕ). word_of given.ring (2 + place * w + k)) same
      ∙ sym (listed (word_of given.ring) (record_start area place) area.words k (omega (arith, less, same)))

-- ---- behind an addition

module _ (sheet ring bytes bank frame buffer : List ℕ) {told : RingTold} (adding : Adds sheet ring bytes told) (taken : told.number ≡ 0) where
  abbrev given : Lent
  given = lent_with sheet bank told.ring

  done : add_answer sheet ring bytes ≡ call_done
  unfolding add_outcome
  done = number_tells (add_answer sheet ring bytes) call_done (sym (ap (λ (t : RingTold). t.number) (adds_is adding)) ∙ taken)

  left_ring : told.ring ≡ (add_outcome sheet ring bytes).ring
  left_ring = ap (λ (t : RingTold). t.ring) (adds_is adding)

  module _ (accepted : Accepted given buffer) {left : Handed} (call : Answers given frame buffer left) (gets : Gets given frame good)
      (is : byte frame 1 ≡ 0x03) {many words : ℕ} where
    -- rule D27: a read of record 1 sends the words of the record that was added
    pub newest_sent : RecordAt sheet (word frame 2) 1 many words → (k : ℕ) → k < words
        → word left.buffer (3 + 2 * k) ≡ get_or (words_in (record_area sheet) bytes) k 0
    newest_sent one k less =
        words_sent given frame buffer accepted call gets is one k less
        ∙ ap (λ (l : List ℕ). get_or l k 0) (ap (λ (r : List ℕ). record_of (record_area sheet) r 1) left_ring ∙ add_newest sheet ring bytes done)

    -- and a read of record n + 1 those of what was record n
    pub older_sent : (n : ℕ) → 1 ≤ n → n ≤ stored_count ring → n + 1 ≤ (record_area sheet).records → RecordAt sheet (word frame 2) (n + 1) many words
        → (k : ℕ) → k < words → word left.buffer (3 + 2 * k) ≡ get_or (record_of (record_area sheet) ring n) k 0
    older_sent n least held room one k less =
        words_sent given frame buffer accepted call gets is one k less
        ∙ ap (λ (l : List ℕ). get_or l k 0)
        (ap (λ (r : List ℕ). record_of (record_area sheet) r (n + 1)) left_ring ∙ add_others sheet ring bytes done n least held room)
