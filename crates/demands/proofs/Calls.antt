-- The calls of the door as the customer sees them: what is lent, what is handed back, and what each lent buffer holds afterwards. Each is
-- the generated contract's own `Post`, at any lifetimes, arguments, result and exits. Here too: no contract asks anything of its caller, for
-- any input there is an outcome that it allows, and that outcome is the definition's. That what is lent is bytes comes with a call with a frame,
-- and with the two of a box that asks, whose statements need it. Assumes nothing.
use mathlib.Core.Path.{◌≡◌, refl, sym, subst}
use mathlib.Core.List.{List, []}
use mathlib.Core.Logic.{◌↔◌}
use Prim.Native.Nat.{ℕ}
use contract.Lifetimes.{Lfts}
use denote.Ref.{Bor, MutBor}
use denote.Triple.Clauses.{AtExit}
use borrow.Fn.Kinds.{ParamKind, ResultKind, In, Out, Dens, ended_of, res_t}
use Rattle.words.specs.Words.{Bytes}
use Rattle.refusals.specs.Answers.{answer_number}
use Rattle.sheet_rules.specs.Rules.{sheet_answer}
use Rattle.bank_rules.specs.Calls.{Lent, lent, lent_with, check_answer, fresh_outcome, post_outcome, mark_outcome}
use Rattle.ring_rules.specs.Calls.{ring_answer, add_outcome}
use Rattle.meter_rules.specs.Answer.{answer_outcome}
use Rattle.meter_rules.proofs.Bytes.{answer_bytes}
use Rattle.why_rules.specs.Reasons.{explanation}
use Rattle.controller_rules.specs.Order.{Asked, asked_by}
use Rattle.controller_rules.specs.Query.{build_outcome}
use Rattle.controller_rules.specs.Reading.{reading_outcome}
use Rattle.controller_rules.proofs.Outcomes.{build_bytes, reading_bytes}
use Rattle.cedarskein.specs.Door.{Told, RingTold, Handed, Said, QueryTold, ReplyTold, told, told_of, ring_told, ring_told_of, handed, handed_of, said, said_of, query_told, query_told_of, reply_told, reply_told_of}
use Rattle.cedarskein.proofs.cedarskein_sheet_check.Kinds as cedarskein_sheet_check
use Rattle.cedarskein.proofs.cedarskein_sheet_check.Reads as cedarskein_sheet_check_reads
use Rattle.cedarskein.proofs.cedarskein_bank_check.Kinds as cedarskein_bank_check
use Rattle.cedarskein.proofs.cedarskein_bank_check.Reads as cedarskein_bank_check_reads
use Rattle.cedarskein.proofs.cedarskein_bank_fresh.Kinds as cedarskein_bank_fresh
use Rattle.cedarskein.proofs.cedarskein_bank_fresh.Reads as cedarskein_bank_fresh_reads
use Rattle.cedarskein.proofs.cedarskein_post.Kinds as cedarskein_post
use Rattle.cedarskein.proofs.cedarskein_post.Reads as cedarskein_post_reads
use Rattle.cedarskein.proofs.cedarskein_set_mark.Kinds as cedarskein_set_mark
use Rattle.cedarskein.proofs.cedarskein_set_mark.Reads as cedarskein_set_mark_reads
use Rattle.cedarskein.proofs.cedarskein_ring_check.Kinds as cedarskein_ring_check
use Rattle.cedarskein.proofs.cedarskein_ring_check.Reads as cedarskein_ring_check_reads
use Rattle.cedarskein.proofs.cedarskein_add_record.Kinds as cedarskein_add_record
use Rattle.cedarskein.proofs.cedarskein_add_record.Reads as cedarskein_add_record_reads
use Rattle.cedarskein.proofs.cedarskein_answer.Kinds as cedarskein_answer
use Rattle.cedarskein.proofs.cedarskein_answer.Reads as cedarskein_answer_reads
use Rattle.cedarskein.proofs.cedarskein_why.Kinds as cedarskein_why
use Rattle.cedarskein.proofs.cedarskein_why.Reads as cedarskein_why_reads
use Rattle.cedarskein.proofs.cedarskein_query.Kinds as cedarskein_query
use Rattle.cedarskein.proofs.cedarskein_query.Reads as cedarskein_query_reads
use Rattle.cedarskein.proofs.cedarskein_reply.Kinds as cedarskein_reply
use Rattle.cedarskein.proofs.cedarskein_reply.Reads as cedarskein_reply_reads

-- a call of a function that its contract allows: at some lifetimes, with what was lent, its result and what was left at exit
pub record Allowed (n : ℕ) (ps : List (ParamKind n)) (r : ResultKind n) (Post : Out n ps r) : Type 0 where
  pub lifetimes : Lfts n
  pub lent : Dens lifetimes ps
  pub result : (res_t r lifetimes).Denot
  pub exit : AtExit (ended_of n ps r) lifetimes
  pub post : Post lifetimes lent result exit

-- the sheet check: the sheet, and the number
pub data ChecksSheet : List ℕ → ℕ → Type 0 where
  checks_sheet : (call : Allowed 1 cedarskein_sheet_check.ps cedarskein_sheet_check.r cedarskein_sheet_check_reads.Post) → ChecksSheet call.lent.0.now call.result

-- the bank check: the sheet and the bank, and the number
pub data ChecksBank : Lent → ℕ → Type 0 where
  checks_bank : (call : Allowed 2 cedarskein_bank_check.ps cedarskein_bank_check.r cedarskein_bank_check_reads.Post)
      → ChecksBank (lent call.lent.0.now call.lent.1.0.now) call.result

-- a fresh bank: the sheet and the bank; the number and the bank afterwards
pub data Freshens : Lent → Told → Type 0 where
  freshens : (call : Allowed 2 cedarskein_bank_fresh.ps cedarskein_bank_fresh.r cedarskein_bank_fresh_reads.Post)
      → Freshens (lent call.lent.0.now call.lent.1.0.now) (told call.result call.exit.1.0.now)

-- posting: the sheet and the bank, the address, the words; the number and the bank afterwards
pub data Posts : Lent → ℕ → List ℕ → Told → Type 0 where
  posts : (call : Allowed 3 cedarskein_post.ps cedarskein_post.r cedarskein_post_reads.Post)
      → Posts (lent call.lent.0.now call.lent.1.0.now) call.lent.1.1.0 call.lent.1.1.1.0.now
      (told call.result call.exit.1.0.now)

-- the mark: the sheet and the bank, the mark; the number and the bank afterwards
pub data Marks : Lent → ℕ → Told → Type 0 where
  marks : (call : Allowed 2 cedarskein_set_mark.ps cedarskein_set_mark.r cedarskein_set_mark_reads.Post)
      → Marks (lent call.lent.0.now call.lent.1.0.now) call.lent.1.1.0 (told call.result call.exit.1.0.now)

-- the ring check: the sheet and the ring, and the number
pub data ChecksRing : List ℕ → List ℕ → ℕ → Type 0 where
  checks_ring : (call : Allowed 2 cedarskein_ring_check.ps cedarskein_ring_check.r cedarskein_ring_check_reads.Post)
      → ChecksRing call.lent.0.now call.lent.1.0.now call.result

-- adding a record: the sheet, the ring and the record; the number and the ring afterwards
pub data Adds : List ℕ → List ℕ → List ℕ → RingTold → Type 0 where
  adds : (call : Allowed 3 cedarskein_add_record.ps cedarskein_add_record.r cedarskein_add_record_reads.Post)
      → Adds call.lent.0.now call.lent.1.0.now call.lent.1.1.0.now (ring_told call.result call.exit.1.0.now)

-- a frame: the sheet, the bank and the ring, the frame, the answer buffer; the number, length and rate, and bank and buffer afterwards
pub data Answers : Lent → List ℕ → List ℕ → Handed → Type 0 where
  answers : (call : Allowed 7 cedarskein_answer.ps cedarskein_answer.r cedarskein_answer_reads.Post)
      → Answers (lent_with call.lent.0.now call.lent.1.0.now call.lent.1.1.0.now) call.lent.1.1.1.0.now call.lent.1.1.1.1.0.now
      (handed call.result call.exit.1.1.1.1.1.0.now call.exit.1.1.1.1.1.1.0.now call.exit.1.0.now call.exit.1.1.1.1.0.now)

-- the reason: the sheet, the bank and the ring, the frame; the number, the reason, the address and the side. Nothing else is written.
pub data Explains : Lent → List ℕ → Said → Type 0 where
  explains : (call : Allowed 7 cedarskein_why.ps cedarskein_why.r cedarskein_why_reads.Post)
      → Explains (lent_with call.lent.0.now call.lent.1.0.now call.lent.1.1.0.now) call.lent.1.1.1.0.now
      (said call.result call.exit.1.1.1.1.0.now call.exit.1.1.1.1.1.0.now call.exit.1.1.1.1.1.1.0.now)

-- a query: what is asked, by the numbers that are handed over, and the buffer; the number and the length, and the buffer afterwards
pub data Queries : Asked → List ℕ → QueryTold → Type 0 where
  queries : (call : Allowed 3 cedarskein_query.ps cedarskein_query.r cedarskein_query_reads.Post)
      → Queries
      (asked_by call.lent.0 call.lent.1.0 call.lent.1.1.0 call.lent.1.1.1.0 call.lent.1.1.1.1.0.now)
      call.lent.1.1.1.1.1.0.now
      (query_told call.result call.exit.1.1.1.1.1.1.0.now call.exit.1.1.1.1.1.0.now)

-- a reply: what was asked, the reply and the buffer; the number, the length and the error code, and the buffer afterwards
pub data Reads : Asked → List ℕ → List ℕ → ReplyTold → Type 0 where
  reads : (call : Allowed 5 cedarskein_reply.ps cedarskein_reply.r cedarskein_reply_reads.Post)
      → Reads
      (asked_by call.lent.0 call.lent.1.0 call.lent.1.1.0 call.lent.1.1.1.0 call.lent.1.1.1.1.0.now)
      call.lent.1.1.1.1.1.0.now call.lent.1.1.1.1.1.1.0.now
      (reply_told call.result call.exit.1.1.1.1.1.1.1.0.now call.exit.1.1.1.1.1.1.1.1.0.now call.exit.1.1.1.1.1.1.0.now)

-- ---- what each call hands back and leaves

pub checks_sheet_is : {sheet : List ℕ} {number : ℕ} → ChecksSheet sheet number → number ≡ answer_number (sheet_answer sheet)
checks_sheet_is (checks_sheet call) = call.post

pub checks_bank_is : {given : Lent} {number : ℕ} → ChecksBank given number → number ≡ answer_number (check_answer given)
checks_bank_is (checks_bank call) = call.post

pub freshens_is : {given : Lent} {left : Told} → Freshens given left → left ≡ told_of (fresh_outcome given)
freshens_is (freshens call) = call.post

pub posts_is : {given : Lent} {address : ℕ} {words : List ℕ} {left : Told} → Posts given address words left
    → left ≡ told_of (post_outcome given address words)
posts_is (posts call) = call.post

pub marks_is : {given : Lent} {mark : ℕ} {left : Told} → Marks given mark left → left ≡ told_of (mark_outcome given mark)
marks_is (marks call) = call.post

pub checks_ring_is : {sheet ring : List ℕ} {number : ℕ} → ChecksRing sheet ring number → number ≡ answer_number (ring_answer sheet ring)
checks_ring_is (checks_ring call) = call.post

pub adds_is : {sheet ring bytes : List ℕ} {left : RingTold} → Adds sheet ring bytes left → left ≡ ring_told_of (add_outcome sheet ring bytes)
adds_is (adds call) = call.post

pub answers_is : {given : Lent} {frame buffer : List ℕ} {left : Handed} → Answers given frame buffer left
    → left ≡ handed_of (answer_outcome given frame buffer)
answers_is (answers call) = call.post.0

-- .. and that what it is lent and what it leaves are bytes
pub answers_bytes : {given : Lent} {frame buffer : List ℕ} {left : Handed} → Answers given frame buffer left
    → Bytes given.sheet × Bytes given.bank × Bytes given.ring × Bytes frame × Bytes buffer × Bytes left.bank × Bytes left.buffer
answers_bytes (answers call) = call.post.1

pub explains_is : {given : Lent} {frame : List ℕ} {told : Said} → Explains given frame told → told ≡ said_of (explanation given frame)
explains_is (explains call) = call.post.0

pub explains_bytes : {given : Lent} {frame : List ℕ} {told : Said} → Explains given frame told
    → Bytes given.sheet × Bytes given.bank × Bytes given.ring × Bytes frame
explains_bytes (explains call) = call.post.1

pub queries_is : {asked : Asked} {buffer : List ℕ} {left : QueryTold} → Queries asked buffer left → left ≡ query_told_of (build_outcome asked buffer)
queries_is (queries call) = call.post.0

pub queries_bytes : {asked : Asked} {buffer : List ℕ} {left : QueryTold} → Queries asked buffer left
    → Bytes asked.values × Bytes buffer × Bytes left.buffer
queries_bytes (queries call) = call.post.1

pub reads_is : {asked : Asked} {reply buffer : List ℕ} {left : ReplyTold} → Reads asked reply buffer left
    → left ≡ reply_told_of (reading_outcome asked reply buffer)
reads_is (reads call) = call.post.0

pub reads_bytes : {asked : Asked} {reply buffer : List ℕ} {left : ReplyTold} → Reads asked reply buffer left
    → Bytes asked.values × Bytes reply × Bytes buffer × Bytes left.buffer
reads_bytes (reads call) = call.post.1

-- ---- demand 2, rule D20, the whole: what the contract of cedarskein_answer allows is exactly the outcome of the definition, where bytes are lent

pub answer_exactly : (κs : Lfts 7) (passed : Dens κs cedarskein_answer.ps) (result : (res_t cedarskein_answer.r κs).Denot) (exit : AtExit (ended_of 7 cedarskein_answer.ps cedarskein_answer.r) κs)
    → cedarskein_answer_reads.Post κs passed result exit
    ↔ (Bytes passed.0.now × Bytes passed.1.0.now × Bytes passed.1.1.0.now × Bytes passed.1.1.1.0.now × Bytes passed.1.1.1.1.0.now
    × (handed result exit.1.1.1.1.1.0.now exit.1.1.1.1.1.1.0.now exit.1.0.now exit.1.1.1.1.0.now
    ≡ handed_of (answer_outcome (lent_with passed.0.now passed.1.0.now passed.1.1.0.now) passed.1.1.1.0.now passed.1.1.1.1.0.now)))
answer_exactly κs passed result exit = (
  λ p. (p.1.0, p.1.1, p.1.2, p.1.3, p.1.4, p.0),
  λ q.
      let given : Lent = lent_with passed.0.now passed.1.0.now passed.1.1.0.now in
      let kept = answer_bytes given passed.1.1.1.0.now passed.1.1.1.1.0.now q.1 q.2 q.3 q.4 in
      let left = subst (λ (h : Handed). Bytes h.bank × Bytes h.buffer) (sym q.5) kept in
      (q.5, (q.0, q.1, q.2, q.3, q.4, left.0, left.1)),
)

-- ---- demand 1, rule D10: no contract asks anything of what is lent ..

abbrev pub Takes : (n : ℕ) (ps : List (ParamKind n)) → In n ps → Type 0
Takes n ps Pre = (κs : Lfts n) (lent : Dens κs ps) → Pre κs lent

pub sheet_check_takes : Takes 1 cedarskein_sheet_check.ps cedarskein_sheet_check_reads.Pre
sheet_check_takes κs lent = tt

pub bank_check_takes : Takes 2 cedarskein_bank_check.ps cedarskein_bank_check_reads.Pre
bank_check_takes κs lent = tt

pub bank_fresh_takes : Takes 2 cedarskein_bank_fresh.ps cedarskein_bank_fresh_reads.Pre
bank_fresh_takes κs lent = tt

pub post_takes : Takes 3 cedarskein_post.ps cedarskein_post_reads.Pre
post_takes κs lent = tt

pub set_mark_takes : Takes 2 cedarskein_set_mark.ps cedarskein_set_mark_reads.Pre
set_mark_takes κs lent = tt

pub ring_check_takes : Takes 2 cedarskein_ring_check.ps cedarskein_ring_check_reads.Pre
ring_check_takes κs lent = tt

pub add_record_takes : Takes 3 cedarskein_add_record.ps cedarskein_add_record_reads.Pre
add_record_takes κs lent = tt

pub answer_takes : Takes 7 cedarskein_answer.ps cedarskein_answer_reads.Pre
answer_takes κs lent = tt

pub why_takes : Takes 7 cedarskein_why.ps cedarskein_why_reads.Pre
why_takes κs lent = tt

pub query_takes : Takes 3 cedarskein_query.ps cedarskein_query_reads.Pre
query_takes κs lent = tt

pub reply_takes : Takes 5 cedarskein_reply.ps cedarskein_reply_reads.Pre
reply_takes κs lent = tt

-- .. and for any of it there is a call that the contract allows, so that no statement about calls is empty. A call with a frame, and the two of a
-- box that asks, say that bytes are lent, so there it is for any bytes.

-- what is lent by a `&`, and by a `&mut`. Where it points and its ghost name are no matter to any contract.
abbrev ref : {X : Type 0} → X → Bor X
ref x = record { ref_ptr = (0, 0); now = x }

abbrev mut_ref : {X : Type 0} → X → MutBor X
mut_ref x = record { ref_ptr = (0, 0); ghost_name = 0; now = x }

pub some_sheet_check : (sheet : List ℕ) → ChecksSheet sheet (answer_number (sheet_answer sheet))
some_sheet_check sheet =
    checks_sheet
    record {
      lifetimes = ([], tt);
      lent = (ref sheet, tt);
      result = answer_number (sheet_answer sheet);
      exit = (ref sheet, tt);
      post = refl;
    }

pub some_bank_check : (sheet bank : List ℕ) → ChecksBank (lent sheet bank) (answer_number (check_answer (lent sheet bank)))
some_bank_check sheet bank =
    let given : Lent = lent sheet bank in
    checks_bank
    record {
      lifetimes = ([], ([], tt));
      lent = (ref given.sheet, (ref given.bank, tt));
      result = answer_number (check_answer given);
      exit = (ref given.sheet, (ref given.bank, tt));
      post = refl;
    }

pub some_fresh : (sheet bank : List ℕ) → Freshens (lent sheet bank) (told_of (fresh_outcome (lent sheet bank)))
some_fresh sheet bank =
    let given : Lent = lent sheet bank in
    let left : Told = told_of (fresh_outcome given) in
    freshens
    record {
      lifetimes = ([], ([], tt));
      lent = (ref given.sheet, (mut_ref given.bank, tt));
      result = left.number;
      exit = (ref given.sheet, (mut_ref left.bank, tt));
      post = refl;
    }

pub some_post : (sheet bank : List ℕ) (address : ℕ) (words : List ℕ)
    → Posts (lent sheet bank) address words (told_of (post_outcome (lent sheet bank) address words))
some_post sheet bank address words =
    let given : Lent = lent sheet bank in
    let left : Told = told_of (post_outcome given address words) in
    posts
    record {
      lifetimes = ([], ([], ([], tt)));
      lent = (ref given.sheet, (mut_ref given.bank, (address, (ref words, tt))));
      result = left.number;
      exit = (ref given.sheet, (mut_ref left.bank, (address, (ref words, tt))));
      post = refl;
    }

pub some_mark : (sheet bank : List ℕ) (mark : ℕ) → Marks (lent sheet bank) mark (told_of (mark_outcome (lent sheet bank) mark))
some_mark sheet bank mark =
    let given : Lent = lent sheet bank in
    let left : Told = told_of (mark_outcome given mark) in
    marks
    record {
      lifetimes = ([], ([], tt));
      lent = (ref given.sheet, (mut_ref given.bank, (mark, tt)));
      result = left.number;
      exit = (ref given.sheet, (mut_ref left.bank, (mark, tt)));
      post = refl;
    }

pub some_ring_check : (sheet ring : List ℕ) → ChecksRing sheet ring (answer_number (ring_answer sheet ring))
some_ring_check sheet ring =
    checks_ring
    record {
      lifetimes = ([], ([], tt));
      lent = (ref sheet, (ref ring, tt));
      result = answer_number (ring_answer sheet ring);
      exit = (ref sheet, (ref ring, tt));
      post = refl;
    }

pub some_add : (sheet ring bytes : List ℕ) → Adds sheet ring bytes (ring_told_of (add_outcome sheet ring bytes))
some_add sheet ring bytes =
    let left : RingTold = ring_told_of (add_outcome sheet ring bytes) in
    adds
    record {
      lifetimes = ([], ([], ([], tt)));
      lent = (ref sheet, (mut_ref ring, (ref bytes, tt)));
      result = left.number;
      exit = (ref sheet, (mut_ref left.ring, (ref bytes, tt)));
      post = refl;
    }

pub some_answer : (given : Lent) (frame buffer : List ℕ) → Bytes given.sheet → Bytes given.bank → Bytes given.ring → Bytes frame → Bytes buffer
    → Answers given frame buffer (handed_of (answer_outcome given frame buffer))
some_answer given frame buffer sheet_bytes bank-bytes ring-bytes frame_bytes buffer-bytes =
    let kept = answer_bytes given frame buffer bank-bytes ring-bytes frame_bytes buffer-bytes in
    let left : Handed = handed_of (answer_outcome given frame buffer) in
    answers
    record {
      lifetimes = ([], ([], ([], ([], ([], ([], ([], tt)))))));
      lent = (ref given.sheet, (mut_ref given.bank, (ref given.ring, (ref frame, (mut_ref buffer, (mut_ref 0, (mut_ref 0, tt)))))));
      result = left.number;
      exit = (ref given.sheet, (mut_ref left.bank, (ref given.ring, (ref frame, (mut_ref left.buffer, (mut_ref left.length, (mut_ref left.rate, tt)))))));
      post = (refl, (sheet_bytes, bank-bytes, ring-bytes, frame_bytes, buffer-bytes, kept.0, kept.1));
    }

pub some_why : (given : Lent) (frame : List ℕ) → Bytes given.sheet → Bytes given.bank → Bytes given.ring → Bytes frame
    → Explains given frame (said_of (explanation given frame))
some_why given frame sheet_bytes bank-bytes ring-bytes frame_bytes =
    let told : Said = said_of (explanation given frame) in
    explains
    record {
      lifetimes = ([], ([], ([], ([], ([], ([], ([], tt)))))));
      lent = (ref given.sheet, (ref given.bank, (ref given.ring, (ref frame, (mut_ref 0, (mut_ref 0, (mut_ref 0, tt)))))));
      result = told.number;
      exit = (ref given.sheet, (ref given.bank, (ref given.ring, (ref frame, (mut_ref told.reason, (mut_ref told.address, (mut_ref told.side, tt)))))));
      post = (refl, (sheet_bytes, bank-bytes, ring-bytes, frame_bytes));
    }

module _ (kind station address number : ℕ) (values : List ℕ) (values-bytes : Bytes values) where
  abbrev asked : Asked
  asked = asked_by kind station address number values

  pub some_query : (buffer : List ℕ) → Bytes buffer → Queries asked buffer (query_told_of (build_outcome asked buffer))
  some_query buffer buffer-bytes =
      let left : QueryTold = query_told_of (build_outcome asked buffer) in
      queries
      record {
        lifetimes = ([], ([], ([], tt)));
        lent = (kind, (station, (address, (number, (ref values, (mut_ref buffer, (mut_ref 0, tt)))))));
        result = left.number;
        exit = (kind, (station, (address, (number, (ref values, (mut_ref left.buffer, (mut_ref left.length, tt)))))));
        post = (refl, (values-bytes, buffer-bytes, build_bytes asked buffer values-bytes buffer-bytes));
      }

  pub some_reply : (reply buffer : List ℕ) → Bytes reply → Bytes buffer → Reads asked reply buffer (reply_told_of (reading_outcome asked reply buffer))
  some_reply reply buffer reply_bytes buffer-bytes =
      let left : ReplyTold = reply_told_of (reading_outcome asked reply buffer) in
      reads
      record {
        lifetimes = ([], ([], ([], ([], ([], tt)))));
        lent = (kind, (station, (address, (number, (ref values, (ref reply, (mut_ref buffer, (mut_ref 0, (mut_ref 0, tt)))))))));
        result = left.number;
        exit = (kind, (station, (address, (number, (ref values, (ref reply, (mut_ref left.buffer, (mut_ref left.length, (mut_ref left.error, tt)))))))));
        post = (refl, (values-bytes, reply_bytes, buffer-bytes, reading_bytes asked reply buffer reply_bytes buffer-bytes));
      }
