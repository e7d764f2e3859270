-- The calls of the door: what is handed to each, and what is promised, by the definitions that its contract names. Definitions alone.
use Rattle.std.specs.Prelude.{◌≡◌, List, [], ◌∷◌, ℕ}
use Rattle.std.specs.Int.{w8, w16, w32}
use Rattle.words.specs.Words.{Bytes}
use Rattle.check_value.specs.Check.{start_state, taken, value_of}
use Rattle.refusals.specs.Answers.{answer_number}
use Rattle.sheet_rules.specs.Rules.{sheet_answer}
use Rattle.bank_rules.specs.Calls.{lent, lent_with, check_answer, fresh_outcome, post_outcome, mark_outcome}
use Rattle.ring_rules.specs.Calls.{ring_answer, add_outcome}
use Rattle.meter_rules.specs.Answer.{answer_outcome}
use Rattle.why_rules.specs.Reasons.{explanation}
use Rattle.controller_rules.specs.Order.{asked_by}
use Rattle.controller_rules.specs.Query.{build_outcome}
use Rattle.controller_rules.specs.Reading.{reading_outcome}
use Rattle.cedarskein.specs.Door.{told, told_of, ring_told, ring_told_of, handed, handed_of, said, said_of, query_told, query_told_of, reply_told, reply_told_of}
use Rattle.cedarskein.proofs.cedarskein_check_start.Symbol as check_start_code
use Rattle.cedarskein.proofs.cedarskein_check_take.Symbol as check_take_code
use Rattle.cedarskein.proofs.cedarskein_check_value.Symbol as check_value_code
use Rattle.cedarskein.proofs.cedarskein_sheet_check.Symbol as sheet_check_code
use Rattle.cedarskein.proofs.cedarskein_bank_check.Symbol as bank_check_code
use Rattle.cedarskein.proofs.cedarskein_bank_fresh.Symbol as bank_fresh_code
use Rattle.cedarskein.proofs.cedarskein_post.Symbol as post_code
use Rattle.cedarskein.proofs.cedarskein_set_mark.Symbol as set_mark_code
use Rattle.cedarskein.proofs.cedarskein_ring_check.Symbol as ring_check_code
use Rattle.cedarskein.proofs.cedarskein_add_record.Symbol as add_record_code
use Rattle.cedarskein.proofs.cedarskein_answer.Symbol as answer_code
use Rattle.cedarskein.proofs.cedarskein_why.Symbol as why_code
use Rattle.cedarskein.proofs.cedarskein_query.Symbol as query_code
use Rattle.cedarskein.proofs.cedarskein_reply.Symbol as reply_code
use Rattle.runs.specs.Runs.{Place, to_read, to_write, to_count, passes, lends, Call}

abbrev pub check_start_call : Call
check_start_call = record {
  code = check_start_code.code;
  name = check_start_code.name;
  args = [];
  width = w16;
  promise = λ number left. number ≡ start_state;
}

module _ (state byte : ℕ) where
  abbrev pub check_take_call : Call
  check_take_call = record {
    code = check_take_code.code;
    name = check_take_code.name;
    args = passes w16 state ∷ passes w8 byte ∷ [];
    width = w16;
    promise = λ number left. number ≡ taken state byte;
  }

module _ (bytes-at : Place) (bytes : List ℕ) where
  abbrev pub check_value_call : Call
  check_value_call = record {
    code = check_value_code.code;
    name = check_value_code.name;
    args = lends (to_read bytes-at bytes) ∷ [];
    width = w16;
    promise = λ number left. number ≡ value_of bytes;
  }

module _ (sheet-at : Place) (sheet : List ℕ) where
  abbrev pub sheet_check_call : Call
  sheet_check_call = record {
    code = sheet_check_code.code;
    name = sheet_check_code.name;
    args = lends (to_read sheet-at sheet) ∷ [];
    width = w32;
    promise = λ number left. number ≡ answer_number (sheet_answer sheet);
  }

module _ (sheet-at bank-at : Place) (sheet bank : List ℕ) where
  abbrev pub bank_check_call : Call
  bank_check_call = record {
    code = bank_check_code.code;
    name = bank_check_code.name;
    args = lends (to_read sheet-at sheet) ∷ lends (to_read bank-at bank) ∷ [];
    width = w32;
    promise = λ number left. number ≡ answer_number (check_answer (lent sheet bank));
  }

module _ (sheet-at bank-at : Place) (sheet bank : List ℕ) where
  abbrev pub bank_fresh_call : Call
  bank_fresh_call = record {
    code = bank_fresh_code.code;
    name = bank_fresh_code.name;
    args = lends (to_read sheet-at sheet) ∷ lends (to_write bank-at bank) ∷ [];
    width = w32;
    promise = λ number left. told number left.1.0 ≡ told_of (fresh_outcome (lent sheet bank));
  }

module _ (sheet-at bank-at words-at : Place) (sheet bank words : List ℕ) (address : ℕ) where
  abbrev pub post_call : Call
  post_call = record {
    code = post_code.code;
    name = post_code.name;
    args = lends (to_read sheet-at sheet) ∷ lends (to_write bank-at bank) ∷ passes w32 address ∷ lends (to_read words-at words) ∷ [];
    width = w32;
    promise = λ number left. told number left.1.0 ≡ told_of (post_outcome (lent sheet bank) address words);
  }

module _ (sheet-at bank-at : Place) (sheet bank : List ℕ) (mark : ℕ) where
  abbrev pub set_mark_call : Call
  set_mark_call = record {
    code = set_mark_code.code;
    name = set_mark_code.name;
    args = lends (to_read sheet-at sheet) ∷ lends (to_write bank-at bank) ∷ passes w32 mark ∷ [];
    width = w32;
    promise = λ number left. told number left.1.0 ≡ told_of (mark_outcome (lent sheet bank) mark);
  }

module _ (sheet-at ring-at : Place) (sheet ring : List ℕ) where
  abbrev pub ring_check_call : Call
  ring_check_call = record {
    code = ring_check_code.code;
    name = ring_check_code.name;
    args = lends (to_read sheet-at sheet) ∷ lends (to_read ring-at ring) ∷ [];
    width = w32;
    promise = λ number left. number ≡ answer_number (ring_answer sheet ring);
  }

module _ (sheet-at ring-at bytes-at : Place) (sheet ring bytes : List ℕ) where
  abbrev pub add_record_call : Call
  add_record_call = record {
    code = add_record_code.code;
    name = add_record_code.name;
    args = lends (to_read sheet-at sheet) ∷ lends (to_write ring-at ring) ∷ lends (to_read bytes-at bytes) ∷ [];
    width = w32;
    promise = λ number left. ring_told number left.1.0 ≡ ring_told_of (add_outcome sheet ring bytes);
  }

module _ (sheet-at bank-at ring-at frame_at buffer-at length_at rate_at : Place) (sheet bank ring frame buffer : List ℕ) (length rate : ℕ) where
  abbrev pub answer_call : Call
  answer_call = record {
    code = answer_code.code;
    name = answer_code.name;
    args = lends (to_read sheet-at sheet) ∷ lends (to_write bank-at bank) ∷ lends (to_read ring-at ring) ∷ lends (to_read frame_at frame) ∷ lends (to_write buffer-at buffer) ∷ lends (to_count length_at length) ∷ lends (to_count rate_at rate) ∷ [];
    width = w32;
    promise = λ number left. (handed number left.1.1.1.1.1.0 left.1.1.1.1.1.1.0 left.1.0 left.1.1.1.1.0 ≡ handed_of (answer_outcome (lent_with sheet bank ring) frame buffer))
        × (Bytes sheet × Bytes bank × Bytes ring × Bytes frame × Bytes buffer × Bytes left.1.0 × Bytes left.1.1.1.1.0);
  }

module _ (sheet-at bank-at ring-at frame_at reason-at address-at side-at : Place) (sheet bank ring frame : List ℕ) (reason address side : ℕ) where
  abbrev pub why_call : Call
  why_call = record {
    code = why_code.code;
    name = why_code.name;
    args = lends (to_read sheet-at sheet) ∷ lends (to_read bank-at bank) ∷ lends (to_read ring-at ring) ∷ lends (to_read frame_at frame) ∷ lends (to_count reason-at reason) ∷ lends (to_count address-at address) ∷ lends (to_count side-at side) ∷ [];
    width = w32;
    promise = λ number left. (said number left.1.1.1.1.0 left.1.1.1.1.1.0 left.1.1.1.1.1.1.0 ≡ said_of (explanation (lent_with sheet bank ring) frame))
        × (Bytes sheet × Bytes bank × Bytes ring × Bytes frame);
  }

module _ (values-at buffer-at length_at : Place) (order station address number : ℕ) (values buffer : List ℕ) (length : ℕ) where
  abbrev pub query_call : Call
  query_call = record {
    code = query_code.code;
    name = query_code.name;
    args = passes w32 order ∷ passes w32 station ∷ passes w32 address ∷ passes w32 number ∷ lends (to_read values-at values) ∷ lends (to_write buffer-at buffer) ∷ lends (to_count length_at length) ∷ [];
    width = w32;
    promise = λ told left. (query_told told left.1.1.1.1.1.1.0 left.1.1.1.1.1.0 ≡ query_told_of (build_outcome (asked_by order station address number values) buffer))
        × (Bytes values × Bytes buffer × Bytes left.1.1.1.1.1.0);
  }

module _ (values-at reply-at buffer-at length_at error-at : Place) (order station address number : ℕ) (values reply buffer : List ℕ) (length error : ℕ) where
  abbrev pub reply_call : Call
  reply_call = record {
    code = reply_code.code;
    name = reply_code.name;
    args = passes w32 order ∷ passes w32 station ∷ passes w32 address ∷ passes w32 number ∷ lends (to_read values-at values) ∷ lends (to_read reply-at reply) ∷ lends (to_write buffer-at buffer) ∷ lends (to_count length_at length) ∷ lends (to_count error-at error) ∷ [];
    width = w32;
    promise = λ told left. (reply_told told left.1.1.1.1.1.1.1.0 left.1.1.1.1.1.1.1.1.0 left.1.1.1.1.1.1.0 ≡ reply_told_of (reading_outcome (asked_by order station address number values) reply buffer))
        × (Bytes values × Bytes reply × Bytes buffer × Bytes left.1.1.1.1.1.1.0);
  }
