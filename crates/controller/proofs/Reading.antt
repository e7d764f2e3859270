-- What is read of a reply, stage by stage, is what the rules say of it. Assumes nothing.
use Rattle.std.proofs.Common.{◌≡◌, refl, ap, ◌∙◌, ℕ, ◌+◌, ◌*◌, ◌≤◌, Bool, true, false, not, cond, ◌||◌, ◌&&◌, List, length, eqb, Some, None, Result, Ok, Err}
use borrow.Author.Tests.{eqb-true, le-ltb}
use Rattle.lists.specs.Cases.{first_case}
use Rattle.refusals.specs.declared.Refusal.{Refusal}
use Rattle.refusals.specs.declared.Refusal.TheVariants.{NoFrame, SmallBuffer, ReplyDamaged, ReplyStation, ReplyFunction, ReplyBody}
use Rattle.words.specs.Words.{byte_at}
use Rattle.frame.specs.Frame.{function}
use Rattle.frame.specs.Reply.{least_buffer, small_buffer}
use Rattle.controller_rules.specs.declared.Reading.{Reading}
use Rattle.controller_rules.specs.declared.Reading.TheVariants.{Values, Done, Error}
use Rattle.controller_rules.specs.Order.{Asked, function_of, word_count, no_frame}
use Rattle.controller_rules.specs.Reading.{reply_outcome, code_in, damaged_reply, from_other, is_error, error_fits, values_fit, done_fits, brings_values, read_with, reading_of, reading_outcome}
use Rattle.controller.specs.Stages.{refused, reply_read}

-- function and body, by what holds of them: error, the query's function, brings values, and what fits
same_body : (n code : ℕ) (error same brings errs values done : Bool)
    → cond error (cond errs (Ok (Error code)) (Err ReplyBody))
    (cond (not same) (Err ReplyFunction) (cond brings (cond values (Ok (Values n)) (Err ReplyBody)) (cond done (Ok Done) (Err ReplyBody))))
    ≡ cond (not (same || error)) (Err ReplyFunction)
    (cond (not (cond error errs (cond brings values done))) (Err ReplyBody) (Ok (cond error (Error code) (cond brings (Values n) Done))))
same_body n code true true brings true values done = refl
same_body n code true true brings false values done = refl
same_body n code true false brings true values done = refl
same_body n code true false brings false values done = refl
same_body n code false false brings errs values done = refl
same_body n code false true true errs true done = refl
same_body n code false true true errs false done = refl
same_body n code false true false errs values true = refl
same_body n code false true false errs values false = refl

-- values that are read stand in the reply
module _ (asked : Asked) (reply : List ℕ) (n : ℕ) where
  values_by : (damaged other error same brings errs long counted done : Bool) (code : ℕ) → eqb (length reply) (5 + 2 * word_count asked.order) ≡ long
      → Ok (Values n)
      ≡ cond damaged (Err ReplyDamaged) (cond other (Err ReplyStation)
      (cond error (cond errs (Ok (Error code)) (Err ReplyBody))
      (cond (not same) (Err ReplyFunction)
      (cond brings (cond (long && counted) (Ok (Values (2 * word_count asked.order))) (Err ReplyBody)) (cond done (Ok Done) (Err ReplyBody))))))
      → (n ≡ 2 * word_count asked.order) × (length reply ≡ 5 + 2 * word_count asked.order)
  values_by false false false true true errs true true done code long e = (cc, eqb-true (length reply) (5 + 2 * word_count asked.order) long)
  values_by false false false true false errs right counted true code long e = cc
  values_by false false true same brings true right counted done code long e = cc
  values_by _ _ _ _ _ _ _ _ _ code long e = cc

  pub values_stand : Ok (Values n) ≡ reply_read asked reply → (n ≡ 2 * word_count asked.order) × (length reply ≡ 5 + 2 * word_count asked.order)
  values_stand =
      values_by (damaged_reply reply) (from_other asked reply) (is_error asked.order reply) (eqb (function reply) (function_of asked.order))
      (brings_values asked.order) (error_fits reply) _ (eqb (byte_at reply 2) (2 * word_count asked.order)) (done_fits asked reply) (code_in reply) refl

module _ (asked : Asked) (reply buffer : List ℕ) (has : no_frame asked ≡ false) (large : least_buffer ≤ length buffer) where
  reads : reply_read asked reply ≡ reading_of asked reply buffer
  unfolding reading_of first_case
  reads =
      simp (has, le-ltb (length buffer) least_buffer large)
      (ap (λ (r : Result Reading Refusal). cond (damaged_reply reply) (Err ReplyDamaged) (cond (from_other asked reply) (Err ReplyStation) r))
      (same_body (2 * word_count asked.order) (code_in reply) (is_error asked.order reply) (eqb (function reply) (function_of asked.order))
      (brings_values asked.order) (error_fits reply) (values_fit asked.order reply) (done_fits asked reply)))

  -- what is read, and with values what is laid
  pub read_is : {framed : Asked} → framed ≡ asked → {reading : Result Reading Refusal} → reading ≡ reply_read framed reply
      → read_with reading reply buffer ≡ reading_outcome asked reply buffer
  unfolding reading_outcome
  read_is same is = ap (λ (r : Result Reading Refusal). read_with r reply buffer) (is ∙ ap (λ (a : Asked). reply_read a reply) same ∙ reads)

-- what is no values is not laid
pub unlaid : (reading : Reading) (reply buffer : List ℕ) → ((n : ℕ) → reading ≡ Values n → ⊥)
    → reply_outcome (Ok reading) buffer ≡ read_with (Ok reading) reply buffer
unlaid (Values n) reply buffer none = absurd (none n refl)
unlaid Done reply buffer none = refl
unlaid (Error code) reply buffer none = refl

-- what is refused is not read
pub refused_reading : (asked : Asked) (reply buffer : List ℕ) {refusal : Refusal} → refused asked (length buffer) ≡ Some refusal
    → reply_outcome (Err refusal) buffer ≡ reading_outcome asked reply buffer
unfolding reading_outcome reading_of first_case
refused_reading asked reply buffer {refusal} is = ap (λ (r : Result Reading Refusal). read_with r reply buffer) (go (no_frame asked) (small_buffer buffer) _ is)
  where
    go : (no small : Bool) (more : Result Reading Refusal) → cond no (Some NoFrame) (cond small (Some SmallBuffer) None) ≡ Some refusal
        → Err refusal ≡ cond no (Err NoFrame) (cond small (Err SmallBuffer) more)
    go true small more is = cc
    go false true more is = cc
    go false false more is = cc
