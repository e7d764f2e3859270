-- The two outcomes: each number comes in its order, a refusal leaves the buffer as it was, and what is left of bytes is bytes. Assumes nothing.
use mathlib.Core.Path.{◌≡◌, refl}
use mathlib.Core.Bool.{Bool, true, false, not, cond}
use mathlib.Core.List.{List, [], ◌∷◌}
use Prim.Native.Nat.{ℕ, zero, suc, ◌*◌}
use native.Mathlib.Omega.{arith}
use lib.ListN.{length, take, drop}
use Rattle.std.specs.Prelude.{Result, Ok, Err}
use Rattle.lists.specs.Cases.{when, first_case, mapped, InOrder}
use Rattle.lists.proofs.Cases.{differ, told_in_order}
use Rattle.words.specs.Words.{Bytes}
use Rattle.words.proofs.Small.{bytes_none, bytes_one, bytes_both, bytes_behind}
use Rattle.refusals.specs.declared.Refusal.{Refusal}
use Rattle.refusals.specs.declared.Refusal.TheVariants.{SmallBuffer, NoFrame, ReplyDamaged, ReplyStation, ReplyFunction, ReplyBody}
use Rattle.refusals.proofs.Numbers.{refusal_from_two}
use Rattle.frame.specs.Reply.{laid, small_buffer}
use Rattle.controller_rules.specs.declared.Order.{Order}
use Rattle.controller_rules.specs.Order.{Asked, word_count, no_frame}
use Rattle.controller_rules.specs.Query.{QueryOutcome, query_outcome, query, query_refusals, built_query, built_with, build_outcome, built_number, built_length, Built}
use Rattle.controller_rules.specs.Reading.{ReplyOutcome, reply_outcome, damaged_reply, from_other, is_error, other_function, code_in, brings_values, body_fits, reply_refusals, taken, reading_of, read_with, reading_outcome, reading_number, reading_length, reading_error}
use Rattle.controller_rules.proofs.Queries.{query_bytes}
use Rattle.controller_rules.specs.declared.Reading.{Reading}
use Rattle.controller_rules.specs.declared.Reading.TheVariants.{Values, Done, Error}

-- ---- building

module _ (asked : Asked) (buffer : List ℕ) where
  pub query_numbers : InOrder (built_number (built_query asked buffer)) [] (when (no_frame asked) 9 ∷ when (small_buffer buffer) 5 ∷ [])
  unfolding built_query differ
  query_numbers = told_in_order built_number (mapped Err (query_refusals asked buffer)) (Ok (length (query asked))) refl refl

  -- what is built is the order's query, where the order has a frame and the buffer is large enough
  pub built_is : no_frame asked ≡ false → small_buffer buffer ≡ false → build_outcome asked buffer ≡ query_outcome (Ok (length (query asked))) (laid (query asked) buffer)
  unfolding build_outcome built_query first_case
  built_is has large = simp (has, large)

  -- the outcome says what was built
  pub built_told : (build_outcome asked buffer).built ≡ built_query asked buffer
  unfolding build_outcome
  built_told = go (built_query asked buffer)
    where
      go : (b : Built) → (built_with b asked buffer).built ≡ b
      go (Ok length) = refl
      go (Err refusal) = refl

  -- building is refused, or it is done
  pub built_cases : (P : QueryOutcome → Type 0) → ((refusal : Refusal) → P (query_outcome (Err refusal) buffer))
      → (no_frame asked ≡ false → small_buffer buffer ≡ false → P (query_outcome (Ok (length (query asked))) (laid (query asked) buffer)))
      → P (build_outcome asked buffer)
  unfolding build_outcome built_query first_case
  built_cases P refused done = go (no_frame asked) refl (small_buffer buffer) refl
    where
      go : (no : Bool) → no_frame asked ≡ no → (small : Bool) → small_buffer buffer ≡ small
          → P (built_with (cond no (Err NoFrame) (cond small (Err SmallBuffer) (Ok (length (query asked))))) asked buffer)
      go true e small f = refused NoFrame
      go false e true f = refused SmallBuffer
      go false e false f = done e f

  pub build_bytes : Bytes asked.values → Bytes buffer → Bytes (build_outcome asked buffer).buffer
  build_bytes small room =
      built_cases (λ o. Bytes o.buffer) (λ refusal. room)
      (λ has large. bytes_both (query asked) (drop (length (query asked)) buffer) (query_bytes asked has small) (bytes_behind (length (query asked)) buffer room))

  -- a refusal leaves the buffer as it was
  pub build_refused : (built_number (build_outcome asked buffer).built ≡ 0 → ⊥)
      → (built_length (build_outcome asked buffer).built ≡ 0) × ((build_outcome asked buffer).buffer ≡ buffer)
  build_refused =
      built_cases (λ o. (built_number o.built ≡ 0 → ⊥) → (built_length o.built ≡ 0) × (o.buffer ≡ buffer)) (λ refusal some. (refl, refl))
      (λ has large some. absurd (some refl))

  -- what is done has a frame, and room for it
  pub build_done : built_number (build_outcome asked buffer).built ≡ 0 → (no_frame asked ≡ false) × (small_buffer buffer ≡ false)
  build_done =
      built_cases (λ o. built_number o.built ≡ 0 → (no_frame asked ≡ false) × (small_buffer buffer ≡ false))
      (λ refusal none. absurd (omega (arith, refusal_from_two refusal, none))) (λ has large none. (has, large))

-- ---- reading

pub take_bytes : (n : ℕ) (bytes : List ℕ) → Bytes bytes → Bytes (take n bytes)
take_bytes zero bytes small = bytes_none
take_bytes (suc n) [] small = bytes_none
take_bytes (suc n) (byte ∷ behind) small = bytes_one byte (take n behind) (small 0) (take_bytes n behind (λ i. small (suc i)))

-- what a reply that is taken says: an error, values, or done
pub taken_cases : (P : ReplyOutcome → Type 0) (order : Order) (reply buffer : List ℕ)
    → (is_error order reply ≡ true → P (reply_outcome (Ok (Error (code_in reply))) buffer))
    → (is_error order reply ≡ false → brings_values order ≡ true → P (reply_outcome (Ok (Values (2 * word_count order))) (laid (take (2 * word_count order) (drop 3 reply)) buffer)))
    → (is_error order reply ≡ false → brings_values order ≡ false → P (reply_outcome (Ok Done) buffer)) → P (read_with (Ok (taken order reply)) reply buffer)
taken_cases P order reply buffer erred values done = go (is_error order reply) refl (brings_values order) refl
  where
    go : (error : Bool) → is_error order reply ≡ error → (brings : Bool) → brings_values order ≡ brings
        → P (read_with (Ok (cond error (Error (code_in reply)) (cond brings (Values (2 * word_count order)) Done))) reply buffer)
    go true e brings f = erred e
    go false e true f = values e f
    go false e false f = done e f

taken_number : (order : Order) (reply : List ℕ) → reading_number (Ok (taken order reply)) ≡ 0
taken_number order reply = go (is_error order reply) (brings_values order)
  where
    go : (error brings : Bool) → reading_number (Ok (cond error (Error (code_in reply)) (cond brings (Values (2 * word_count order)) Done))) ≡ 0
    go true brings = refl
    go false true = refl
    go false false = refl

-- a reply that is taken: nothing refuses it
pub record Taken (asked : Asked) (reply buffer : List ℕ) : Type 0 where
  pub has : no_frame asked ≡ false
  pub large : small_buffer buffer ≡ false
  pub whole : damaged_reply reply ≡ false
  pub ours : from_other asked reply ≡ false
  pub known : other_function asked.order reply ≡ false
  pub fits : not (body_fits asked reply) ≡ false

module _ (asked : Asked) (reply buffer : List ℕ) where
  pub reading_numbers : InOrder (reading_number (reading_of asked reply buffer)) []
      (when (no_frame asked) 9 ∷ when (small_buffer buffer) 5 ∷ when (damaged_reply reply) 10 ∷ when (from_other asked reply) 11
      ∷ when (other_function asked.order reply) 12 ∷ when (not (body_fits asked reply)) 13 ∷ [])
  unfolding reading_of differ
  reading_numbers = told_in_order reading_number (mapped Err (reply_refusals asked reply buffer)) (Ok (taken asked.order reply)) (taken_number asked.order reply) refl

  -- the outcome says what was read
  pub reading_told : (reading_outcome asked reply buffer).reading ≡ reading_of asked reply buffer
  unfolding reading_outcome
  reading_told = go (reading_of asked reply buffer)
    where
      go : (r : Result Reading Refusal) → (read_with r reply buffer).reading ≡ r
      go (Ok (Values length)) = refl
      go (Ok Done) = refl
      go (Ok (Error code)) = refl
      go (Err refusal) = refl

  -- reading is refused, or the reply is taken
  pub reading_cases : (P : ReplyOutcome → Type 0) → ((refusal : Refusal) → P (reply_outcome (Err refusal) buffer))
      → (Taken asked reply buffer → P (read_with (Ok (taken asked.order reply)) reply buffer)) → P (reading_outcome asked reply buffer)
  unfolding reading_outcome reading_of first_case
  reading_cases P refused done =
      go (no_frame asked) refl (small_buffer buffer) refl (damaged_reply reply) refl (from_other asked reply) refl (other_function asked.order reply) refl
      (not (body_fits asked reply)) refl
    where
      go : (no : Bool) → no_frame asked ≡ no → (small : Bool) → small_buffer buffer ≡ small → (damaged : Bool) → damaged_reply reply ≡ damaged
          → (other : Bool) → from_other asked reply ≡ other → (unknown : Bool) → other_function asked.order reply ≡ unknown
          → (misfits : Bool) → not (body_fits asked reply) ≡ misfits
          → P (read_with
          (cond no (Err NoFrame)
          (cond small (Err SmallBuffer)
          (cond damaged (Err ReplyDamaged)
          (cond other (Err ReplyStation) (cond unknown (Err ReplyFunction) (cond misfits (Err ReplyBody) (Ok (taken asked.order reply)))))))) reply buffer)
      go true a small b damaged c other d unknown e misfits f = refused NoFrame
      go false a true b damaged c other d unknown e misfits f = refused SmallBuffer
      go false a false b true c other d unknown e misfits f = refused ReplyDamaged
      go false a false b false c true d unknown e misfits f = refused ReplyStation
      go false a false b false c false d true e misfits f = refused ReplyFunction
      go false a false b false c false d false e true f = refused ReplyBody
      go false a false b false c false d false e false f =
          done record { has = a; large = b; whole = c; ours = d; known = e; fits = f }

  pub taken_is : Taken asked reply buffer → reading_outcome asked reply buffer ≡ read_with (Ok (taken asked.order reply)) reply buffer
  unfolding reading_outcome reading_of first_case
  taken_is is = simp (is.has, is.large, is.whole, is.ours, is.known, is.fits)

  pub reading_taken : reading_number (reading_outcome asked reply buffer).reading ≡ 0 → Taken asked reply buffer
  reading_taken =
      reading_cases (λ o. reading_number o.reading ≡ 0 → Taken asked reply buffer)
      (λ refusal none. absurd (omega (arith, refusal_from_two refusal, none))) (λ is none. is)

  -- a refusal leaves the buffer as it was
  pub reading_refused : (reading_number (reading_outcome asked reply buffer).reading ≡ 0 → ⊥)
      → (reading_length (reading_outcome asked reply buffer).reading ≡ 0) × (reading_error (reading_outcome asked reply buffer).reading ≡ 0)
      × ((reading_outcome asked reply buffer).buffer ≡ buffer)
  reading_refused =
      reading_cases
      (λ o. (reading_number o.reading ≡ 0 → ⊥) → (reading_length o.reading ≡ 0) × (reading_error o.reading ≡ 0) × (o.buffer ≡ buffer))
      (λ refusal some. (refl, refl, refl))
      (λ is.
      taken_cases
      (λ o. (reading_number o.reading ≡ 0 → ⊥) → (reading_length o.reading ≡ 0) × (reading_error o.reading ≡ 0) × (o.buffer ≡ buffer))
      asked.order reply buffer (λ e some. absurd (some refl)) (λ e f some. absurd (some refl)) (λ e f some. absurd (some refl)))

  pub reading_bytes : Bytes reply → Bytes buffer → Bytes (reading_outcome asked reply buffer).buffer
  reading_bytes small room =
      let n : ℕ = 2 * word_count asked.order in
      let values : List ℕ = take n (drop 3 reply) in
      reading_cases (λ o. Bytes o.buffer) (λ refusal. room)
      (λ is.
      taken_cases (λ o. Bytes o.buffer) asked.order reply buffer (λ e. room)
      (λ e f. bytes_both values (drop (length values) buffer) (take_bytes n (drop 3 reply) (bytes_behind 3 reply small)) (bytes_behind (length values) buffer room))
      (λ e f. room))
