-- Two orders take one reply alike exactly if it tells no difference between them; read against a wrong station or function it is refused. Assumes nothing.
use mathlib.Core.Path.{◌≡◌, sym, ap, ◌∙◌}
use mathlib.Core.Bool.{true, false, true≢false, false≢true}
use mathlib.Core.List.{List, drop}
use mathlib.Core.Logic.{◌↔◌, ◌⊎◌, inl, inr}
use Prim.Native.Nat.{ℕ, ◌+◌, ◌*◌}
use native.Mathlib.Omega.{arith}
use lib.Dec.{eqb}
use lib.ListN.{length, take}
use borrow.Author.Tests.{eq-eqb, ne_eqb, eqb-true}
use Rattle.std.specs.Prelude.{Ok}
use Rattle.lists.specs.Cases.{first_case}
use Rattle.words.specs.Words.{byte_at}
use Rattle.frame.specs.Frame.{reads, station, function, start, second}
use Rattle.frame.specs.Reply.{top_bit_set, laid}
use Rattle.controller_rules.specs.Order.{Asked, function_of, address_of, second_of, word_count, no_frame}
use Rattle.controller_rules.specs.Reading.{reply_outcome, is_error, brings_values, reading_of, reading_outcome}
use Rattle.controller_rules.proofs.Outcomes.{Taken, reading_taken}
use Rattle.controller_rules.proofs.Readings.{function_plain, marked_is, reads_error, reads_values, reads_done, Fits, an_error, its_values, its_done, taken_ours, taken_whole, taken_fits}
use Rattle.controller_rules.specs.declared.Reading.TheVariants.{Values}
use Rattle.cedarskein.specs.Door.{ReplyTold, reply_told, reply_told_of}
use Rattle.demands.proofs.Calls.{Reads, reads_is}
use Rattle.exchange.specs.Alike.{Alike}

module _ (one other : Asked) (reply out : List ℕ) (taken : Taken one reply out) (has : no_frame other ≡ false) where
  abbrev code : ℕ
  code = function_of one.order

  abbrev its : ℕ
  its = function_of other.order

  -- ---- orders that are alike

  -- by what the reply is to the one: it is that to the other
  module _ (alike : Alike one other reply) where
    ours : station reply ≡ other.station
    ours = taken_ours one reply out taken ∙ alike.station

    abbrev Same : Type 0
    Same = reading_outcome other reply out ≡ reading_outcome one reply out

    same_values : function reply ≡ code → brings_values one.order ≡ true → length reply ≡ 5 + 2 * word_count one.order
        → byte_at reply 2 ≡ 2 * word_count one.order → word_count one.order ≡ word_count other.order → Same
    same_values is brings long counted many =
        reads_values other reply out has taken.large (taken_whole one reply out taken) ours (is ∙ alike.function)
        (ap (λ (f : ℕ). eqb f reads) (sym alike.function) ∙ brings) (long ∙ ap (λ (n : ℕ). 5 + 2 * n) many) (counted ∙ ap (λ (n : ℕ). 2 * n) many)
        ∙ ap (λ (n : ℕ). reply_outcome (Ok (Values (2 * n))) (laid (take (2 * n) (drop 3 reply)) out)) (sym many)
        ∙ sym (reads_values one reply out taken.has taken.large (taken_whole one reply out taken) (taken_ours one reply out taken) is brings long counted)

    same_done : function reply ≡ code → brings_values one.order ≡ false → length reply ≡ 8 → start reply ≡ address_of one.order
        → second reply ≡ second_of one.order one.values → address_of one.order ≡ address_of other.order
        → second_of one.order one.values ≡ second_of other.order other.values → Same
    same_done is brings long at word there words =
        reads_done other reply out has taken.large (taken_whole one reply out taken) ours (is ∙ alike.function)
        (ap (λ (f : ℕ). eqb f reads) (sym alike.function) ∙ brings) long (at ∙ there) (word ∙ words)
        ∙ sym (reads_done one reply out taken.has taken.large (taken_whole one reply out taken) (taken_ours one reply out taken) is brings long at word)

    -- no error has the query's own function
    not_error : function reply ≡ code → is_error one.order reply ≡ true → ⊥
    not_error is error = omega (arith, is, eqb-true (function reply) (top_bit_set code) error, marked_is one.order)

    as_other : Fits one reply
        → ((is_error one.order reply ≡ true)
        ⊎ ((brings_values one.order ≡ true) × (word_count one.order ≡ word_count other.order))
        ⊎ ((brings_values one.order ≡ false) × (address_of one.order ≡ address_of other.order)
        × (second_of one.order one.values ≡ second_of other.order other.values))) → Same
    as_other (an_error is long least most) body =
        reads_error other reply out has taken.large (taken_whole one reply out taken) ours (is ∙ ap top_bit_set alike.function) long least most
        ∙ sym (reads_error one reply out taken.has taken.large (taken_whole one reply out taken) (taken_ours one reply out taken) is long least most)
    as_other (its_values is brings long counted) (inl error) = absurd (not_error is error)
    as_other (its_values is brings long counted) (inr (inl words)) = same_values is brings long counted words.1
    as_other (its_values is brings long counted) (inr (inr others)) = absurd (true≢false (sym brings ∙ others.0))
    as_other (its_done is brings long at word) (inl error) = absurd (not_error is error)
    as_other (its_done is brings long at word) (inr (inl words)) = absurd (false≢true (sym brings ∙ words.0))
    as_other (its_done is brings long at word) (inr (inr others)) = same_done is brings long at word others.1 others.2

    alike_same : reading_outcome other reply out ≡ reading_outcome one reply out
    alike_same = as_other (taken_fits one reply out taken) alike.body

  -- ---- orders that take it alike

  module _ (both : Taken other reply out) where
    one_station : one.station ≡ other.station
    one_station = sym (taken_ours one reply out taken) ∙ taken_ours other reply out both

    -- a function is that of both orders, or that with its top bit set: never of one the one and of the other the other
    alike_both : Fits one reply → Fits other reply → Alike one other reply
    alike_both (an_error is long least most) (an_error its-is its-long its-least its-most) =
        record {
          station = one_station;
          function = omega (arith, is, its-is, marked_is one.order, marked_is other.order);
          body = inl (eq-eqb (function reply) (top_bit_set code) is);
        }
    alike_both (an_error is long least most) (its_values its-is brings its-long counted) = absurd (omega (arith, is, its-is, marked_is one.order, function_plain other.order))
    alike_both (an_error is long least most) (its_done its-is brings its-long at word) = absurd (omega (arith, is, its-is, marked_is one.order, function_plain other.order))
    alike_both (its_values is brings long counted) (an_error its-is its-long its-least its-most) = absurd (omega (arith, is, its-is, marked_is other.order, function_plain one.order))
    alike_both (its_values is brings long counted) (its_values its-is its-brings its-long its-counted) =
        record { station = one_station; function = sym is ∙ its-is; body = inr (inl (brings, omega (arith, long, its-long))) }
    alike_both (its_values is brings long counted) (its_done its-is its-brings its-long at word) =
        absurd (true≢false (sym brings ∙ ap (λ (f : ℕ). eqb f reads) (sym is ∙ its-is) ∙ its-brings))
    alike_both (its_done is brings long at word) (an_error its-is its-long its-least its-most) = absurd (omega (arith, is, its-is, marked_is other.order, function_plain one.order))
    alike_both (its_done is brings long at word) (its_values its-is its-brings its-long its-counted) =
        absurd (false≢true (sym brings ∙ ap (λ (f : ℕ). eqb f reads) (sym is ∙ its-is) ∙ its-brings))
    alike_both (its_done is brings long at word) (its_done its-is its-brings its-long its-at its-word) =
        record { station = one_station; function = sym is ∙ its-is; body = inr (inr (brings, sym at ∙ its-at, sym word ∙ its-word)) }

    taken_alike : Alike one other reply
    taken_alike = alike_both (taken_fits one reply out taken) (taken_fits other reply out both)

-- ---- over the calls

module _ (one other : Asked) (reply out : List ℕ) (has : no_frame other ≡ false) {told : ReplyTold} (reading : Reads one reply out told)
    (takes : told.number ≡ 0) {heard : ReplyTold} (again : Reads other reply out heard) where
  is_taken : Taken one reply out
  is_taken = reading_taken one reply out (sym (ap (λ (t : ReplyTold). t.number) (reads_is reading)) ∙ takes)

  -- rule Q54: the other order takes the reply as the one does exactly if they are alike
  pub alike_exactly : (heard ≡ told) ↔ Alike one other reply
  alike_exactly = (
    λ same. taken_alike one other reply out is_taken has
        (reading_taken other reply out (sym (ap (λ (t : ReplyTold). t.number) (reads_is again)) ∙ ap (λ (t : ReplyTold). t.number) same ∙ takes)),
    λ alike. reads_is again ∙ ap reply_told_of (alike_same one other reply out is_taken has alike) ∙ sym (reads_is reading),
  )

  -- rule Q55: against a wrong station it is refused by 11, whatever the function
  wrong_station : (one.station ≡ other.station → ⊥) → reply_told_of (reading_outcome other reply out) ≡ reply_told 11 0 0 out
  unfolding reading_outcome reading_of first_case
  wrong_station differ =
      simp (
        has,
        is_taken.large,
        taken_whole one reply out is_taken,
        ne_eqb (station reply) other.station (λ e. differ (sym (taken_ours one reply out is_taken) ∙ e)),
      )

  pub other_station_told : (one.station ≡ other.station → ⊥) → heard ≡ reply_told 11 0 0 out
  other_station_told differ = reads_is again ∙ wrong_station differ

  -- against a wrong function by 12
  not_its_own : Fits one reply → (function_of one.order ≡ function_of other.order → ⊥)
      → (function reply ≡ function_of other.order → ⊥) × (function reply ≡ top_bit_set (function_of other.order) → ⊥)
  not_its_own (an_error is long least most) differ = (
    λ e. omega (arith, is, e, marked_is one.order, function_plain other.order),
    λ e. differ (omega (arith, is, e, marked_is one.order, marked_is other.order)),
  )
  not_its_own (its_values is brings long counted) differ =
      (λ e. differ (sym is ∙ e), λ e. omega (arith, is, e, marked_is other.order, function_plain one.order))
  not_its_own (its_done is brings long at word) differ =
      (λ e. differ (sym is ∙ e), λ e. omega (arith, is, e, marked_is other.order, function_plain one.order))

  wrong_function : one.station ≡ other.station → (function_of one.order ≡ function_of other.order → ⊥)
      → reply_told_of (reading_outcome other reply out) ≡ reply_told 12 0 0 out
  unfolding reading_outcome reading_of first_case
  wrong_function same differ =
      let neither = not_its_own (taken_fits one reply out is_taken) differ in
      simp (
        has,
        is_taken.large,
        taken_whole one reply out is_taken,
        eq-eqb (station reply) other.station (taken_ours one reply out is_taken ∙ same),
        ne_eqb (function reply) (function_of other.order) neither.0,
        ne_eqb (function reply) (top_bit_set (function_of other.order)) neither.1,
      )

  pub other_function_told : one.station ≡ other.station → (function_of one.order ≡ function_of other.order → ⊥) → heard ≡ reply_told 12 0 0 out
  other_function_told same differ = reads_is again ∙ wrong_function same differ
