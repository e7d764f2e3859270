-- What a call that builds a query leaves, where it refuses nothing: the order's query, in its parts. Assumes nothing.
use mathlib.Core.Path.{◌≡◌, refl, sym, ap, subst, ◌∙◌}
use mathlib.Core.Bool.{false, not}
use mathlib.Core.List.{List}
use Prim.Native.Nat.{ℕ, ◌+◌, ◌*◌, ◌<◌}
use native.Mathlib.Omega.{arith}
use lib.ListN.{length, drop}
use lib.Seq.{take_at}
use Rattle.words.specs.Words.{word_at}
use Rattle.frame.specs.Reply.{with_check, laid, small_buffer}
use Rattle.controller_rules.specs.declared.Order.{Order}
use Rattle.controller_rules.specs.declared.Order.TheVariants.{Read, Record, Write, Writes, Clear, Unknown}
use Rattle.controller_rules.specs.Order.{Asked, ask, no_frame}
use Rattle.controller_rules.specs.Query.{sent_values, query}
use Rattle.controller_rules.proofs.Outcomes.{built_is, build_done}
use Rattle.controller_rules.proofs.Queries.{query_length, query_station, query_function, query_start, query_second, query_sized, query_passes, query_count, query_values}
use Rattle.plain.specs.Numbers.{byte, word}
use Rattle.plain.proofs.Rows.{word_same}
use Rattle.plain.proofs.Conditions.{whole_tells}
use Rattle.cedarskein.specs.Door.{QueryTold, query_told, query_told_of}
use Rattle.demands.proofs.Calls.{Queries, queries_is}
use Rattle.exchange.specs.Sent.{query_in, BuiltAs}

-- ---- a query, in plain numbers

module _ (stationed : ℕ) (values : List ℕ) where
  sent_eight : (order : Order) → ((start : ℕ) → order ≡ Writes start → ⊥) → length (sent_values order values) ≡ 0
  sent_eight (Read start count) other = refl
  sent_eight (Record address words) other = refl
  sent_eight (Write address value) other = refl
  sent_eight (Writes start) other = absurd (other start refl)
  sent_eight (Clear address) other = refl
  sent_eight Unknown other = refl

  sent_word_lem : (start k : ℕ) → 2 * k + 1 < length values → word_at (query (ask (Writes start) stationed values)) (7 + 2 * k) ≡ word_at values (2 * k)
  unfolding query with_check
  sent_word_lem start k less = query_values start stationed values k less

  sent_several : (order : Order) (start : ℕ) → order ≡ Writes start
      → (length (query (ask order stationed values)) ≡ 9 + length values) × (byte (query (ask order stationed values)) 6 ≡ length values)
      × ((k : ℕ) → 2 * k + 1 < length values → word (query (ask order stationed values)) (7 + 2 * k) ≡ word values (2 * k))
  sent_several order start is =
      subst
      (λ (o : Order). (length (query (ask o stationed values)) ≡ 9 + length values) × (byte (query (ask o stationed values)) 6 ≡ length values)
      × ((k : ℕ) → 2 * k + 1 < length values → word (query (ask o stationed values)) (7 + 2 * k) ≡ word values (2 * k))) (sym is) (
        query_length (ask (Writes start) stationed values) ∙ omega arith,
        query_count start stationed values,
        λ k less. word_same (query (ask (Writes start) stationed values)) (7 + 2 * k) ∙ sent_word_lem start k less ∙ sym (word_same values (2 * k)),
      )

pub query_as : (asked : Asked) → no_frame asked ≡ false → BuiltAs asked (query asked)
query_as asked has =
    record {
      whole = (whole_tells (query asked)).right (ap not (query_passes asked has));
      at_most = omega (arith, (query_sized asked has).1);
      station = query_station asked;
      function = query_function asked;
      address = word_same (query asked) 2 ∙ query_start asked;
      second = word_same (query asked) 4 ∙ query_second asked;
      eight = λ other. query_length asked ∙ omega (arith, sent_eight asked.station asked.values asked.order other);
      several = sent_several asked.station asked.values asked.order;
    }

-- ---- the call

module _ (asked : Asked) (buffer : List ℕ) {told : QueryTold} (call : Queries asked buffer told) (taken : told.number ≡ 0) where
  done : (no_frame asked ≡ false) × (small_buffer buffer ≡ false)
  done = build_done asked buffer (sym (ap (λ (t : QueryTold). t.number) (queries_is call)) ∙ taken)

  pub has_frame : no_frame asked ≡ false
  has_frame = done.0

  told_is : told ≡ query_told 0 (length (query asked)) (laid (query asked) buffer)
  told_is = queries_is call ∙ ap query_told_of (built_is asked buffer done.0 done.1)

  -- what is sent is the order's query
  pub sent_is : query_in told ≡ query asked
  sent_is = ap query_in told_is ∙ take_at (query asked) (drop (length (query asked)) buffer) (length (query asked)) refl

  -- rule Q24
  pub query_built : BuiltAs asked (query_in told)
  query_built = subst (BuiltAs asked) (sym sent_is) (query_as asked has_frame)
