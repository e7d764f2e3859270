-- An order that has a frame: what it shows fits, and its query as it is laid is the order's. Assumes nothing.
use Rattle.std.proofs.Common.{◌≡◌, ℕ, ◌*◌, ◌≤◌, refl, sym, ap, ◌∙◌, subst, arith, List, ◌∷◌, ◌++◌, length, Bool, true, false, cond, eqb, Some, None, Ok, Err}
use Rattle.lists.specs.Cases.{first_case}
use Rattle.refusals.specs.declared.Refusal.{Refusal}
use Rattle.refusals.specs.declared.Refusal.TheVariants.{NoFrame, SmallBuffer}
use Rattle.frame.specs.Frame.{writes_many, most_read}
use Rattle.frame.specs.Reply.{with_check, small_buffer}
use Rattle.controller_rules.specs.declared.Order.{Order}
use Rattle.controller_rules.specs.declared.Order.TheVariants.{Read, Record, Write, Writes, Clear, Unknown}
use Rattle.controller_rules.specs.Order.{Asked, ask, most_station, most_written, highest_word, function_of, wrong_number, no_frame}
use Rattle.controller_rules.specs.Query.{query_outcome, query, built_query, built_with, build_outcome}
use Rattle.controller_rules.proofs.Framed.{framed, address_fits_lem, second_fits_lem, words_fit, values_fit_lem}
use Rattle.controller.specs.declared.asked.Wanted.{Wanted}
use Rattle.controller.specs.Stages.{refused, wanted_of, head}

-- what is laid in front of the check: of several writes the byte count and the values stand behind the first six bytes
abbrev pub body : ℕ → Wanted → List ℕ → List ℕ
body station wanted values = cond (eqb wanted.function writes_many) (head station wanted ++ (length values ∷ values)) (head station wanted)

-- order by order
body_is : (order : Order) (station : ℕ) (values : List ℕ)
    → with_check (body station (wanted_of order values) values) ≡ query (ask order station values)
unfolding query
body_is (Read start count) station values = refl
body_is (Record address words) station values = refl
body_is (Write address value) station values = refl
body_is (Writes start) station values = refl
body_is (Clear address) station values = refl
body_is Unknown station values = refl

pub body_of : (asked : Asked) {wanted : Wanted} → wanted ≡ wanted_of asked.order asked.values
    → with_check (body asked.station wanted asked.values) ≡ query asked
body_of asked shows = ap (λ (w : Wanted). with_check (body asked.station w asked.values)) shows ∙ body_is asked.order asked.station asked.values

-- the values of several writes have at most 90 bytes
few_values : (values : List ℕ) (order : Order) → wrong_number order values ≡ false → function_of order ≡ writes_many → length values ≤ 90
few_values values (Read start count) e is = absurd (omega (arith, is))
few_values values (Record address words) e is = absurd (omega (arith, is))
few_values values (Write address value) e is = absurd (omega (arith, is))
few_values values (Writes start) e is = let found = values_fit_lem values e in omega (arith, found.0, found.2)
few_values values (Clear address) e is = absurd (omega (arith, is))
few_values values Unknown e is = absurd (omega (arith, is))

-- what is shown fits its bytes, and the query a frame
pub record Fits (asked : Asked) (wanted : Wanted) : Type 0 where
  pub station : asked.station ≤ most_station
  pub address : wanted.address ≤ highest_word
  pub second : wanted.second ≤ highest_word
  pub words : wanted.words ≤ most_read
  pub values : wanted.function ≡ writes_many → length asked.values ≤ 2 * most_written

module _ (asked : Asked) (has : no_frame asked ≡ false) where
  fits_it : Fits asked (wanted_of asked.order asked.values)
  fits_it =
      let number = (framed asked has).number in
      record {
        station = (framed asked has).most;
        address = address_fits_lem asked has;
        second = second_fits_lem asked.values asked.order number;
        words = words_fit asked.values asked.order number;
        values = few_values asked.values asked.order number;
      }

  pub fits : {wanted : Wanted} → wanted ≡ wanted_of asked.order asked.values → Fits asked wanted
  fits shows = subst (Fits asked) (sym shows) fits_it

-- what is refused is not built
pub refused_built : (asked : Asked) (buffer : List ℕ) {refusal : Refusal} → refused asked (length buffer) ≡ Some refusal
    → query_outcome (Err refusal) buffer ≡ build_outcome asked buffer
unfolding build_outcome built_query first_case
refused_built asked buffer {refusal} = go (no_frame asked) (small_buffer buffer)
  where
    go : (no small : Bool) → cond no (Some NoFrame) (cond small (Some SmallBuffer) None) ≡ Some refusal
        → query_outcome (Err refusal) buffer
        ≡ built_with (cond no (Err NoFrame) (cond small (Err SmallBuffer) (Ok (length (query asked))))) asked buffer
    go true small is = cc
    go false true is = cc
    go false false is = cc
