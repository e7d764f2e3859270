-- A reply that fits its order is read as what it says, and one that is taken fits. Assumes nothing.
use mathlib.Core.Path.{◌≡◌, refl, sym, ap, ap₂, ◌∙◌}
use mathlib.Core.Bool.{Bool, true, false, not, cond, ◌&&◌, ◌||◌, or-true, or-false}
use mathlib.Core.List.{List}
use Prim.Native.Nat.{ℕ, ◌+◌, ◌*◌, ◌≤◌, ◌<◌}
use native.Mathlib.Omega.{arith}
use lib.Dec.{eqb, leb}
use lib.ListN.{length, take, drop}
use borrow.Author.Tests.{eq-eqb, ne_eqb, eqb-true, le-leb, leb-true, lt-ltb, not-false}
use Rattle.std.specs.Prelude.{Ok}
use Rattle.lists.specs.Lists.{between}
use Rattle.lists.proofs.Tests.{first_of, second_of_lem}
use Rattle.words.specs.Words.{byte_at}
use Rattle.check_value.specs.Frame.{passes}
use Rattle.frame.specs.Frame.{station, function, start, second}
use Rattle.frame.specs.Reply.{top_bit, top_bit_set, error_length, laid, small_buffer}
use Rattle.controller_rules.specs.declared.Order.{Order}
use Rattle.controller_rules.specs.declared.Order.TheVariants.{Read, Record, Write, Writes, Clear, Unknown}
use Rattle.controller_rules.specs.Order.{Asked, function_of, address_of, second_of, word_count, no_frame}
use Rattle.controller_rules.specs.Reading.{reply_outcome, is_error, code_in, most_code, error_fits, values_fit, done_length, done_fits, brings_values, body_fits, taken, read_with, reading_outcome}
use Rattle.controller_rules.proofs.Outcomes.{Taken, taken_is}
use Rattle.controller_rules.specs.declared.Reading.TheVariants.{Values, Done, Error}

-- ---- a function, and the same with its top bit set

pub function_plain : (order : Order) → function_of order < top_bit
function_plain (Read start count) = omega arith
function_plain (Record address words) = omega arith
function_plain (Write address value) = omega arith
function_plain (Writes start) = omega arith
function_plain (Clear address) = omega arith
function_plain Unknown = omega arith

pub marked_is : (order : Order) → top_bit_set (function_of order) ≡ function_of order + top_bit
marked_is order =
    ap (λ (under : Bool). cond under (function_of order + top_bit) (function_of order)) (lt-ltb (function_of order) top_bit (function_plain order))

-- ---- what fits is read

module _ (asked : Asked) (reply buffer : List ℕ) (has : no_frame asked ≡ false) (large : small_buffer buffer ≡ false) (whole : passes reply ≡ true)
    (ours : station reply ≡ asked.station) where
  abbrev order : Order
  order = asked.order

  from_ours : not (eqb (station reply) asked.station) ≡ false
  from_ours = ap not (eq-eqb (station reply) asked.station ours)

  reads_as : (otherwise : not (eqb (function reply) (function_of order) || is_error order reply) ≡ false) → body_fits asked reply ≡ true
      → reading_outcome asked reply buffer ≡ read_with (Ok (taken order reply)) reply buffer
  reads_as known fits =
      taken_is asked reply buffer
      record { has = has; large = large; whole = ap not whole; ours = from_ours; known = known; fits = ap not fits }

  pub reads_error : function reply ≡ top_bit_set (function_of order) → length reply ≡ error_length → 1 ≤ code_in reply → code_in reply ≤ most_code
      → reading_outcome asked reply buffer ≡ reply_outcome (Ok (Error (code_in reply))) buffer
  reads_error is long least most =
      let error : is_error order reply ≡ true = eq-eqb (function reply) (top_bit_set (function_of order)) is in
      let same : Bool = eqb (function reply) (function_of order) in
      let code = ap₂ ◌&&◌ (eq-eqb (length reply) error_length long) (ap₂ ◌&&◌ (le-leb 1 (code_in reply) least) (le-leb (code_in reply) most_code most)) in
      reads_as (ap (λ (e : Bool). not (same || e)) error ∙ ap not (or-true same))
      (ap (λ (e : Bool). cond e (error_fits reply) (cond (brings_values order) (values_fit order reply) (done_fits asked reply))) error ∙ code)
      ∙ ap (λ (e : Bool). read_with (Ok (cond e (Error (code_in reply)) (cond (brings_values order) (Values (2 * word_count order)) Done))) reply buffer) error

  module _ (is : function reply ≡ function_of order) where
    no_error_lem : is_error order reply ≡ false
    no_error_lem =
        ne_eqb (function reply) (top_bit_set (function_of order)) (λ e. omega (arith, is, e, marked_is order))

    same : not (eqb (function reply) (function_of order) || is_error order reply) ≡ false
    same = ap (λ (e : Bool). not (e || is_error order reply)) (eq-eqb (function reply) (function_of order) is)

    pub reads_values : brings_values order ≡ true → length reply ≡ 5 + 2 * word_count order → byte_at reply 2 ≡ 2 * word_count order
        → reading_outcome asked reply buffer ≡ reply_outcome (Ok (Values (2 * word_count order))) (laid (take (2 * word_count order) (drop 3 reply)) buffer)
    reads_values brings long counted =
        let fits = ap₂ ◌&&◌ (eq-eqb (length reply) (5 + 2 * word_count order) long) (eq-eqb (byte_at reply 2) (2 * word_count order) counted) in
        reads_as same
        (ap₂ (λ (e b : Bool). cond e (error_fits reply) (cond b (values_fit order reply) (done_fits asked reply))) no_error_lem brings ∙ fits)
        ∙ ap₂ (λ (e b : Bool). read_with (Ok (cond e (Error (code_in reply)) (cond b (Values (2 * word_count order)) Done))) reply buffer) no_error_lem brings

    pub reads_done : brings_values order ≡ false → length reply ≡ done_length → start reply ≡ address_of order → second reply ≡ second_of order asked.values
        → reading_outcome asked reply buffer ≡ reply_outcome (Ok Done) buffer
    reads_done brings long at second_is =
        let fits = ap₂ ◌&&◌ (ap₂ ◌&&◌ (eq-eqb (length reply) done_length long) (eq-eqb (start reply) (address_of order) at))
        (eq-eqb (second reply) (second_of order asked.values) second_is) in
        reads_as same
        (ap₂ (λ (e b : Bool). cond e (error_fits reply) (cond b (values_fit order reply) (done_fits asked reply))) no_error_lem brings ∙ fits)
        ∙ ap₂ (λ (e b : Bool). read_with (Ok (cond e (Error (code_in reply)) (cond b (Values (2 * word_count order)) Done))) reply buffer) no_error_lem brings

-- ---- what is taken fits

-- a reply as its order wants it: an error, values, or done
pub data Fits (asked : Asked) (reply : List ℕ) : Type 0 where
  an_error : function reply ≡ top_bit_set (function_of asked.order) → length reply ≡ error_length → 1 ≤ code_in reply → code_in reply ≤ most_code
      → Fits asked reply
  its_values : function reply ≡ function_of asked.order → brings_values asked.order ≡ true → length reply ≡ 5 + 2 * word_count asked.order
      → byte_at reply 2 ≡ 2 * word_count asked.order → Fits asked reply
  its_done : function reply ≡ function_of asked.order → brings_values asked.order ≡ false → length reply ≡ done_length
      → start reply ≡ address_of asked.order → second reply ≡ second_of asked.order asked.values → Fits asked reply

module _ (asked : Asked) (reply buffer : List ℕ) (is : Taken asked reply buffer) where
  pub taken_ours : station reply ≡ asked.station
  taken_ours = eqb-true (station reply) asked.station (not-false (eqb (station reply) asked.station) is.ours)

  pub taken_whole : passes reply ≡ true
  taken_whole = not-false (passes reply) is.whole

  pub taken_fits : Fits asked reply
  taken_fits =
      go (is_error asked.order reply) refl (brings_values asked.order) refl (not-false (body_fits asked reply) is.fits)
      (not-false (eqb (function reply) (function_of asked.order) || is_error asked.order reply) is.known)
    where
      go : (error : Bool) → is_error asked.order reply ≡ error → (brings : Bool) → brings_values asked.order ≡ brings
          → cond error (error_fits reply) (cond brings (values_fit asked.order reply) (done_fits asked reply)) ≡ true
          → (eqb (function reply) (function_of asked.order) || error) ≡ true → Fits asked reply
      go true e brings f fits known =
          let long = first_of (eqb (length reply) error_length) (between 1 most_code (code_in reply)) fits in
          let inside = second_of_lem (eqb (length reply) error_length) (between 1 most_code (code_in reply)) fits in
          an_error (eqb-true (function reply) (top_bit_set (function_of asked.order)) e) (eqb-true (length reply) error_length long)
          (leb-true 1 (code_in reply) (first_of (leb 1 (code_in reply)) (leb (code_in reply) most_code) inside))
          (leb-true (code_in reply) most_code (second_of_lem (leb 1 (code_in reply)) (leb (code_in reply) most_code) inside))
      go false e true f fits known =
          let n : ℕ = word_count asked.order in
          its_values (eqb-true (function reply) (function_of asked.order) (sym (or-false (eqb (function reply) (function_of asked.order))) ∙ known)) f
          (eqb-true (length reply) (5 + 2 * n) (first_of (eqb (length reply) (5 + 2 * n)) (eqb (byte_at reply 2) (2 * n)) fits))
          (eqb-true (byte_at reply 2) (2 * n) (second_of_lem (eqb (length reply) (5 + 2 * n)) (eqb (byte_at reply 2) (2 * n)) fits))
      go false e false f fits known =
          let long : Bool = eqb (length reply) done_length in
          let at : Bool = eqb (start reply) (address_of asked.order) in
          let word : Bool = eqb (second reply) (second_of asked.order asked.values) in
          its_done (eqb-true (function reply) (function_of asked.order) (sym (or-false (eqb (function reply) (function_of asked.order))) ∙ known)) f
          (eqb-true (length reply) done_length (first_of long at (first_of (long && at) word fits)))
          (eqb-true (start reply) (address_of asked.order) (second_of_lem long at (first_of (long && at) word fits)))
          (eqb-true (second reply) (second_of asked.order asked.values) (second_of_lem (long && at) word fits))
