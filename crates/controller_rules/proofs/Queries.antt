-- A built query passes step 1, has at most 100 bytes, and is taken apart as its order. Assumes nothing.
use mathlib.Core.Path.{◌≡◌, refl, ap, ap₂, ◌∙◌}
use mathlib.Core.Bool.{true, false}
use mathlib.Core.List.{List, [], ◌∷◌, ◌++◌}
use Prim.Native.Nat.{ℕ, ◌+◌, ◌*◌, ◌/◌, ◌%◌, ◌≤◌, ◌<◌}
use native.Mathlib.Omega.{arith}
use lib.ListN.{length, get_or-append}
use lib.Seq.{get_or-append-add}
use Rattle.std.specs.Prelude.{Some}
use Rattle.words.specs.Words.{Bytes, byte_at, word_at, word_bytes}
use Rattle.words.proofs.Small.{bytes_none, bytes_one, bytes_both, bytes_word}
use Rattle.check_value.specs.Check.{value_of}
use Rattle.check_value.specs.Frame.{passes}
use Rattle.frame.specs.Frame.{station, function, start, second, byte_count, sent, passed_frame}
use Rattle.frame.specs.Reply.{with_check}
use Rattle.frame.proofs.Closing.{Closed, closing, closed_length, closed_checked, closed_bytes}
use Rattle.frame.proofs.Reading.{check_length}
use Rattle.controller_rules.specs.declared.Order.{Order}
use Rattle.controller_rules.specs.declared.Order.TheVariants.{Read, Record, Write, Writes, Clear, Unknown}
use Rattle.controller_rules.specs.Order.{Asked, ask, function_of, address_of, value_count, second_of, wrong_number, no_frame}
use Rattle.controller_rules.specs.Query.{sent_values, query}
use Rattle.controller_rules.proofs.Framed.{framed, address_fits_lem, second_fits_lem, values_fit_lem}

-- a query without its check
abbrev body : Asked → List ℕ
body asked =
    asked.station
    ∷ function_of asked.order
    ∷ word_bytes (address_of asked.order) ++ word_bytes (second_of asked.order asked.values) ++ sent_values asked.order asked.values

-- what stands behind the second word: nothing, or the byte count of several writes and their values
sent_length : (values : List ℕ) (order : Order) → wrong_number order values ≡ false → length (sent_values order values) ≤ 91
sent_length values (Read start count) e = omega arith
sent_length values (Record address words) e = omega arith
sent_length values (Write address value) e = omega arith
sent_length values (Writes start) e = let fits = values_fit_lem values e in omega (arith, fits.0, fits.2)
sent_length values (Clear address) e = omega arith
sent_length values Unknown e = omega arith

sent_bytes_lem : (values : List ℕ) → Bytes values → (order : Order) → wrong_number order values ≡ false → Bytes (sent_values order values)
sent_bytes_lem values small (Read start count) e = bytes_none
sent_bytes_lem values small (Record address words) e = bytes_none
sent_bytes_lem values small (Write address value) e = bytes_none
sent_bytes_lem values small (Writes start) e =
    let fits = values_fit_lem values e in bytes_one (length values) values (omega (arith, fits.0, fits.2)) small
sent_bytes_lem values small (Clear address) e = bytes_none
sent_bytes_lem values small Unknown e = bytes_none

function_byte : (order : Order) → function_of order < 256
function_byte (Read start count) = omega arith
function_byte (Record address words) = omega arith
function_byte (Write address value) = omega arith
function_byte (Writes start) = omega arith
function_byte (Clear address) = omega arith
function_byte Unknown = omega arith

-- ---- its parts

module _ (asked : Asked) where
  pub query_length : length (query asked) ≡ 8 + length (sent_values asked.order asked.values)
  unfolding query
  query_length = check_length (body asked) ∙ omega arith

  pub query_station : station (query asked) ≡ asked.station
  unfolding query with_check
  query_station = refl

  pub query_function : function (query asked) ≡ function_of asked.order
  unfolding query with_check
  query_function = refl

  pub query_start : start (query asked) ≡ address_of asked.order
  unfolding query with_check word_at
  query_start = omega arith

  pub query_second : second (query asked) ≡ second_of asked.order asked.values
  unfolding query with_check word_at
  query_second = omega arith

  -- ---- it passes, and is of bytes

  module _ (has : no_frame asked ≡ false) where
    closed : Closed (query asked)
    unfolding query
    closed = closing (body asked) (omega arith) (omega (arith, sent_length asked.values asked.order (framed asked has).number))

    pub query_sized : (8 ≤ length (query asked)) × (length (query asked) ≤ 99)
    query_sized = (omega (arith, query_length), (closed_length closed).1)

    pub query_passes : passes (query asked) ≡ true
    query_passes = closed_checked closed

    pub query_bytes : Bytes asked.values → Bytes (query asked)
    unfolding query
    query_bytes small =
        let order : Order = asked.order in
        let right = framed asked has in
        let behind : List ℕ = sent_values order asked.values in
        let words : List ℕ = word_bytes (second_of order asked.values) ++ behind in
        closed_bytes (body asked)
        (bytes_one asked.station (function_of order ∷ word_bytes (address_of order) ++ words) (omega (arith, right.most))
        (bytes_one (function_of order) (word_bytes (address_of order) ++ words) (function_byte order)
        (bytes_both (word_bytes (address_of order)) words (bytes_word (address_of order) (omega (arith, address_fits_lem asked has)))
        (bytes_both (word_bytes (second_of order asked.values)) behind
        (bytes_word (second_of order asked.values) (omega (arith, second_fits_lem asked.values order right.number)))
        (sent_bytes_lem asked.values small order right.number)))))

    -- rule Q24: step 1 takes it apart as what was asked
    pub query_apart : passed_frame (query asked)
        ≡ Some
        record {
          station = asked.station;
          function = function_of asked.order;
          start = address_of asked.order;
          second = second_of asked.order asked.values;
          bytes = byte_count (query asked);
          length = 8 + length (sent_values asked.order asked.values);
        }
    unfolding passed_frame
    query_apart =
        simp query_passes
        (λ i.
        Some
        record {
          station = query_station i;
          function = query_function i;
          start = query_start i;
          second = query_second i;
          bytes = byte_count (query asked);
          length = query_length i;
        })

-- ---- what it sends: the value of a write, the byte count and the values of several

pub query_value : (address value stationed : ℕ) (values : List ℕ) → sent (query (ask (Write address value) stationed values)) 0 ≡ value
unfolding query with_check
query_value address value stationed values = query_second (ask (Write address value) stationed values)

module _ (first stationed : ℕ) (values : List ℕ) where
  abbrev several : Asked
  several = ask (Writes first) stationed values

  pub query_count : byte_count (query several) ≡ length values
  unfolding query with_check
  query_count = refl

  -- the seven bytes in front of the values
  abbrev front : List ℕ
  front = stationed ∷ function_of (Writes first) ∷ word_bytes first ++ word_bytes (value_count values) ++ (length values ∷ [])

  abbrev check : List ℕ
  check = value_of (body several) % 256 ∷ value_of (body several) / 256 ∷ []

  in_query : query several ≡ front ++ (values ++ check)
  unfolding query with_check
  in_query = refl

  byte_sent : (n : ℕ) → n < length values → byte_at (query several) (7 + n) ≡ byte_at values n
  byte_sent n less =
      ap (λ (l : List ℕ). byte_at l (7 + n)) in_query ∙ get_or-append-add front (values ++ check) n 0 ∙ get_or-append values check 0 n less

  pub query_values : (k : ℕ) → 2 * k + 1 < length values → sent (query several) k ≡ word_at values (2 * k)
  unfolding word_at query with_check
  query_values k less =
      ap₂ (λ (upper lower : ℕ). upper * 256 + lower) (byte_sent (2 * k) (omega (arith, less)))
      (ap (byte_at (query several)) (let same : 7 + 2 * k + 1 ≡ 7 + (2 * k + 1) = omega arith in same) ∙ byte_sent (2 * k + 1) less)
