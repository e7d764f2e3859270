-- The query of an order, and the whole outcome of building it: what is answered, and the buffer afterwards (rules Q20 to Q23). Assumes nothing.
use Rattle.std.specs.Prelude.{ℕ, List, [], ◌∷◌, ◌++◌, length, Ok, Err, Result}
use Rattle.lists.specs.Cases.{Case, when, first_case, mapped}
use Rattle.words.specs.Words.{word_bytes}
use Rattle.refusals.specs.declared.Refusal.{Refusal}
use Rattle.refusals.specs.declared.Refusal.TheVariants.{SmallBuffer, NoFrame}
use Rattle.refusals.specs.Answers.{refusal_number}
use Rattle.frame.specs.Reply.{with_check, laid, small_buffer}
use Rattle.controller_rules.specs.declared.Order.{Order}
use Rattle.controller_rules.specs.declared.Order.TheVariants.{Read, Record, Write, Writes, Clear, Unknown}
use Rattle.controller_rules.specs.Order.{Asked, function_of, address_of, second_of, no_frame}

-- rule Q21, what stands behind the second word: of several writes their byte count and the values, else nothing
abbrev pub sent_values : Order → List ℕ → List ℕ
sent_values (Read start count) values = []
sent_values (Record address words) values = []
sent_values (Write address value) values = []
sent_values (Writes start) values = length values ∷ values
sent_values (Clear address) values = []
sent_values Unknown values = []

-- rule Q20: station, function, address, second word, what stands behind it, and the check
unfoldable pub query : Asked → List ℕ
query asked =
    with_check
    (asked.station
    ∷ function_of asked.order
    ∷ word_bytes (address_of asked.order) ++ word_bytes (second_of asked.order asked.values) ++ sent_values asked.order asked.values)

-- rule Q22: whether building is refused, in this order
abbrev pub query_refusals : Asked → List ℕ → List (Case Refusal)
query_refusals asked buffer = when (no_frame asked) NoFrame ∷ when (small_buffer buffer) SmallBuffer ∷ []

-- refused, or how many bytes the query has
abbrev pub Built : Type 0
Built = Result ℕ Refusal

unfoldable pub built_query : Asked → List ℕ → Built
built_query asked buffer = first_case (mapped Err (query_refusals asked buffer)) (Ok (length (query asked)))

-- what is answered, and the buffer afterwards
pub record QueryOutcome : Type 0 where
  pub built : Built
  pub buffer : List ℕ

abbrev pub query_outcome : Built → List ℕ → QueryOutcome
query_outcome built buffer = record { built = built; buffer = buffer }

-- rules Q22 and Q23: the query is laid in the buffer; a refusal leaves it as it was
abbrev pub built_with : Built → Asked → List ℕ → QueryOutcome
built_with (Ok length) asked buffer = query_outcome (Ok length) (laid (query asked) buffer)
built_with (Err refusal) asked buffer = query_outcome (Err refusal) buffer

unfoldable pub build_outcome : Asked → List ℕ → QueryOutcome
build_outcome asked buffer = built_with (built_query asked buffer) asked buffer

-- ---- the numbers

-- rules N0, N5 and N9
abbrev pub built_number : Built → ℕ
built_number (Ok length) = 0
built_number (Err refusal) = refusal_number refusal

-- rule Q23: how many bytes the query has, 0 with a refusal
abbrev pub built_length : Built → ℕ
built_length (Ok length) = length
built_length (Err refusal) = 0
