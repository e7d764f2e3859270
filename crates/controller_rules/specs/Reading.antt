-- The reading of a reply against an order, and the whole outcome: what is answered, and the buffer afterwards (rules Q30 to Q42). Assumes nothing.
use Rattle.std.specs.Prelude.{ℕ, ◌+◌, ◌*◌, Bool, not, cond, ◌&&◌, ◌||◌, List, [], ◌∷◌, eqb, length, take, drop, Result, Err, Ok}
use Rattle.lists.specs.Cases.{Case, when, first_case, mapped}
use Rattle.lists.specs.Lists.{between}
use Rattle.words.specs.Words.{byte_at}
use Rattle.check_value.specs.Frame.{passes}
use Rattle.refusals.specs.declared.Refusal.{Refusal}
use Rattle.refusals.specs.declared.Refusal.TheVariants.{SmallBuffer, NoFrame, ReplyDamaged, ReplyStation, ReplyFunction, ReplyBody}
use Rattle.refusals.specs.Answers.{refusal_number}
use Rattle.frame.specs.Frame.{reads, station, function, start, second}
use Rattle.frame.specs.Reply.{top_bit_set, error_length, laid, small_buffer}
use Rattle.controller_rules.specs.declared.Order.{Order}
use Rattle.controller_rules.specs.Order.{Asked, function_of, address_of, second_of, word_count, no_frame}
use Rattle.controller_rules.specs.declared.Reading.{Reading}
use Rattle.controller_rules.specs.declared.Reading.TheVariants.{Values, Done, Error}

-- rule Q30: a reply whose length or check step 1 does not take
abbrev pub damaged_reply : List ℕ → Bool
damaged_reply reply = not (passes reply)

-- rule Q31
abbrev pub from_other : Asked → List ℕ → Bool
from_other asked reply = not (eqb (station reply) asked.station)

-- rule Q32: an error has the query's function with its top bit set
abbrev pub is_error : Order → List ℕ → Bool
is_error order reply = eqb (function reply) (top_bit_set (function_of order))

abbrev pub other_function : Order → List ℕ → Bool
other_function order reply = not (eqb (function reply) (function_of order) || is_error order reply)

-- ---- the body

-- rule Q33: an error has one code behind its function, 1 to 3
abbrev pub code_in : List ℕ → ℕ
code_in reply = byte_at reply 2

abbrev pub most_code : ℕ
most_code = 3

abbrev pub error_fits : List ℕ → Bool
error_fits reply = eqb (length reply) error_length && between 1 most_code (code_in reply)

-- rule Q34: values, as many as the order wants, with their byte count in front; station, function, byte count and check are five bytes
abbrev pub values_fit : Order → List ℕ → Bool
values_fit order reply = eqb (length reply) (5 + 2 * word_count order) && eqb (byte_at reply 2) (2 * word_count order)

-- rule Q35: done, with the query's address and second word
abbrev pub done_length : ℕ
done_length = 8

abbrev pub done_fits : Asked → List ℕ → Bool
done_fits asked reply =
    eqb (length reply) done_length && eqb (start reply) (address_of asked.order) && eqb (second reply) (second_of asked.order asked.values)

-- rule Q36: a read and a record bring values
abbrev pub brings_values : Order → Bool
brings_values order = eqb (function_of order) reads

abbrev pub body_fits : Asked → List ℕ → Bool
body_fits asked reply =
    cond (is_error asked.order reply) (error_fits reply)
    (cond (brings_values asked.order) (values_fit asked.order reply) (done_fits asked reply))

-- rule Q40: whether reading is refused, in this order
abbrev pub reply_refusals : Asked → List ℕ → List ℕ → List (Case Refusal)
reply_refusals asked reply buffer =
    when (no_frame asked) NoFrame
    ∷ when (small_buffer buffer) SmallBuffer
    ∷ when (damaged_reply reply) ReplyDamaged
    ∷ when (from_other asked reply) ReplyStation
    ∷ when (other_function asked.order reply) ReplyFunction
    ∷ when (not (body_fits asked reply)) ReplyBody
    ∷ []

-- rule Q41, what a reply that is taken says: an error by its code, values, or done
abbrev pub taken : Order → List ℕ → Reading
taken order reply =
    cond (is_error order reply) (Error (code_in reply)) (cond (brings_values order) (Values (2 * word_count order)) Done)

unfoldable pub reading_of : Asked → List ℕ → List ℕ → Result Reading Refusal
reading_of asked reply buffer = first_case (mapped Err (reply_refusals asked reply buffer)) (Ok (taken asked.order reply))

-- what is answered, and the buffer afterwards
pub record ReplyOutcome : Type 0 where
  pub reading : Result Reading Refusal
  pub buffer : List ℕ

abbrev pub reply_outcome : Result Reading Refusal → List ℕ → ReplyOutcome
reply_outcome reading buffer = record { reading = reading; buffer = buffer }

-- rule Q42: values stand behind station, function and byte count, and are laid in the buffer; all else leaves it as it was
abbrev pub read_with : Result Reading Refusal → List ℕ → List ℕ → ReplyOutcome
read_with (Ok (Values length)) reply buffer = reply_outcome (Ok (Values length)) (laid (take length (drop 3 reply)) buffer)
read_with (Ok Done) reply buffer = reply_outcome (Ok Done) buffer
read_with (Ok (Error code)) reply buffer = reply_outcome (Ok (Error code)) buffer
read_with (Err refusal) reply buffer = reply_outcome (Err refusal) buffer

unfoldable pub reading_outcome : Asked → List ℕ → List ℕ → ReplyOutcome
reading_outcome asked reply buffer = read_with (reading_of asked reply buffer) reply buffer

-- ---- the numbers

-- rules N0, N5 and N9 to N13
abbrev pub reading_number : Result Reading Refusal → ℕ
reading_number (Ok (Values length)) = 0
reading_number (Ok Done) = 0
reading_number (Ok (Error code)) = 0
reading_number (Err refusal) = refusal_number refusal

-- rule Q41: how many bytes the values have, and the code of the error; 0 where there is none
abbrev pub reading_length : Result Reading Refusal → ℕ
reading_length (Ok (Values length)) = length
reading_length (Ok Done) = 0
reading_length (Ok (Error code)) = 0
reading_length (Err refusal) = 0

abbrev pub reading_error : Result Reading Refusal → ℕ
reading_error (Ok (Values length)) = 0
reading_error (Ok Done) = 0
reading_error (Ok (Error code)) = code
reading_error (Err refusal) = 0
