-- What the parts of building a query and of reading a reply answer. Only private promises cite this file. Assumes nothing.
use Rattle.std.specs.Prelude.{ℕ, ◌+◌, ◌*◌, not, cond, ◌&&◌, List, ◌∷◌, ◌++◌, eqb, ltb, length, Option, Some, None, Result, Err, Ok}
use Rattle.words.specs.Words.{byte_at, word_bytes}
use Rattle.refusals.specs.declared.Refusal.TheVariants.{NoFrame, SmallBuffer, ReplyDamaged, ReplyStation, ReplyFunction, ReplyBody}
use Rattle.refusals.specs.declared.Refusal.{Refusal}
use Rattle.frame.specs.declared.Parts.{Parts}
use Rattle.frame.specs.Frame.{reads, parts_of}
use Rattle.frame.specs.Reply.{top_bit_set, least_buffer}
use Rattle.controller_rules.specs.declared.Order.{Order}
use Rattle.controller_rules.specs.Order.{Asked, ask, function_of, address_of, second_of, address_count, word_count, no_frame}
use Rattle.controller_rules.specs.Reading.{damaged_reply, from_other, code_in, error_fits, done_length}
use Rattle.controller_rules.specs.declared.Reading.{Reading}
use Rattle.controller_rules.specs.declared.Reading.TheVariants.{Values, Done, Error}
use Rattle.controller.specs.declared.asked.Wanted.{Wanted}

-- what is asked, as the rules have it
abbrev pub asked_of : Rattle.controller.specs.declared.asked.Asked.Asked → Asked
asked_of asked = ask asked.order asked.station asked.values.now

-- what refuses a query and a reply alike, before either is looked at: an order with no frame, and a buffer of too few bytes
abbrev pub refused : Asked → ℕ → Option Refusal
refused asked room = cond (no_frame asked) (Some NoFrame) (cond (ltb room least_buffer) (Some SmallBuffer) None)

-- what an order with values shows
abbrev pub wanted_by : ℕ → ℕ → ℕ → ℕ → ℕ → Wanted
wanted_by function address second addresses words =
    record { function = function; address = address; second = second; addresses = addresses; words = words }

abbrev pub wanted_of : Order → List ℕ → Wanted
wanted_of order values = wanted_by (function_of order) (address_of order) (second_of order values) (address_count order values) (word_count order)

-- the first six bytes of a query
abbrev pub head : ℕ → Wanted → List ℕ
head station wanted = station ∷ wanted.function ∷ word_bytes wanted.address ++ word_bytes wanted.second

-- what is read of a reply, by what of it fits
abbrev pub error_read : List ℕ → Result Reading Refusal
error_read reply = cond (error_fits reply) (Ok (Error (code_in reply))) (Err ReplyBody)

abbrev pub values_read : ℕ → List ℕ → Result Reading Refusal
values_read words reply =
    cond (eqb (length reply) (5 + 2 * words) && eqb (byte_at reply 2) (2 * words)) (Ok (Values (2 * words))) (Err ReplyBody)

abbrev pub done_read : Wanted → Parts → Result Reading Refusal
done_read wanted parts =
    cond (eqb parts.length done_length && eqb parts.start wanted.address && eqb parts.second wanted.second) (Ok Done) (Err ReplyBody)

abbrev pub body_read : Wanted → Parts → List ℕ → Result Reading Refusal
body_read wanted parts reply =
    cond (eqb parts.function (top_bit_set wanted.function)) (error_read reply)
    (cond (not (eqb parts.function wanted.function)) (Err ReplyFunction)
    (cond (eqb wanted.function reads) (values_read wanted.words reply) (done_read wanted parts)))

-- what a reply says of what is asked, where that has a frame and the buffer room for one
abbrev pub reply_read : Asked → List ℕ → Result Reading Refusal
reply_read asked reply =
    cond (damaged_reply reply) (Err ReplyDamaged)
    (cond (from_other asked reply) (Err ReplyStation) (body_read (wanted_of asked.order asked.values) (parts_of reply) reply))
