-- What a box asks: an order, in the numbers of its query, and whether it has a frame at all (rules Q1 to Q16). Assumes nothing.
use Rattle.std.specs.Prelude.{ℕ, ◌+◌, ◌/◌, ◌%◌, Bool, true, false, not, cond, ◌||◌, List, ltb, eqb, length}
use Rattle.lists.specs.Lists.{between}
use Rattle.frame.specs.Frame.{reads, clears, writes_one, writes_many, most_read}
use Rattle.controller_rules.specs.declared.Order.{Order}
use Rattle.controller_rules.specs.declared.Order.TheVariants.{Read, Record, Write, Writes, Clear, Unknown}

-- rule Q1, what is asked of which station: an order, and the values of several writes as bytes, upper byte first
pub record Asked : Type 0 where
  pub order : Order
  pub station : ℕ
  pub values : List ℕ

abbrev pub ask : Order → ℕ → List ℕ → Asked
ask order station values = record { order = order; station = station; values = values }

-- rule Q2, an order by its number, with the address and the number that are handed over: 0 a read, 1 a record, 2 a write, 3 several writes, 4 a clear.
-- Any other number is of no known kind
abbrev pub order_by : ℕ → ℕ → ℕ → Order
order_by kind address number =
    cond (eqb kind 0) (Read address number)
    (cond (eqb kind 1) (Record address number)
    (cond (eqb kind 2) (Write address number)
    (cond (eqb kind 3) (Writes address)
    (cond (eqb kind 4) (Clear address) Unknown))))

-- what is asked, by the numbers that are handed over
abbrev pub asked_by : ℕ → ℕ → ℕ → ℕ → List ℕ → Asked
asked_by kind station address number values = ask (order_by kind address number) station values

-- rule Q3: its function. (An order of no known kind has no frame, rule Q10, so nothing that is answered depends on what is said of one, here and below.)
abbrev pub function_of : Order → ℕ
function_of (Read start count) = reads
function_of (Record address words) = reads
function_of (Write address value) = writes_one
function_of (Writes start) = writes_many
function_of (Clear address) = clears
function_of Unknown = 0

-- rule Q4: the address that its query names, which is its first one
abbrev pub address_of : Order → ℕ
address_of (Read start count) = start
address_of (Record address words) = address
address_of (Write address value) = address
address_of (Writes start) = start
address_of (Clear address) = address
address_of Unknown = 0

-- rule Q5: how many values several writes have
abbrev pub value_count : List ℕ → ℕ
value_count values = length values / 2

-- rule Q6, the second word of its query: the count of a read and of several writes, 1 for a record, the value of a write, 0 for a clear
abbrev pub second_of : Order → List ℕ → ℕ
second_of (Read start count) values = count
second_of (Record address words) values = 1
second_of (Write address value) values = value
second_of (Writes start) values = value_count values
second_of (Clear address) values = 0
second_of Unknown values = 0

-- rule Q7, how many addresses it is for, one after the other: as many as a read counts or several writes have values, else one
abbrev pub address_count : Order → List ℕ → ℕ
address_count (Read start count) values = count
address_count (Record address words) values = 1
address_count (Write address value) values = 1
address_count (Writes start) values = value_count values
address_count (Clear address) values = 1
address_count Unknown values = 1

-- rule Q8, how many words a good reply brings: those of a read and of a record, else none
abbrev pub word_count : Order → ℕ
word_count (Read start count) = count
word_count (Record address words) = words
word_count (Write address value) = 0
word_count (Writes start) = 0
word_count (Clear address) = 0
word_count Unknown = 0

-- ---- an order with no frame in 100 bytes

-- rule Q11: the stations that a meter can have
abbrev pub least_station : ℕ
least_station = 1

abbrev pub most_station : ℕ
most_station = 247

abbrev pub no_station : ℕ → Bool
no_station station = not (between least_station most_station station)

-- rule Q13: the longest frame has room for no more values beside station, function, address, count, byte count and check
abbrev pub most_written : ℕ
most_written = 45

-- rule Q13: the bytes of several writes are odd in number, or too few or too many
abbrev pub wrong_values : List ℕ → Bool
wrong_values values = not (eqb (length values % 2) 0) || not (between 1 most_written (value_count values))

-- rules Q14 and Q15: a word has sixteen bits, and so has an address
abbrev pub highest_word : ℕ
highest_word = 0xFFFF

-- rules Q10 and Q12 to Q14, of each order: its count, its words, its value or its values; one of no known kind is wrong in any case
abbrev pub wrong_number : Order → List ℕ → Bool
wrong_number (Read start count) values = not (between 1 most_read count)
wrong_number (Record address words) values = not (between 1 most_read words)
wrong_number (Write address value) values = ltb highest_word value
wrong_number (Writes start) values = wrong_values values
wrong_number (Clear address) values = false
wrong_number Unknown values = true

-- rule Q15: its run of addresses goes past FFFF, the first of them or a later one
abbrev pub past_last : Order → List ℕ → Bool
past_last order values = ltb (highest_word + 1) (address_of order + address_count order values)

-- rules N9 and Q10 to Q15
unfoldable pub no_frame : Asked → Bool
no_frame asked =
    no_station asked.station || wrong_number asked.order asked.values || past_last asked.order asked.values
