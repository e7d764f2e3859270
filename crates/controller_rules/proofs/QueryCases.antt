-- The query of each of many orders, as one table under one statement: both sides of each limit, what is not looked at, and the order of the two
-- refusals. What is expected is typed from W6 and 01. Assumes nothing.
use mathlib.Core.Path.{◌≡◌, refl}
use mathlib.Core.Bool.{Bool, true, ◌&&◌}
use mathlib.Core.List.{List, [], ◌∷◌, ◌++◌}
use Prim.Native.Nat.{ℕ}
use lib.Dec.{eqb}
use lib.ListN.{length, drop, replicate}
use Rattle.lists.specs.Lists.{each, same_places}
use Rattle.lists.specs.Cases.{first_case}
use Rattle.check_value.specs.Check.{value_of}
use Rattle.frame.specs.Reply.{with_check}
use Rattle.controller_rules.specs.Order.{asked_by, no_frame}
use Rattle.controller_rules.specs.Query.{QueryOutcome, query, built_query, build_outcome, built_number, built_length}

-- what is handed over: the order by its number, the station, the address, the number, the values, and a buffer of so many bytes; and what is handed
-- back: the number, and the query
pub record Row : Type 0 where
  pub order : ℕ
  pub station : ℕ
  pub address : ℕ
  pub number : ℕ
  pub values : List ℕ
  pub room : ℕ
  pub answer : ℕ
  pub query : List ℕ

-- number 0, with a buffer of 100 bytes: the query that is built
abbrev builds : ℕ → ℕ → ℕ → ℕ → List ℕ → List ℕ → Row
builds order station address number values query =
    record { order = order; station = station; address = address; number = number; values = values; room = 100; answer = 0; query = query }

-- a refusal by its number, with a buffer of so many bytes
abbrev refuses : ℕ → ℕ → ℕ → ℕ → List ℕ → ℕ → ℕ → Row
refuses order station address number values room answer =
    record { order = order; station = station; address = address; number = number; values = values; room = room; answer = answer; query = [] }

-- the number, the length, and the whole buffer afterwards, which held A5 in each byte
abbrev built_so : QueryOutcome → Row → Bool
built_so outcome this =
    eqb (built_number outcome.built) this.answer && eqb (built_length outcome.built) (length this.query)
    && same_places outcome.buffer (this.query ++ drop (length this.query) (replicate this.room 0xA5))

unfoldable pub right : Row → Bool
unfolding build_outcome
right this =
    built_so (build_outcome (asked_by this.order this.station this.address this.number this.values) (replicate this.room 0xA5)) this

unfoldable pub table : List Row
table =
    -- each order: the bytes of its query
    builds 0 1 0x0103 2 [] (0x01 ∷ 0x03 ∷ 0x01 ∷ 0x03 ∷ 0x00 ∷ 0x02 ∷ 0x35 ∷ 0xF7 ∷ [])
    ∷ builds 1 1 0x0400 0x0016 [] (0x01 ∷ 0x03 ∷ 0x04 ∷ 0x00 ∷ 0x00 ∷ 0x01 ∷ 0x85 ∷ 0x3A ∷ [])
    ∷ builds 2 1 0x0104 0xABCD [] (0x01 ∷ 0x06 ∷ 0x01 ∷ 0x04 ∷ 0xAB ∷ 0xCD ∷ 0x77 ∷ 0x52 ∷ [])
    ∷ builds 3 1 0x0103 0 (0x00 ∷ 0x01 ∷ 0x86 ∷ 0xA0 ∷ []) (0x01 ∷ 0x10 ∷ 0x01 ∷ 0x03 ∷ 0x00 ∷ 0x02 ∷ 0x04 ∷ 0x00 ∷ 0x01 ∷ 0x86 ∷ 0xA0 ∷ 0x8D ∷ 0xF2 ∷ [])
    ∷ builds 4 1 0x0300 0 [] (0x01 ∷ 0x05 ∷ 0x03 ∷ 0x00 ∷ 0x00 ∷ 0x00 ∷ 0xCD ∷ 0x8E ∷ [])
    -- several writes of one value are a 10 too
    ∷ builds 3 17 0x010E 0 (0x00 ∷ 0x05 ∷ []) (0x11 ∷ 0x10 ∷ 0x01 ∷ 0x0E ∷ 0x00 ∷ 0x01 ∷ 0x02 ∷ 0x00 ∷ 0x05 ∷ 0xBA ∷ 0x7D ∷ [])
    -- what an order has no use for is not looked at: values, and the number of several writes and of a clear
    ∷ builds 0 1 0x0103 2 (0x01 ∷ 0x02 ∷ 0x03 ∷ []) (0x01 ∷ 0x03 ∷ 0x01 ∷ 0x03 ∷ 0x00 ∷ 0x02 ∷ 0x35 ∷ 0xF7 ∷ [])
    ∷ builds 1 1 0x0400 0x0016 (0x01 ∷ 0x02 ∷ 0x03 ∷ []) (0x01 ∷ 0x03 ∷ 0x04 ∷ 0x00 ∷ 0x00 ∷ 0x01 ∷ 0x85 ∷ 0x3A ∷ [])
    ∷ builds 2 1 0x0104 0xABCD (0x01 ∷ 0x02 ∷ 0x03 ∷ []) (0x01 ∷ 0x06 ∷ 0x01 ∷ 0x04 ∷ 0xAB ∷ 0xCD ∷ 0x77 ∷ 0x52 ∷ [])
    ∷ builds 3 1 0x0103 0xFFFFFFFF (0x00 ∷ 0x01 ∷ 0x86 ∷ 0xA0 ∷ []) (0x01 ∷ 0x10 ∷ 0x01 ∷ 0x03 ∷ 0x00 ∷ 0x02 ∷ 0x04 ∷ 0x00 ∷ 0x01 ∷ 0x86 ∷ 0xA0 ∷ 0x8D ∷ 0xF2 ∷ [])
    ∷ builds 4 1 0x0300 0xFFFFFFFF (0x01 ∷ 0x02 ∷ 0x03 ∷ []) (0x01 ∷ 0x05 ∷ 0x03 ∷ 0x00 ∷ 0x00 ∷ 0x00 ∷ 0xCD ∷ 0x8E ∷ [])
    -- an order above 4
    ∷ refuses 5 1 0x0103 1 (replicate 2 0x00) 100 9
    ∷ refuses 0xFFFFFFFF 1 0x0103 1 (replicate 2 0x00) 100 9
    -- the station: 1 and 247, and one to either side
    ∷ refuses 0 0 0x0000 1 [] 100 9
    ∷ builds 0 1 0x0000 1 [] (0x01 ∷ 0x03 ∷ 0x00 ∷ 0x00 ∷ 0x00 ∷ 0x01 ∷ 0x84 ∷ 0x0A ∷ [])
    ∷ builds 0 247 0x0000 1 [] (0xF7 ∷ 0x03 ∷ 0x00 ∷ 0x00 ∷ 0x00 ∷ 0x01 ∷ 0x90 ∷ 0x9C ∷ [])
    ∷ refuses 0 248 0x0000 1 [] 100 9
    ∷ refuses 0 257 0x0000 1 [] 100 9
    ∷ refuses 1 0 0x0000 1 [] 100 9
    ∷ refuses 1 248 0x0000 1 [] 100 9
    ∷ refuses 2 0 0x0000 1 [] 100 9
    ∷ refuses 2 248 0x0000 1 [] 100 9
    ∷ refuses 3 0 0x0000 0 (replicate 2 0x00) 100 9
    ∷ refuses 3 248 0x0000 0 (replicate 2 0x00) 100 9
    ∷ refuses 4 0 0x0000 0 [] 100 9
    ∷ refuses 4 248 0x0000 0 [] 100 9
    ∷ builds 1 247 0x0000 1 [] (0xF7 ∷ 0x03 ∷ 0x00 ∷ 0x00 ∷ 0x00 ∷ 0x01 ∷ 0x90 ∷ 0x9C ∷ [])
    ∷ builds 2 247 0x0000 1 [] (0xF7 ∷ 0x06 ∷ 0x00 ∷ 0x00 ∷ 0x00 ∷ 0x01 ∷ 0x5C ∷ 0x9C ∷ [])
    ∷ builds 3 247 0x0000 0 (0x00 ∷ 0x00 ∷ []) (0xF7 ∷ 0x10 ∷ 0x00 ∷ 0x00 ∷ 0x00 ∷ 0x01 ∷ 0x02 ∷ 0x00 ∷ 0x00 ∷ 0x89 ∷ 0xF4 ∷ [])
    ∷ builds 4 247 0x0000 0 [] (0xF7 ∷ 0x05 ∷ 0x00 ∷ 0x00 ∷ 0x00 ∷ 0x00 ∷ 0xD9 ∷ 0x5C ∷ [])
    -- the count of a read: 1 and 47, and one to either side
    ∷ refuses 0 1 0x0200 0 [] 100 9
    ∷ builds 0 1 0x0200 1 [] (0x01 ∷ 0x03 ∷ 0x02 ∷ 0x00 ∷ 0x00 ∷ 0x01 ∷ 0x85 ∷ 0xB2 ∷ [])
    ∷ builds 0 1 0x0200 0x002F [] (0x01 ∷ 0x03 ∷ 0x02 ∷ 0x00 ∷ 0x00 ∷ 0x2F ∷ 0x05 ∷ 0xAE ∷ [])
    ∷ refuses 0 1 0x0200 0x0030 [] 100 9
    ∷ refuses 0 1 0x0200 0xFFFFFFFF [] 100 9
    -- the words of a record: 1 and 47, and one to either side; its query counts 1
    ∷ refuses 1 1 0x0400 0 [] 100 9
    ∷ builds 1 1 0x0400 1 [] (0x01 ∷ 0x03 ∷ 0x04 ∷ 0x00 ∷ 0x00 ∷ 0x01 ∷ 0x85 ∷ 0x3A ∷ [])
    ∷ builds 1 1 0x0400 0x002F [] (0x01 ∷ 0x03 ∷ 0x04 ∷ 0x00 ∷ 0x00 ∷ 0x01 ∷ 0x85 ∷ 0x3A ∷ [])
    ∷ refuses 1 1 0x0400 0x0030 [] 100 9
    ∷ refuses 1 1 0x0400 0xFFFFFFFF [] 100 9
    -- the value of a write: 0000 and FFFF, and one more
    ∷ builds 2 1 0x0104 0 [] (0x01 ∷ 0x06 ∷ 0x01 ∷ 0x04 ∷ 0x00 ∷ 0x00 ∷ 0xC9 ∷ 0xF7 ∷ [])
    ∷ builds 2 1 0x0104 0xFFFF [] (0x01 ∷ 0x06 ∷ 0x01 ∷ 0x04 ∷ 0xFF ∷ 0xFF ∷ 0xC8 ∷ 0x47 ∷ [])
    ∷ refuses 2 1 0x0104 0x10000 [] 100 9
    ∷ refuses 2 1 0x0104 0xFFFFFFFF [] 100 9
    -- the values of several writes: 1 and 45, none, 46, and odd bytes
    ∷ refuses 3 1 0x0000 0 [] 100 9
    ∷ refuses 3 1 0x0000 0 (replicate 1 0x00) 100 9
    ∷ builds 3 1 0x0000 0 (0x00 ∷ 0x00 ∷ []) (0x01 ∷ 0x10 ∷ 0x00 ∷ 0x00 ∷ 0x00 ∷ 0x01 ∷ 0x02 ∷ 0x00 ∷ 0x00 ∷ 0xA6 ∷ 0x50 ∷ [])
    ∷ refuses 3 1 0x0000 0 (replicate 3 0x00) 100 9
    ∷ refuses 3 1 0x0000 0 (replicate 89 0x5A) 100 9
    ∷ builds 3 1 0x0000 0 (replicate 90 0x5A) (0x01 ∷ 0x10 ∷ 0x00 ∷ 0x00 ∷ 0x00 ∷ 0x2D ∷ 0x5A ∷ replicate 90 0x5A ++ (0xD3 ∷ 0x8A ∷ []))
    ∷ refuses 3 1 0x0000 0 (replicate 91 0x5A) 100 9
    ∷ refuses 3 1 0x0000 0 (replicate 92 0x5A) 100 9
    -- a run that ends at FFFF, and one past it
    ∷ builds 0 1 0xFFFF 1 [] (0x01 ∷ 0x03 ∷ 0xFF ∷ 0xFF ∷ 0x00 ∷ 0x01 ∷ 0x84 ∷ 0x2E ∷ [])
    ∷ refuses 0 1 0xFFFF 2 [] 100 9
    ∷ builds 0 1 0xFFD1 0x002F [] (0x01 ∷ 0x03 ∷ 0xFF ∷ 0xD1 ∷ 0x00 ∷ 0x2F ∷ 0x64 ∷ 0x3B ∷ [])
    ∷ refuses 0 1 0xFFD2 0x002F [] 100 9
    ∷ builds 3 1 0xFFFE 0 (0x00 ∷ 0x01 ∷ 0x00 ∷ 0x02 ∷ []) (0x01 ∷ 0x10 ∷ 0xFF ∷ 0xFE ∷ 0x00 ∷ 0x02 ∷ 0x04 ∷ 0x00 ∷ 0x01 ∷ 0x00 ∷ 0x02 ∷ 0xE8 ∷ 0x92 ∷ [])
    ∷ refuses 3 1 0xFFFF 0 (replicate 4 0x00) 100 9
    ∷ builds 3 1 0xFFFF 0 (0x00 ∷ 0x01 ∷ []) (0x01 ∷ 0x10 ∷ 0xFF ∷ 0xFF ∷ 0x00 ∷ 0x01 ∷ 0x02 ∷ 0x00 ∷ 0x01 ∷ 0x7C ∷ 0x90 ∷ [])
    ∷ builds 3 1 0xFFD3 0 (replicate 90 0x5A) (0x01 ∷ 0x10 ∷ 0xFF ∷ 0xD3 ∷ 0x00 ∷ 0x2D ∷ 0x5A ∷ replicate 90 0x5A ++ (0x2D ∷ 0x7A ∷ []))
    ∷ refuses 3 1 0xFFD4 0 (replicate 90 0x5A) 100 9
    -- an address above FFFF
    ∷ refuses 0 1 0x10000 1 [] 100 9
    ∷ refuses 1 1 0x10000 1 [] 100 9
    ∷ refuses 2 1 0x10000 1 [] 100 9
    ∷ refuses 3 1 0x10000 0 (replicate 2 0x00) 100 9
    ∷ refuses 4 1 0x10000 0 [] 100 9
    ∷ refuses 0 1 0xFFFFFFFF 1 [] 100 9
    ∷ refuses 3 1 0xFFFFFFFF 0 (replicate 2 0x00) 100 9
    ∷ refuses 4 1 0xFFFFFFFF 0 [] 100 9
    -- a record, a write and a clear are for one address, which may be FFFF
    ∷ builds 1 1 0xFFFF 0x002F [] (0x01 ∷ 0x03 ∷ 0xFF ∷ 0xFF ∷ 0x00 ∷ 0x01 ∷ 0x84 ∷ 0x2E ∷ [])
    ∷ builds 2 1 0xFFFF 7 [] (0x01 ∷ 0x06 ∷ 0xFF ∷ 0xFF ∷ 0x00 ∷ 0x07 ∷ 0xC8 ∷ 0x2C ∷ [])
    ∷ builds 4 1 0xFFFF 7 [] (0x01 ∷ 0x05 ∷ 0xFF ∷ 0xFF ∷ 0x00 ∷ 0x00 ∷ 0xCD ∷ 0xEE ∷ [])
    -- the buffer: 99, 100 and 101 bytes; an order with no frame comes first
    ∷ refuses 0 1 0x0103 2 [] 99 5
    ∷ refuses 0 1 0x0103 2 [] 0 5
    ∷ record { order = 0; station = 1; address = 0x0103; number = 2; values = []; room = 101; answer = 0; query = 0x01 ∷ 0x03 ∷ 0x01 ∷ 0x03 ∷ 0x00 ∷ 0x02 ∷ 0x35 ∷ 0xF7 ∷ [] }
    ∷ refuses 1 1 0x0400 0x0016 [] 99 5
    ∷ refuses 2 1 0x0104 1 [] 99 5
    ∷ refuses 3 1 0x0103 0 (replicate 2 0x00) 99 5
    ∷ refuses 4 1 0x0300 0 [] 99 5
    ∷ refuses 0 0 0x0103 2 [] 99 9
    ∷ refuses 5 1 0x0000 0 [] 0 9
    ∷ refuses 0 1 0x0103 0x0030 [] 99 9
    ∷ refuses 0 1 0xFFFF 2 [] 99 9
    ∷ []

-- every row is right
pub queries : each right table ≡ true
unfolding right table each same_places build_outcome built_query query no_frame first_case with_check value_of
queries = refl
