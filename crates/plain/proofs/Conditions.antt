-- Conditions 1 to 6 in plain numbers are what the steps of judgement test. Assumes nothing.
use mathlib.Core.Path.{◌≡◌, refl, sym, ap, ap₂, ◌∙◌}
use mathlib.Core.Bool.{Bool, true, false, not, cond, ◌&&◌, ◌||◌, true≢false, false≢true}
use mathlib.Core.List.{List}
use mathlib.Core.Logic.{◌⊎◌, inl, inr}
use Prim.Native.Nat.{ℕ, ◌+◌, ◌*◌, ◌/◌, ◌%◌, ◌≤◌}
use native.Mathlib.Omega.{arith}
use lib.Dec.{leb, ltb, eqb}
use lib.ListN.{length}
use borrow.Author.Tests.{eqb-true, eqb-false, eq-eqb, ne_eqb, leb-true, le-leb, ltb-true, ltb-false, le-ltb, not-false}
use Rattle.words.specs.Words.{word_at}
use Rattle.check_value.specs.Check.{value_of}
use Rattle.check_value.specs.Frame.{passes, held, covered}
use Rattle.sheet_rules.specs.Rows.{functions, record_area}
use Rattle.sheet_rules.specs.Rules.{allowed, in_records}
use Rattle.bank_rules.specs.Bank.{station_of}
use Rattle.bank_rules.specs.Calls.{Lent}
use Rattle.frame.specs.Frame.{station, function, second, byte_count}
use Rattle.meter_rules.specs.Steps.{function_allowed, fails_check, other_station, function_not_allowed, wrong_length, starts_in_records, wrong_count}
use Rattle.lists.proofs.Tests.{first_of, second_of_lem}
use Rattle.plain.specs.Numbers.{byte, word}
use Rattle.plain.specs.Records.{AtRecord}
use Rattle.plain.specs.Frame.{Whole, OurStation, Set, Allowed, RightLength, RightCount}
use Rattle.plain.proofs.Rows.{word_same}
use Rattle.plain.proofs.Records.{so_record, at_record}

-- a test tells of what must hold: it is false where that holds, and true where it does not
pub record Tells (wrong : Bool) (Right : Type 0) : Type 0 where
  pub right : wrong ≡ false → Right
  pub wrongly : Right → wrong ≡ false

-- .. from a test that is true where it holds
pub by_test : {test : Bool} {Right : Type 0} → (test ≡ true → Right) → (Right → test ≡ true) → Tells (not test) Right
by_test {test} holds back = record { right = λ e. holds (not-false test e); wrongly = λ r. ap not (back r) }

pub equal_tells : {n m : ℕ} → Tells (not (eqb n m)) (n ≡ m)
equal_tells {n} {m} = by_test (eqb-true n m) (eq-eqb n m)

-- 1
whole_so : (frame : List ℕ) → passes frame ≡ true → Whole frame
unfolding passes
whole_so frame e =
    let n = length frame in
    let long = first_of (leb 4 n && leb n 100) (eqb (value_of (covered frame)) (held frame)) e in
    record {
      least = leb-true 4 n (first_of (leb 4 n) (leb n 100) long);
      most = leb-true n 100 (second_of_lem (leb 4 n) (leb n 100) long);
      check = omega (
        arith,
        eqb-true (value_of (covered frame)) (held frame)
            (second_of_lem (leb 4 n && leb n 100) (eqb (value_of (covered frame)) (held frame)) e),
      );
    }

so_whole : (frame : List ℕ) → Whole frame → passes frame ≡ true
unfolding passes
so_whole frame whole =
    let n = length frame in
    simp (le-leb 4 n whole.least, le-leb n 100 whole.most)
    (eq-eqb (value_of (covered frame)) (held frame) (omega (arith, whole.check)))

pub whole_tells : (frame : List ℕ) → Tells (fails_check frame) (Whole frame)
whole_tells frame = by_test (whole_so frame) (so_whole frame)

-- 2
pub station_tells : (given : Lent) (frame : List ℕ) → Tells (other_station given frame) (OurStation given frame)
station_tells given frame =
    by_test
    (λ e. eqb-true (station frame) (station_of given.sheet given.bank) e ∙ sym same)
    (λ e. eq-eqb (station frame) (station_of given.sheet given.bank) (e ∙ same))
  where
    same : word given.bank (2 * word given.sheet 16) ≡ station_of given.sheet given.bank
    same = word_same given.bank (2 * word given.sheet 16) ∙ ap (λ (n : ℕ). word_at given.bank (2 * n)) (word_same given.sheet 16)

-- 3: one of the four functions, and its bit
pick : (a b c d : Bool) → (a || b || c || d) ≡ true → (a ≡ true) ⊎ (b ≡ true) ⊎ (c ≡ true) ⊎ (d ≡ true)
pick true b c d e = inl refl
pick false true c d e = inr (inl refl)
pick false false true d e = inr (inr (inl refl))
pick false false false d e = inr (inr (inr e))

picked : (a b c d : Bool) → (a ≡ true) ⊎ (b ≡ true) ⊎ (c ≡ true) ⊎ (d ≡ true) → (a || b || c || d) ≡ true
picked true b c d e = refl
picked false true c d e = refl
picked false false true d e = refl
picked false false false true e = refl
picked false false false false (inl e) = e
picked false false false false (inr (inl e)) = e
picked false false false false (inr (inr (inl e))) = e
picked false false false false (inr (inr (inr e))) = e

module _ (sheet frame : List ℕ) where
  sum : word sheet 12 ≡ functions sheet
  sum = word_same sheet 12

  bit_so : (code bit : ℕ) → (eqb (function frame) code && allowed sheet bit) ≡ true → (byte frame 1 ≡ code) × Set (word sheet 12) bit
  bit_so code bit e = (
    eqb-true (function frame) code (first_of (eqb (function frame) code) (allowed sheet bit) e),
    ap (λ (n : ℕ). n / bit % 2) sum
        ∙ eqb-true (functions sheet / bit % 2) 1 (second_of_lem (eqb (function frame) code) (allowed sheet bit) e),
  )

  so_bit : (code bit : ℕ) → (byte frame 1 ≡ code) × Set (word sheet 12) bit → (eqb (function frame) code && allowed sheet bit) ≡ true
  so_bit code bit both =
      ap₂ ◌&&◌ (eq-eqb (function frame) code both.0)
      (eq-eqb (functions sheet / bit % 2) 1 (ap (λ (n : ℕ). n / bit % 2) (sym sum) ∙ both.1))

  abbrev one : ℕ → ℕ → Bool
  one code bit = eqb (function frame) code && allowed sheet bit

  pub allowed_tells : Tells (function_not_allowed sheet frame) (Allowed sheet frame)
  allowed_tells = by_test so back
    where
      so : function_allowed sheet frame ≡ true → Allowed sheet frame
      so e = go (pick (one 0x03 1) (one 0x05 2) (one 0x06 4) (one 0x10 8) e)
        where
          go : (one 0x03 1 ≡ true) ⊎ (one 0x05 2 ≡ true) ⊎ (one 0x06 4 ≡ true) ⊎ (one 0x10 8 ≡ true) → Allowed sheet frame
          go (inl e) = inl (bit_so 0x03 1 e)
          go (inr (inl e)) = inr (inl (bit_so 0x05 2 e))
          go (inr (inr (inl e))) = inr (inr (inl (bit_so 0x06 4 e)))
          go (inr (inr (inr e))) = inr (inr (inr (bit_so 0x10 8 e)))

      back : Allowed sheet frame → function_allowed sheet frame ≡ true
      back r = picked (one 0x03 1) (one 0x05 2) (one 0x06 4) (one 0x10 8) (go r)
        where
          go : Allowed sheet frame → (one 0x03 1 ≡ true) ⊎ (one 0x05 2 ≡ true) ⊎ (one 0x06 4 ≡ true) ⊎ (one 0x10 8 ≡ true)
          go (inl both) = inl (so_bit 0x03 1 both)
          go (inr (inl both)) = inr (inl (so_bit 0x05 2 both))
          go (inr (inr (inl both))) = inr (inr (inl (so_bit 0x06 4 both)))
          go (inr (inr (inr both))) = inr (inr (inr (so_bit 0x10 8 both)))

-- 4
abbrev length_test : List ℕ → Bool → Bool
length_test frame many = cond many (ltb (length frame) 9 || not (eqb (length frame) (9 + byte_count frame))) (not (eqb (length frame) 8))

pub length_tells : (frame : List ℕ) → Tells (wrong_length frame) (RightLength frame)
length_tells frame = record { right = so (eqb (function frame) 0x10) refl; wrongly = back (eqb (function frame) 0x10) refl }
  where
    last : (a b : Bool) → (a || not b) ≡ false → b ≡ true
    last true b e = absurd (true≢false e)
    last false true e = refl
    last false false e = absurd (true≢false e)

    so : (many : Bool) → eqb (function frame) 0x10 ≡ many → length_test frame many ≡ false → RightLength frame
    so true e f =
        record {
          eight = λ other. absurd (other (eqb-true (function frame) 0x10 e));
          nine_and_more = λ is. eqb-true (length frame) (9 + byte_count frame) (last (ltb (length frame) 9) (eqb (length frame) (9 + byte_count frame)) f);
        }
    so false e f =
        record {
          eight = λ other. eqb-true (length frame) 8 (not-false (eqb (length frame) 8) f);
          nine_and_more = λ is. absurd (eqb-false (function frame) 0x10 e is);
        }

    back : (many : Bool) → eqb (function frame) 0x10 ≡ many → RightLength frame → length_test frame many ≡ false
    back true e right =
        let long = right.nine_and_more (eqb-true (function frame) 0x10 e) in
        ap₂ (λ (a b : Bool). a || not b) (le-ltb (length frame) 9 (omega (arith, long))) (eq-eqb (length frame) (9 + byte_count frame) long)
    back false e right = ap not (eq-eqb (length frame) 8 (right.eight (eqb-false (function frame) 0x10 e)))

-- ---- tests of which none holds

pub neither_first : (a b : Bool) → (a || b) ≡ false → a ≡ false
neither_first true b e = e
neither_first false b e = refl

pub neither_second : (a b : Bool) → (a || b) ≡ false → b ≡ false
neither_second true b e = absurd (true≢false e)
neither_second false b e = e

pub neither : {a b : Bool} → a ≡ false → b ≡ false → (a || b) ≡ false
neither p q = ap₂ ◌||◌ p q

-- a test that is made only where another holds
pub where_so : (a b : Bool) → (a && b) ≡ false → a ≡ true → b ≡ false
where_so true b e f = e
where_so false b e f = absurd (false≢true f)

pub so_where : (a b : Bool) → (a ≡ true → b ≡ false) → (a && b) ≡ false
so_where true b h = h refl
so_where false b h = refl

-- 5
module _ (sheet frame : List ℕ) where
  abbrev is_read : Bool
  is_read = eqb (function frame) 0x03

  abbrev is_many : Bool
  is_many = eqb (function frame) 0x10

  abbrev none : Bool
  none = eqb (second frame) 0

  abbrev several : Bool
  several = starts_in_records sheet frame && not (eqb (second frame) 1)

  abbrev fitting : Bool
  fitting = eqb (byte_count frame) (2 * second frame)

  some_so : none ≡ false → 1 ≤ word frame 4
  some_so e = least (word frame 4) (λ zero. eqb-false (second frame) 0 e (sym (word_same frame 4) ∙ zero))
    where
      least : (n : ℕ) → (n ≡ 0 → ⊥) → 1 ≤ n
      least n h = go (ltb 0 n) refl
        where
          go : (b : Bool) → ltb 0 n ≡ b → 1 ≤ n
          go true e = ltb-true 0 n e
          go false e = absurd (h (omega (arith, ltb-false 0 n e)))

  so_some : 1 ≤ word frame 4 → none ≡ false
  so_some h = ne_eqb (second frame) 0 (λ zero. omega (arith, word_same frame 4, zero, h))

  -- a frame begins at a record's address
  pub begins_so : AtRecord sheet (word frame 2) → starts_in_records sheet frame ≡ true
  begins_so one = ap (λ (n : ℕ). in_records n (record_area sheet)) (sym (word_same frame 2)) ∙ (so_record sheet one.3).inside

  pub so_begins : starts_in_records sheet frame ≡ true → AtRecord sheet (word frame 2)
  so_begins e = at_record sheet (word frame 2) (ap (λ (n : ℕ). in_records n (record_area sheet)) (word_same frame 2) ∙ e)

  pub begins_not : (AtRecord sheet (word frame 2) → ⊥) → starts_in_records sheet frame ≡ false
  begins_not none-at = go (starts_in_records sheet frame) refl
    where
      go : (b : Bool) → starts_in_records sheet frame ≡ b → starts_in_records sheet frame ≡ false
      go true e = absurd (none-at (so_begins e))
      go false e = e

  pub not_begins : starts_in_records sheet frame ≡ false → AtRecord sheet (word frame 2) → ⊥
  not_begins e one = true≢false (sym (begins_so one) ∙ e)

  count_so : wrong_count sheet frame ≡ false → RightCount sheet frame
  count_so e =
      let reading : is_read ≡ true → (none || several) ≡ false =
      where_so is_read (none || several) (neither_first (is_read && (none || several)) (is_many && (none || not fitting)) e) in
      record {
        of_read = λ is. some_so (neither_first none several (reading (eq-eqb (function frame) 0x03 is)));
        of_record = λ is one. word_same frame 4 ∙ eqb-true (second frame) 1 (not-false (eqb (second frame) 1)
            (where_so (starts_in_records sheet frame) (not (eqb (second frame) 1)) (neither_second none several (reading (eq-eqb (function frame) 0x03 is)))
            (begins_so one)));
        of_many = λ is. let right = where_so is_many (none || not fitting) (neither_second (is_read && (none || several)) (is_many && (none || not fitting)) e)
            (eq-eqb (function frame) 0x10 is) in (
              some_so (neither_first none (not fitting) right),
              eqb-true (byte_count frame) (2 * second frame) (not-false fitting (neither_second none (not fitting) right))
                  ∙ ap (λ (n : ℕ). 2 * n) (sym (word_same frame 4)),
            );
      }

  so_count : RightCount sheet frame → wrong_count sheet frame ≡ false
  so_count right =
      neither (so_where is_read (none || several) (λ is. let read = eqb-true (function frame) 0x03 is in
      neither (so_some (right.of_read read))
      (so_where (starts_in_records sheet frame) (not (eqb (second frame) 1)) (λ inside.
      ap not (eq-eqb (second frame) 1 (sym (word_same frame 4) ∙ right.of_record read (so_begins inside)))))))
      (so_where is_many (none || not fitting) (λ is. let many = right.of_many (eqb-true (function frame) 0x10 is) in
      neither (so_some many.0)
      (ap not (eq-eqb (byte_count frame) (2 * second frame) (many.1 ∙ ap (λ (n : ℕ). 2 * n) (word_same frame 4))))))

  pub count_tells : Tells (wrong_count sheet frame) (RightCount sheet frame)
  count_tells = record { right = count_so; wrongly = so_count }
