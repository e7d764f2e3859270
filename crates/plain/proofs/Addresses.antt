-- Condition 6 in plain numbers is what step 6 tests. Assumes nothing.
use mathlib.Core.Path.{◌≡◌, refl, sym, ap, ap₂, ◌∙◌}
use mathlib.Core.Bool.{Bool, true, false, not, cond, ◌&&◌, ◌||◌, false≢true}
use mathlib.Core.List.{List}
use mathlib.Core.Logic.{◌⊎◌}
use Prim.Native.Nat.{ℕ, zero, suc, ◌+◌, ◌≤◌, ◌<◌}
use native.Mathlib.Omega.{arith}
use lib.Dec.{ltb, eqb}
use borrow.Author.Tests.{eqb-true, eq-eqb, le-ltb, ltb-false, not-false}
use Rattle.std.specs.Prelude.{Option, None, Some}
use Rattle.lists.specs.Lists.{each, up_from}
use Rattle.lists.proofs.Among.{up_among, each_among}
use Rattle.sheet_rules.specs.Rows.{areas, clear_address, record_area}
use Rattle.sheet_rules.specs.Rules.{sound}
use Rattle.sheet_rules.specs.Lookup.{lies_in, record_number}
use Rattle.sheet_rules.proofs.Addresses.{lies_word}
use Rattle.sheet_rules.specs.declared.Purpose.{Purpose}
use Rattle.sheet_rules.specs.declared.Purpose.TheVariants.{Read, Write}
use Rattle.sheet_rules.specs.Runs.{permits, opens, all_open}
use Rattle.sheet_rules.specs.declared.Lies.{Lies}
use Rattle.frame.specs.Frame.{function, start, second, is_write, count, run}
use Rattle.bank_rules.specs.Calls.{Lent}
use Rattle.ring_rules.specs.Ring.{stored_count}
use Rattle.meter_rules.specs.Steps.{starts_in_records, asked_number, wrong_read, wrong_address}
use Rattle.meter_rules.proofs.Order.{registers_wrong, record_wrong}
use Rattle.plain.specs.Numbers.{Bytes, byte, word}
use Rattle.plain.specs.Records.{RecordAt, AtRecord}
use Rattle.plain.specs.Sheet.{LiesAt}
use Rattle.plain.specs.Frame.{registers, address, Readable, Writable, RightAddress}
use Rattle.plain.proofs.Rows.{word_same, one_of_lem, of_one, lies_plain, plain_lies}
use Rattle.plain.proofs.Conditions.{Tells, neither_first, neither_second, neither, where_so, so_where, begins_so, so_begins, begins_not, not_begins}
use Rattle.plain.proofs.Records.{so_record}

-- a rule that holds of each number of a run
pub each_up : (rule : ℕ → Bool) (first many : ℕ) → ((k : ℕ) → k < many → rule (first + k) ≡ true) → each rule (up_from first many) ≡ true
unfolding each up_from
each_up rule first zero all = refl
each_up rule first (suc many) all =
    ap₂ ◌&&◌ (ap rule (let same : first ≡ first + 0 = omega arith in same) ∙ all 0 (omega arith))
    (each_up rule (suc first) many (λ k less. ap rule (let same : suc first + k ≡ first + suc k = omega arith in same) ∙ all (suc k) (omega arith)))

-- the addresses of a frame, as the definitions count them
pub address_same : (frame : List ℕ) (k : ℕ) → address frame k ≡ start frame + k
address_same frame k = ap (λ (n : ℕ). n + k) (word_same frame 2)

pub registers_same : (frame : List ℕ) → registers frame ≡ count frame
registers_same frame = ap (λ (n : ℕ). cond (eqb (function frame) 0x06) 1 n) (word_same frame 4)

-- a write is a 06 or a 10
module _ (frame : List ℕ) where
  pub writes : (byte frame 1 ≡ 0x06) ⊎ (byte frame 1 ≡ 0x10) → is_write frame ≡ true
  writes e = of_one e

  pub which : is_write frame ≡ true → (byte frame 1 ≡ 0x06) ⊎ (byte frame 1 ≡ 0x10)
  which e = one_of_lem (function frame) 0x06 0x10 e

module _ (sheet : List ℕ) (keeps : sound sheet ≡ true) (bytes : Bytes sheet) where
  -- an address that is open to a purpose
  pub record Open (purpose : Purpose) (at : ℕ) : Type 0 where
    pub small : at ≤ 0xFFFF
    pub place : ℕ
    pub access : ℕ
    pub lies : LiesAt sheet at place access
    pub permitted : permits purpose access ≡ true

  module _ (purpose : Purpose) where
    pub open_at : (at : ℕ) → opens purpose (lies_in (areas sheet) at) ≡ true → Open purpose at
    open_at at = go (lies_in (areas sheet) at) refl
      where
        go : (lies : Option Lies) → lies_in (areas sheet) at ≡ lies → opens purpose lies ≡ true → Open purpose at
        go (Some lies) is e =
            record {
              small = omega (arith, lies_word sheet bytes at lies.place lies.access is);
              place = lies.place;
              access = lies.access;
              lies = lies_plain sheet keeps is;
              permitted = e;
            }
        go None is e = absurd (false≢true e)

    pub at_open : (at : ℕ) → Open purpose at → opens purpose (lies_in (areas sheet) at) ≡ true
    at_open at one = ap (opens purpose) (plain_lies sheet keeps one.lies) ∙ one.permitted

    module _ (frame : List ℕ) where
      pub open_so : all_open purpose sheet (run frame) ≡ true → (k : ℕ) → k < registers frame → Open purpose (address frame k)
      unfolding all_open
      open_so all k less =
          open_at (address frame k)
          (ap (λ (at : ℕ). opens purpose (lies_in (areas sheet) at)) (address_same frame k)
          ∙ each_among (λ at. opens purpose (lies_in (areas sheet) at)) (up_among (start frame) (count frame) k (omega (arith, registers_same frame))) all)

      pub so_open : ((k : ℕ) → k < registers frame → Open purpose (address frame k)) → all_open purpose sheet (run frame) ≡ true
      unfolding all_open
      so_open all =
          each_up (λ at. opens purpose (lies_in (areas sheet) at)) (start frame) (count frame)
          (λ k less. ap (λ (at : ℕ). opens purpose (lies_in (areas sheet) at)) (sym (address_same frame k))
          ∙ at_open (address frame k) (all k (omega (arith, registers_same frame))))

  pub readable_so : {at : ℕ} → Open Read at → Readable sheet at
  readable_so one =
      record { small = one.small; place = one.place; access = one.access; lies = one.lies; permitted = one_of_lem one.access 1 3 one.permitted }

  pub so_readable : {at : ℕ} → Readable sheet at → Open Read at
  so_readable one =
      record { small = one.small; place = one.place; access = one.access; lies = one.lies; permitted = of_one one.permitted }

  pub writable_so : {at : ℕ} → Open Write at → Writable sheet at
  writable_so one =
      record {
        small = one.small;
        place = one.place;
        written = record { access = one.access; lies = one.lies; permitted = one_of_lem one.access 2 3 one.permitted };
      }

  pub so_writable : {at : ℕ} → Writable sheet at → Open Write at
  so_writable one =
      let at = one.written in
      record { small = one.small; place = one.place; access = at.access; lies = at.lies; permitted = of_one at.permitted }

-- ---- the whole of step 6

module _ (given : Lent) (keeps : sound given.sheet ≡ true) (bytes : Bytes given.sheet) (frame : List ℕ) where
  abbrev inside : Bool
  inside = starts_in_records given.sheet frame

  abbrev too_many : Bool
  too_many = ltb 47 (second frame)

  abbrev read_closed : Bool
  read_closed = not (all_open Read given.sheet (run frame))

  abbrev write_closed : Bool
  write_closed = not (all_open Write given.sheet (run frame))

  abbrev elsewhere : Bool
  elsewhere = not (eqb (start frame) (clear_address given.sheet))

  abbrev of_read : Bool
  of_read = eqb (function frame) 0x03 && wrong_read given frame

  abbrev of_write : Bool
  of_write = is_write frame && write_closed

  abbrev of_clear : Bool
  of_clear = eqb (function frame) 0x05 && elsewhere

  -- the number of a record that is asked for
  asked : {number many words : ℕ} → RecordAt given.sheet (word frame 2) number many words → number ≡ asked_number given.sheet frame
  asked one =
      (so_record given.sheet one).its_number ∙ ap (record_number (record_area given.sheet)) (word_same frame 2)

  address_so : wrong_address given frame ≡ false → RightAddress given frame
  address_so e =
      let early = neither_first (of_read || of_write) of_clear e in
      let reading : byte frame 1 ≡ 0x03 → wrong_read given frame ≡ false =
      λ is. where_so (eqb (function frame) 0x03) (wrong_read given frame) (neither_first of_read of_write early) (eq-eqb (function frame) 0x03 is) in
      let registers_read : byte frame 1 ≡ 0x03 → (AtRecord given.sheet (word frame 2) → ⊥) → (too_many || read_closed) ≡ false =
      λ is none. sym (registers_wrong frame given (begins_not given.sheet frame none)) ∙ reading is in
      record {
        at_most47 = λ is none. omega (arith, word_same frame 4, ltb-false 47 (second frame) (neither_first too_many read_closed (registers_read is none)));
        read = λ is none k less. readable_so given.sheet keeps bytes (open_so given.sheet keeps bytes Read frame
            (not-false (all_open Read given.sheet (run frame)) (neither_second too_many read_closed (registers_read is none))) k less);
        recorded = λ is number many words one. omega (
          arith,
          asked one,
          word_same given.ring 2,
          ltb-false (stored_count given.ring) (asked_number given.sheet frame)
              (sym (record_wrong frame given (begins_so given.sheet frame (number, many, words, one))) ∙ reading is),
        );
        written = λ is k less. writable_so given.sheet keeps bytes (open_so given.sheet keeps bytes Write frame
            (not-false (all_open Write given.sheet (run frame)) (where_so (is_write frame) write_closed (neither_second of_read of_write early) (writes frame is))) k less);
        cleared = λ is. word_same frame 2 ∙ eqb-true (start frame) (clear_address given.sheet)
            (not-false (eqb (start frame) (clear_address given.sheet))
            (where_so (eqb (function frame) 0x05) elsewhere (neither_second (of_read || of_write) of_clear e) (eq-eqb (function frame) 0x05 is)))
            ∙ sym (word_same given.sheet 20);
      }

  so_read : RightAddress given frame → byte frame 1 ≡ 0x03 → wrong_read given frame ≡ false
  so_read right is = go inside refl
    where
      go : (b : Bool) → inside ≡ b → wrong_read given frame ≡ false
      go true e =
          let one = so_begins given.sheet frame e in
          record_wrong frame given e
          ∙ le-ltb (stored_count given.ring) (asked_number given.sheet frame)
          (omega (arith, asked one.3, word_same given.ring 2, right.recorded is one.0 one.1 one.2 one.3))
      go false e =
          let none = not_begins given.sheet frame e in
          registers_wrong frame given e
          ∙ neither (le-ltb 47 (second frame) (omega (arith, word_same frame 4, right.at_most47 is none)))
          (ap not (so_open given.sheet keeps bytes Read frame (λ k less. so_readable given.sheet keeps bytes (right.read is none k less))))

  so_address : RightAddress given frame → wrong_address given frame ≡ false
  so_address right =
      neither
      (neither
      (so_where (eqb (function frame) 0x03) (wrong_read given frame) (λ is. so_read right (eqb-true (function frame) 0x03 is)))
      (so_where (is_write frame) write_closed (λ is. ap not (so_open given.sheet keeps bytes Write frame
      (λ k less. so_writable given.sheet keeps bytes (right.written (which frame is) k less))))))
      (so_where (eqb (function frame) 0x05) elsewhere (λ is.
      ap not (eq-eqb (start frame) (clear_address given.sheet)
      (sym (word_same frame 2) ∙ right.cleared (eqb-true (function frame) 0x05 is) ∙ word_same given.sheet 20))))

  pub address_tells : Tells (wrong_address given frame) (RightAddress given frame)
  address_tells = record { right = address_so; wrongly = so_address }
