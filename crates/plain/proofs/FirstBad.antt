-- The facts about a frame alone, the first bad address and the first bad item: plain numbers say what the ordered facts say. Assumes nothing.
use mathlib.Core.Path.{◌≡◌, refl, sym, ap, ap₂, subst, ◌∙◌}
use mathlib.Core.Bool.{Bool, true, false, not, cond, ◌&&◌, ◌||◌, true≢false}
use mathlib.Core.List.{List}
use mathlib.Core.Logic.{◌⊎◌, inl, inr}
use Prim.Native.Nat.{ℕ, ◌-◌, ◌≤◌, ◌<◌}
use native.Mathlib.Omega.{arith}
use lib.Dec.{ltb, eqb}
use lib.ListN.{length}
use borrow.Author.Tests.{eqb-true, eqb-false, eq-eqb, ne_eqb, lt-ltb, le-ltb, ltb-true, ltb-false, not-true, not-false}
use Rattle.check_value.specs.Check.{value_of}
use Rattle.check_value.specs.Frame.{held, covered}
use Rattle.lists.specs.Lists.{each}
use Rattle.lists.proofs.Tests.{first_of, second_of_lem}
use Rattle.lists.proofs.Among.{Among, up_among, each_among, among_some}
use Rattle.sheet_rules.specs.declared.Item.{Item}
use Rattle.sheet_rules.specs.declared.Purpose.{Purpose}
use Rattle.sheet_rules.specs.declared.Purpose.TheVariants.{Read, Write}
use Rattle.sheet_rules.specs.Rows.{areas, items, clear_address, record_area}
use Rattle.sheet_rules.specs.Rules.{sound}
use Rattle.sheet_rules.specs.Lookup.{lies_in, address_of, record_number, found_at}
use Rattle.sheet_rules.specs.Runs.{opens, all_open}
use Rattle.sheet_rules.proofs.Addresses.{place_address}
use Rattle.range.specs.declared.Side.{Side}
use Rattle.range.specs.Range.{side_of, in_range, side_number}
use Rattle.bank_rules.specs.Bank.{value_by, side_by, good_by}
use Rattle.bank_rules.proofs.FreshBank.{low_ordered}
use Rattle.bank_rules.proofs.Held.{holds_first, holder_alone}
use Rattle.bank_rules.specs.Calls.{Lent}
use Rattle.bank_rules.proofs.Changes.{Passed}
use Rattle.frame.specs.Frame.{reads, clears, function, start, second, is_write, count, run}
use Rattle.ring_rules.specs.Ring.{stored_count}
use Rattle.meter_rules.specs.Write.{first_place, would_be, touched, bad_item, some_bad, stop_place}
use Rattle.meter_rules.specs.Steps.{starts_in_records, asked_number, beyond_stored, wrong_count}
use Rattle.meter_rules.proofs.Order.{asks_write}
use Rattle.meter_rules.proofs.Records.{record_count}
use Rattle.meter_rules.proofs.Keeping.{stop, front_fine}
use Rattle.meter_rules.proofs.Soundness.{stores_to_stop}
use Rattle.meter_rules.proofs.WhichSide.{Stopped, stopped}
use Rattle.why_rules.specs.Facts.{too_short, too_long, check_differs, reads_too_many, shut_read, shut_address, first_shut, first_bad_address, first_bad_item, first_bad_side}
use Rattle.why_rules.proofs.Parts.{which_shut, read_told, write_told, clear_told, shut_of_read, record_told}
use Rattle.why_rules.proofs.FirstAddress.{first_shut_lem, first_shut_is}
use Rattle.why_rules.proofs.FirstItem.{stop_lies}
use Rattle.plain.specs.Numbers.{Bytes, byte, word}
use Rattle.plain.specs.Records.{AtRecord}
use Rattle.plain.specs.Frame.{registers, address, Touches, ValueWouldBe, Within}
use Rattle.plain.specs.Why.{CheckAgrees, ReadsTooMany, Opens, FirstBadAddress, of_run, of_record, of_clear, Misses, FirstBadItem}
use Rattle.plain.proofs.Rows.{word_same, writable_plain, plain_lies, item_row_lem, row_item}
use Rattle.plain.proofs.Records.{so_record}
use Rattle.plain.proofs.Conditions.{Tells, by_test, begins_so, so_begins, begins_not, not_begins}
use Rattle.plain.proofs.Addresses.{Open, open_at, at_open, readable_so, so_readable, writable_so, so_writable, address_same, registers_same, writes, which}
use Rattle.plain.proofs.Values.{within_so, misses_so, so_misses, misses_outside, value_so, so_value, touches_so, so_touches}

-- ---- the facts about a frame alone

pub short_tells : (frame : List ℕ) → Tells (too_short frame) (4 ≤ length frame)
short_tells frame = record { right = ltb-false (length frame) 4; wrongly = le-ltb (length frame) 4 }

pub long_tells : (frame : List ℕ) → Tells (too_long frame) (length frame ≤ 100)
long_tells frame = record { right = ltb-false 100 (length frame); wrongly = le-ltb 100 (length frame) }

pub check_tells : (frame : List ℕ) → Tells (check_differs frame) (CheckAgrees frame)
check_tells frame =
    by_test (λ e. omega (arith, eqb-true (value_of (covered frame)) (held frame) e))
    (λ agrees. eq-eqb (value_of (covered frame)) (held frame) (omega (arith, agrees)))

module _ (sheet frame : List ℕ) where
  pub many_so : reads_too_many sheet frame ≡ true → ReadsTooMany sheet frame
  many_so e =
      let over = first_of (eqb (function frame) 0x03 && ltb 47 (second frame)) (not (starts_in_records sheet frame)) e in (
        eqb-true (function frame) 0x03 (first_of (eqb (function frame) 0x03) (ltb 47 (second frame)) over),
        omega (arith, word_same frame 4, ltb-true 47 (second frame) (second_of_lem (eqb (function frame) 0x03) (ltb 47 (second frame)) over)),
        not_begins sheet frame (not-true (starts_in_records sheet frame)
            (second_of_lem (eqb (function frame) 0x03 && ltb 47 (second frame)) (not (starts_in_records sheet frame)) e)),
      )

  pub so_many : ReadsTooMany sheet frame → reads_too_many sheet frame ≡ true
  so_many many =
      ap₂ ◌&&◌ (ap₂ ◌&&◌ (eq-eqb (function frame) 0x03 many.0) (lt-ltb 47 (second frame) (omega (arith, word_same frame 4, many.1))))
      (ap not (begins_not sheet frame many.2))

  pub many_tells : Tells (reads_too_many sheet frame) (ReadsTooMany sheet frame → ⊥)
  many_tells =
      record {
        right = λ e many. true≢false (sym (so_many many) ∙ e);
        wrongly = λ few. go few (reads_too_many sheet frame) refl;
      }
    where
      go : (ReadsTooMany sheet frame → ⊥) → (b : Bool) → reads_too_many sheet frame ≡ b → reads_too_many sheet frame ≡ false
      go few true e = absurd (few (many_so e))
      go few false e = e

-- ---- the first bad address

any : (a b c : Bool) → (a ≡ true) ⊎ (b ≡ true) ⊎ (c ≡ true) → (a || b || c) ≡ true
any true b c e = refl
any false true c e = refl
any false false true e = refl
any false false false (inl e) = e
any false false false (inr (inl e)) = e
any false false false (inr (inr e)) = e

module _ (sheet frame : List ℕ) (keeps : sound sheet ≡ true) (bytes : Bytes sheet) where
  -- an address is open to a frame as it is open to a purpose
  record OpensAs (purpose : Purpose) : Type 0 where
    asked : (at : ℕ) → Opens sheet frame at → Open sheet keeps bytes purpose at
    granted : (at : ℕ) → Open sheet keeps bytes purpose at → Opens sheet frame at

  opens_to_read : byte frame 1 ≡ 0x03 → OpensAs Read
  opens_to_read is =
      record {
        asked = λ at opens. so_readable sheet keeps bytes (opens.read is);
        granted = λ at one. record { read = λ e. readable_so sheet keeps bytes one; written = λ e. absurd (other e) };
      }
    where
      other : (byte frame 1 ≡ 0x06) ⊎ (byte frame 1 ≡ 0x10) → ⊥
      other (inl e) = omega (arith, is, e)
      other (inr e) = omega (arith, is, e)

  opens_to_write : (byte frame 1 ≡ 0x06) ⊎ (byte frame 1 ≡ 0x10) → OpensAs Write
  opens_to_write is =
      record {
        asked = λ at opens. so_writable sheet keeps bytes (opens.written is);
        granted = λ at one. record { read = λ e. absurd (other 0x03 (omega arith) (omega arith) is e); written = λ e. writable_so sheet keeps bytes one };
      }
    where
      other : (code : ℕ) → code < 0x06 → code < 0x10 → (byte frame 1 ≡ 0x06) ⊎ (byte frame 1 ≡ 0x10) → byte frame 1 ≡ code → ⊥
      other code p q (inl e) f = omega (arith, p, e, f)
      other code p q (inr e) f = omega (arith, q, e, f)

  -- an address of a run that is not open, with every one in front of it open, is the one that is told
  run_is : (purpose : Purpose) → OpensAs purpose → (k : ℕ) → k < registers frame → (Opens sheet frame (address frame k) → ⊥)
      → ((j : ℕ) → j < k → Opens sheet frame (address frame j)) → (all_open purpose sheet (run frame) ≡ false) × (first_shut purpose sheet (run frame) ≡ address frame k)
  unfolding all_open
  run_is purpose opening k less shut front = (
    not_each,
    first_shut_is purpose sheet (start frame) (count frame) (address frame k) (omega (arith, address_same frame k))
        (omega (arith, address_same frame k, less, registers_same frame))
        (λ j before. ap open? (sym (address_same frame j)) ∙ at_open sheet keeps bytes purpose (address frame j)
        (opening.asked (address frame j) (front j (omega (arith, before, address_same frame k)))))
        closed,
  )
    where
      open? : ℕ → Bool
      open? n = opens purpose (lies_in (areas sheet) n)

      closed : open? (address frame k) ≡ false
      closed = go (open? (address frame k)) refl
        where
          go : (b : Bool) → open? (address frame k) ≡ b → open? (address frame k) ≡ false
          go true e = absurd (shut (opening.granted (address frame k) (open_at sheet keeps bytes purpose (address frame k) e)))
          go false e = e

      not_each : each open? (run frame) ≡ false
      not_each = go (each open? (run frame)) refl
        where
          go : (b : Bool) → each open? (run frame) ≡ b → each open? (run frame) ≡ false
          go true e =
              absurd (true≢false (sym (each_among open? (up_among (start frame) (count frame) k (omega (arith, less, registers_same frame))) e)
              ∙ ap open? (sym (address_same frame k)) ∙ closed))
          go false e = e

module _ (given : Lent) (frame : List ℕ) (keeps : sound given.sheet ≡ true) (bytes : Bytes given.sheet) where
  abbrev sheet : List ℕ
  sheet = given.sheet

  of_run_lem : (byte frame 1 ≡ 0x03 → AtRecord sheet (word frame 2) → ⊥) → (purpose : Purpose) → OpensAs sheet frame keeps bytes purpose
      → all_open purpose sheet (run frame) ≡ false → FirstBadAddress given frame (first_shut purpose sheet (run frame))
  of_run_lem none purpose opening closed =
      let at : ℕ = first_shut purpose sheet (run frame) in
      let found = first_shut_lem purpose sheet keeps (start frame) (count frame) closed in
      let k : ℕ = at - start frame in
      let same : address frame k ≡ at = address_same frame k ∙ omega (arith, found.low) in
      subst (FirstBadAddress given frame) same
      (of_run none k (omega (arith, found.high, found.low, registers_same frame))
      (λ opens. true≢false (sym (at_open sheet keeps bytes purpose (address frame k) (opening.asked (address frame k) opens))
      ∙ ap (λ (n : ℕ). open? n) same ∙ found.itself))
      (λ j less. opening.granted (address frame j) (open_at sheet keeps bytes purpose (address frame j)
      (ap (λ (n : ℕ). open? n) (address_same frame j) ∙ found.front j (omega (arith, less, found.low))))))
    where
      open? : ℕ → Bool
      open? n = opens purpose (lies_in (areas sheet) n)

  write_none : is_write frame ≡ true → byte frame 1 ≡ 0x03 → AtRecord sheet (word frame 2) → ⊥
  write_none write is one = true≢false (sym (eq-eqb (function frame) 0x03 is) ∙ (asks_write frame write).is_read)

  -- behind step 5, what is told is a first bad address
  module _ (right : wrong_count sheet frame ≡ false) where
    of_read_lem : (is : function frame ≡ reads) → shut_read given frame ≡ true → all_open Read sheet (run frame) ≡ false → (inside : Bool)
        → starts_in_records sheet frame ≡ inside → FirstBadAddress given frame (first_bad_address sheet frame)
    of_read_lem is shut closed true e =
        let one = so_begins sheet frame e in
        let beyond = sym (ap (λ (b : Bool). cond b (beyond_stored given frame) (not (all_open Read sheet (run frame)))) e) ∙ shut in
        subst (FirstBadAddress given frame) (word_same frame 2 ∙ sym (record_told given frame is keeps e (record_count sheet frame is e right)))
        (of_record is one.0 one.1 one.2 one.3
        (omega (
          arith,
          word_same given.ring 2,
          (so_record sheet one.3).its_number ∙ ap (record_number (record_area sheet)) (word_same frame 2),
          ltb-true (stored_count given.ring) (asked_number sheet frame) beyond,
        )))
    of_read_lem is shut closed false e =
        subst (FirstBadAddress given frame) (sym (read_told sheet frame is))
        (of_run_lem (λ read. not_begins sheet frame e) Read (opens_to_read sheet frame keeps bytes is) closed)

    pub first_address_so : shut_address given frame ≡ true → FirstBadAddress given frame (first_bad_address sheet frame)
    first_address_so shut = go (which_shut given frame keeps right shut)
      where
        go : ((function frame ≡ reads) × (all_open Read sheet (run frame) ≡ false)) ⊎ ((is_write frame ≡ true) × (all_open Write sheet (run frame) ≡ false))
            ⊎ ((function frame ≡ clears) × (eqb (start frame) (clear_address sheet) ≡ false))
            → FirstBadAddress given frame (first_bad_address sheet frame)
        go (inl (is, closed)) = of_read_lem is (sym (shut_of_read given frame is) ∙ shut) closed (starts_in_records sheet frame) refl
        go (inr (inl (is, closed))) =
            subst (FirstBadAddress given frame) (sym (write_told sheet frame is))
            (of_run_lem (write_none is) Write (opens_to_write sheet frame keeps bytes (which frame is)) closed)
        go (inr (inr (is, elsewhere))) =
            subst (FirstBadAddress given frame) (word_same frame 2 ∙ sym (clear_told sheet frame is))
            (of_clear is (λ same. eqb-false (start frame) (clear_address sheet) elsewhere (sym (word_same frame 2) ∙ same ∙ word_same sheet 20)))

  abbrev read_shut : Bool
  read_shut = eqb (function frame) 0x03 && shut_read given frame

  abbrev write_shut : Bool
  write_shut = is_write frame && not (all_open Write sheet (run frame))

  abbrev clear_shut : Bool
  clear_shut = eqb (function frame) 0x05 && not (eqb (start frame) (clear_address sheet))

  pub so_first_address : wrong_count sheet frame ≡ false → {at : ℕ} → FirstBadAddress given frame at
      → (shut_address given frame ≡ true) × (first_bad_address sheet frame ≡ at)
  so_first_address right (of_clear is elsewhere) = (
    any read_shut write_shut clear_shut
        (inr (inr (ap₂ ◌&&◌ (eq-eqb (function frame) 0x05 is)
        (ap not (ne_eqb (start frame) (clear_address sheet) (λ e. elsewhere (word_same frame 2 ∙ e ∙ sym (word_same sheet 20)))))))),
    clear_told sheet frame is ∙ sym (word_same frame 2),
  )
  so_first_address right (of_record is number many words one beyond) =
      let inside = begins_so sheet frame (number, many, words, one) in
      let over : beyond_stored given frame ≡ true = lt-ltb (stored_count given.ring) (asked_number sheet frame)
      (omega (arith, word_same given.ring 2, beyond, (so_record sheet one).its_number ∙ ap (record_number (record_area sheet)) (word_same frame 2))) in (
        shut_of_read given frame is ∙ ap (λ (b : Bool). cond b (beyond_stored given frame) (not (all_open Read sheet (run frame)))) inside ∙ over,
        record_told given frame is keeps inside (record_count sheet frame is inside right) ∙ sym (word_same frame 2),
      )
  so_first_address right (of_run none k less shut front) = go (eqb (function frame) 0x03) (is_write frame) refl refl
    where
      go : (read write : Bool) → eqb (function frame) 0x03 ≡ read → is_write frame ≡ write
          → (shut_address given frame ≡ true) × (first_bad_address sheet frame ≡ address frame k)
      go true write r w =
          let is = eqb-true (function frame) 0x03 r in
          let found = run_is sheet frame keeps bytes Read (opens_to_read sheet frame keeps bytes is) k less shut front in (
            shut_of_read given frame is
                ∙ ap (λ (b : Bool). cond b (beyond_stored given frame) (not (all_open Read sheet (run frame)))) (begins_not sheet frame (none is)) ∙ ap not found.0,
            read_told sheet frame is ∙ found.1,
          )
      go false true r w =
          let found = run_is sheet frame keeps bytes Write (opens_to_write sheet frame keeps bytes (which frame w)) k less shut front in
          (any read_shut write_shut clear_shut (inr (inl (ap₂ ◌&&◌ w (ap not found.0)))), write_told sheet frame w ∙ found.1)
      go false false r w =
          absurd (shut record {
            read = λ e. absurd (eqb-false (function frame) 0x03 r e);
            written = λ e. absurd (true≢false (sym (writes frame e) ∙ w));
          })

-- ---- the first bad item

module _ (given : Lent) (frame : List ℕ) (passed : Passed given) (write : is_write frame ≡ true) (all : all_open Write given.sheet (run frame) ≡ true) where
  abbrev would : ℕ → ℕ
  would = would_be (first_place given.sheet frame) (count frame) given.bank frame

  abbrev bad : Item → Bool
  bad item = bad_item (first_place given.sheet frame) (count frame) given.bank frame item

  -- an item that a write touches and would leave out of range is bad, and a bad item is so
  bad_so : (item : Item) → bad item ≡ true → Touches given.sheet frame item.kind item.place
      × Misses item.kind item.low item.high (value_by would item) (side_number (side_by would item))
  unfolding bad_item good_by
  bad_so item e =
      let touch = first_of (touched (first_place given.sheet frame) (count frame) item) (not (good_by would item)) e in
      let unfit = not-true (good_by would item) (second_of_lem (touched (first_place given.sheet frame) (count frame) item) (not (good_by would item)) e) in (
        so_touches given frame passed.right all item touch,
        misses_so item.kind item.low item.high (value_by would item) unfit,
      )

  fine_so : (item : Item) (value : ℕ) → bad item ≡ false → Touches given.sheet frame item.kind item.place
      → ValueWouldBe given frame item.place value item.kind → Within item.kind item.low item.high value
  unfolding bad_item good_by in_range
  fine_so item value fine touch is =
      within_so item.kind item.low item.high value
      (ap (in_range item.kind item.low item.high) (value_so given frame passed.right all item value is)
      ∙ not-false (good_by would item)
      (ap (λ (b : Bool). b && not (good_by would item)) (sym (touches_so given frame passed.right all item touch)) ∙ fine))

  so_bad : (item : Item) (value : ℕ) → Touches given.sheet frame item.kind item.place
      → ValueWouldBe given frame item.place value item.kind → (Within item.kind item.low item.high value → ⊥) → bad item ≡ true
  so_bad item value touch is outside = go (bad item) refl
    where
      go : (b : Bool) → bad item ≡ b → bad item ≡ true
      go true e = e
      go false e = absurd (outside (fine_so item value e touch is))

  pub first_item_so : some_bad given frame ≡ true → FirstBadItem given frame (first_bad_item given frame) (side_number (first_bad_side given frame))
  first_item_so one =
      let found = stopped given frame one in
      let item = found.item in
      let here = bad_so item found.bad in
      record {
        writes = which frame write;
        kind = item.kind;
        place = item.place;
        low = item.low;
        high = item.high;
        value = value_by would item;
        row = item_row_lem given.sheet item found.among;
        touched = here.0;
        its_value = so_value given frame passed.right all item;
        missed = subst (λ (s : Side). Misses item.kind item.low item.high (value_by would item) (side_number s)) found.at_side here.1;
        in_front = λ kind other low high value row touch is front.
            let earlier : Item = record { kind = kind; place = other; low = low; high = high } in
            fine_so earlier value (front_fine given frame passed all (row_item given.sheet row) (fronted (omega (arith, front, found.at_place)))) touch is;
        its_address = let stop = stop_lies given frame one passed.right in
            writable_plain given.sheet passed.right (stop.1 ∙ ap (λ (n : ℕ). found_at n stop.0) (sym found.at_place)) stop.2;
      }
    where
      fronted : {place : ℕ} → place < stop_place given frame → place < stop given frame passed all
      fronted less = omega (arith, less, stores_to_stop given frame one)

  -- and the other way
  pub so_first_item : {at side : ℕ} → FirstBadItem given frame at side
      → (some_bad given frame ≡ true) × (first_bad_item given frame ≡ at) × (side_number (first_bad_side given frame) ≡ side)
  unfolding some_bad side_by
  so_first_item {at} {side} first = (
    one,
    ap (address_of (areas given.sheet)) (sym same) ∙ place_address given.sheet passed.right at first.place first.its_address.access
        (plain_lies given.sheet passed.right first.its_address.lies),
    ap side_number (sym found.at_side ∙ ap (side_by would) stopped_here)
        ∙ ap (λ (value : ℕ). side_number (side_of first.kind first.low first.high value)) (sym (value_so given frame passed.right all item first.value first.its_value))
        ∙ sym (so_misses first.kind first.low first.high first.value (low_ordered given.sheet passed.right among) first.missed),
  )
    where
      item : Item
      item = record { kind = first.kind; place = first.place; low = first.low; high = first.high }

      its : bad item ≡ true
      its = so_bad item first.value first.touched first.its_value (misses_outside first.kind first.low first.high first.value first.missed)

      among : Among item (items given.sheet)
      among = row_item given.sheet first.row

      one : some_bad given frame ≡ true
      one = among_some bad among its

      found : Stopped given frame
      found = stopped given frame one

      -- no bad item stands in front of the stop, and the stop's own is not in front of this one
      same : first.place ≡ stop_place given frame
      same = go (ltb first.place (stop_place given frame)) (ltb (stop_place given frame) first.place) refl refl
        where
          go : (front behind : Bool) → ltb first.place (stop_place given frame) ≡ front → ltb (stop_place given frame) first.place ≡ behind
              → first.place ≡ stop_place given frame
          go true behind f b =
              absurd (true≢false (sym its ∙ front_fine given frame passed all among
              (omega (arith, ltb-true first.place (stop_place given frame) f, stores_to_stop given frame one))))
          go false true f b =
              let other = found.item in
              let here = bad_so other found.bad in
              absurd (misses_outside other.kind other.low other.high (value_by would other) here.1 (first.in_front other.kind other.place other.low other.high (value_by would other)
              (item_row_lem given.sheet other found.among) here.0 (so_value given frame passed.right all other)
              (omega (arith, found.at_place, ltb-true (stop_place given frame) first.place b))))
          go false false f b =
              omega (arith, ltb-false first.place (stop_place given frame) f, ltb-false (stop_place given frame) first.place b)

      -- one item alone holds the place
      stopped_here : found.item ≡ item
      stopped_here =
          holder_alone given.sheet passed.right first.place found.among
          (holds_first found.item first.place (found.at_place ∙ sym same)) among (holds_first item first.place refl)
