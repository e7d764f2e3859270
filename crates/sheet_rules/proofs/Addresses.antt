-- What lies at an address of a sound sheet, and the address of a place: the two are inverse, a run of addresses has places one after
-- the other, and each place below B lies in an area. Assumes nothing.
use mathlib.Core.Path.{◌≡◌, refl, sym, ap, ◌∙◌}
use mathlib.Core.Bool.{Bool, true, false, ◌&&◌, and-false, cond}
use mathlib.Core.List.{List, [], ◌∷◌}
use Prim.Native.Nat.{ℕ, zero, suc, ◌+◌, ◌-◌, ◌*◌, ◌≤◌, ◌<◌}
use native.Mathlib.Omega.{arith}
use lib.Dec.{leb, ltb}
use borrow.Author.Tests.{le-leb, lt-leb, lt-ltb, le-ltb, eqb-true, leb-true, leb-false, ltb-true, ltb-false}
use Rattle.std.specs.Prelude.{Option, None, Some}
use Rattle.words.specs.Words.{Bytes}
use Rattle.words.proofs.Small.{word_below}
use Rattle.sheet_rules.specs.declared.Area.{Area}
use Rattle.sheet_rules.specs.Rows.{areas, area_count, area_at, bank_words}
use Rattle.lists.specs.Lists.{each, some}
use Rattle.sheet_rules.specs.Rules.{first_last_rule, areas_ascend, places_follow, lengths_sum, length_of, in_area, place_in_area, sound}
use Rattle.sheet_rules.specs.Lookup.{lies_in, address_of, found_at, place_in}
use Rattle.lists.proofs.Tests.{first_of, second_of_lem}
use Rattle.lists.proofs.Among.{Among, here, there, among_row, each_among, among_some}
use Rattle.sheet_rules.proofs.Within.{follow_here, follow_behind, among_above}
use Rattle.sheet_rules.proofs.Sound.{AreasRules, sound_areas}
use Rattle.sheet_rules.specs.declared.Lies.{Lies}

-- ---- over any areas that keep the rules

-- the area in which an address lies
pub record Found (l : List Area) (address place access : ℕ) : Type 0 where
  pub area : Area
  pub among : Among area l
  pub low : area.first ≤ address
  pub high : address ≤ area.last
  pub at : place ≡ area.place + (address - area.first)
  pub opened : access ≡ area.access

pub at_place : {o : Option Lies} {p q x y : ℕ} → o ≡ found_at p x → o ≡ found_at q y → p ≡ q
at_place e f = ap place_in (sym e ∙ f)

abbrev access_in : Option Lies → ℕ
access_in (Some lies) = lies.access
access_in None = 0

pub at_access : {o : Option Lies} {p q x y : ℕ} → o ≡ found_at p x → o ≡ found_at q y → x ≡ y
at_access e f = ap access_in (sym e ∙ f)

never : {p x : ℕ} → None ≡ found_at p x → ⊥
never e = let z : ◌≡◌ {A = ℕ} 0 1 = cc in omega arith

pub lies_found : (l : List Area) (address place access : ℕ) → lies_in l address ≡ found_at place access → Found l address place access
unfolding lies_in
lies_found [] address place access e = absurd (never e)
lies_found (area ∷ behind) address place access e =
    go (in_area address area) refl e (lies_found behind address place access)
  where
    go : (inside : Bool) → in_area address area ≡ inside
        → cond inside (found_at (area.place + (address - area.first)) area.access) (lies_in behind address) ≡ found_at place access
        → (lies_in behind address ≡ found_at place access → Found behind address place access) → Found (area ∷ behind) address place access
    go true says e rest =
        record {
          area = area;
          among = here;
          low = leb-true area.first address (first_of (leb area.first address) (leb address area.last) says);
          high = leb-true address area.last (second_of_lem (leb area.first address) (leb address area.last) says);
          at = sym (at_place refl e);
          opened = sym (at_access refl e);
        }
    go false says e rest =
        let found = rest e in
        record {
          area = found.area;
          among = there found.among;
          low = found.low;
          high = found.high;
          at = found.at;
          opened = found.opened;
        }

-- the areas behind another begin above its last address
ascend_behind : (area : Area) (behind : List Area) → areas_ascend (area ∷ behind) ≡ true → areas_ascend behind ≡ true
unfolding areas_ascend
ascend_behind area behind e = second_of_lem (each (λ later. ltb area.last later.first) behind) (areas_ascend behind) e

ascend_above : (area : Area) {later : Area} {behind : List Area} → Among later behind → areas_ascend (area ∷ behind) ≡ true → area.last < later.first
unfolding areas_ascend
ascend_above area {later} {behind} m e =
    ltb-true area.last later.first
    (each_among (λ later. ltb area.last later.first) m
    (first_of (each (λ later. ltb area.last later.first) behind) (areas_ascend behind) e))

-- an address of an area lies there
pub lies_there : (address : ℕ) {area : Area} {l : List Area} → Among area l → areas_ascend l ≡ true → area.first ≤ address → address ≤ area.last
    → lies_in l address ≡ found_at (area.place + (address - area.first)) area.access
unfolding lies_in
lies_there address {area} (here {l = behind}) ascend low high =
    simp (le-leb area.first address low, le-leb address area.last high)
lies_there address {area} (there {b = other} {l = behind} m) ascend low high =
    simp (lt-leb address other.last (omega (arith, ascend_above other m ascend)), and-false)
    (lies_there address m (ascend_behind other behind ascend) low high)

-- a place of an area has its address there
pub address_there : {area : Area} (before place : ℕ) {l : List Area} → Among area l → places_follow before l ≡ true
    → area.place ≤ place → place < area.place + length_of area → address_of l place ≡ area.first + (place - area.place)
unfolding address_of
address_there {area} before place (here {l = behind}) follow low high =
    simp (le-leb area.place place low, lt-ltb place (area.place + length_of area) high)
address_there {area} before place (there {b = other} {l = behind} m) follow low high =
    let rest = follow_behind before other behind follow in
    simp (
      le-ltb place (other.place + length_of other)
          (omega (arith, follow_here before other behind follow, among_above (before + length_of other) m rest)),
      and-false,
    )
    (address_there (before + length_of other) place m rest low high)

-- an area ends within the sum of the lengths
pub among_below : {area : Area} (before : ℕ) {l : List Area} → Among area l → places_follow before l ≡ true
    → area.place + length_of area ≤ before + lengths_sum l
unfolding lengths_sum
among_below {area} before (here {l = behind}) follow = omega (arith, follow_here before area behind follow)
among_below before (there {b = other} {l = behind} m) follow =
    omega (arith, among_below (before + length_of other) m (follow_behind before other behind follow))

-- a place below the sum of the lengths is an area's
pub record Owned (l : List Area) (place : ℕ) : Type 0 where
  pub area : Area
  pub among : Among area l
  pub low : area.place ≤ place
  pub high : place < area.place + length_of area

pub owned : (before : ℕ) (l : List Area) → places_follow before l ≡ true → (place : ℕ) → before ≤ place → place < before + lengths_sum l
    → Owned l place
unfolding lengths_sum
owned before [] follow place low high = absurd (omega arith)
owned before (area ∷ behind) follow place low high =
    go (ltb place (before + length_of area)) refl
    (λ past. owned (before + length_of area) behind (follow_behind before area behind follow) place past (omega arith))
  where
    go : (first : Bool) → ltb place (before + length_of area) ≡ first → (before + length_of area ≤ place → Owned behind place)
        → Owned (area ∷ behind) place
    go true says rest =
        record {
          area = area;
          among = here;
          low = omega (arith, follow_here before area behind follow);
          high = omega (arith, follow_here before area behind follow, ltb-true place (before + length_of area) says);
        }
    go false says rest =
        let found = rest (ltb-false place (before + length_of area) says) in
        record { area = found.area; among = there found.among; low = found.low; high = found.high }

order_behind : (area : Area) (behind : List Area) → each first_last_rule (area ∷ behind) ≡ true → each first_last_rule behind ≡ true
unfolding each
order_behind area behind e = second_of_lem (first_last_rule area) (each first_last_rule behind) e

order_here : {area : Area} {l : List Area} → Among area l → each first_last_rule l ≡ true → area.first ≤ area.last
order_here {area} m e = leb-true area.first area.last (each_among first_last_rule m e)

-- an address is within an area, or not
pub in_low : (address : ℕ) (area : Area) → in_area address area ≡ true → area.first ≤ address
in_low address area e = leb-true area.first address (first_of (leb area.first address) (leb address area.last) e)

pub in_high : (address : ℕ) (area : Area) → in_area address area ≡ true → address ≤ area.last
in_high address area e = leb-true address area.last (second_of_lem (leb area.first address) (leb address area.last) e)

out_high : (address : ℕ) (area : Area) → in_area address area ≡ false → area.first ≤ address → area.last < address
out_high address area e low =
    leb-false address area.last
    (ap (λ (b : Bool). b && leb address area.last) (sym (le-leb area.first address low)) ∙ e)

-- the area that begins right behind the areas before is the next one
next_area : (before address : ℕ) {area : Area} {l : List Area} → Among area l → places_follow before l ≡ true → areas_ascend l ≡ true
    → each first_last_rule l ≡ true → ((later : Area) → Among later l → address < later.first) → area.first ≤ address + 1
    → (area.place ≡ before) × (area.first ≡ address + 1)
next_area before address {area} (here {l = behind}) follow ascend order behind-all low =
    (follow_here before area behind follow, omega (arith, behind-all area here))
next_area before address {area} (there {b = other} {l = behind} m) follow ascend order behind-all low =
    absurd (omega (arith, behind-all other here, ascend_above other m ascend, order_here here order))

-- the next address: its place is the next place
pub next_place_lem : (before : ℕ) (l : List Area) → places_follow before l ≡ true → areas_ascend l ≡ true → each first_last_rule l ≡ true
    → (address p q x y : ℕ) → lies_in l address ≡ found_at p x → lies_in l (address + 1) ≡ found_at q y → q ≡ p + 1
unfolding lies_in
next_place_lem before [] follow ascend order address p q x y e f = absurd (never e)
next_place_lem before (area ∷ behind) follow ascend order address p q x y e f =
    go (in_area address area) (in_area (address + 1) area) refl refl e f
    (next_place_lem (before + length_of area) behind (follow_behind before area behind follow) (ascend_behind area behind ascend)
    (order_behind area behind order) address p q x y)
  where
    go : (now then : Bool) → in_area address area ≡ now → in_area (address + 1) area ≡ then
        → cond now (found_at (area.place + (address - area.first)) area.access) (lies_in behind address) ≡ found_at p x
        → cond then (found_at (area.place + (address + 1 - area.first)) area.access) (lies_in behind (address + 1)) ≡ found_at q y
        → (lies_in behind address ≡ found_at p x → lies_in behind (address + 1) ≡ found_at q y → q ≡ p + 1) → q ≡ p + 1
    go true true now then e f rest =
        omega (arith, in_low address area now, at_place refl e, at_place refl f)
    go true false now then e f rest =
        let found = lies_found behind (address + 1) q y f in
        let last : area.last < address + 1 = out_high (address + 1) area then (omega (arith, in_low address area now)) in
        let at = next_area (before + length_of area) address found.among (follow_behind before area behind follow)
        (ascend_behind area behind ascend) (order_behind area behind order)
        (λ later m. omega (arith, ascend_above area m ascend, in_high address area now, last)) found.low in
        omega (
          arith,
          in_low address area now,
          in_high address area now,
          at_place refl e,
          found.at,
          at.0,
          at.1,
          follow_here before area behind follow,
        )
    go false true now then e f rest =
        let found = lies_found behind address p x e in
        absurd (omega (
          arith,
          found.low,
          ascend_above area found.among ascend,
          order_here (here {l = behind}) order,
          in_high (address + 1) area then,
        ))
    go false false now then e f rest = rest e f

-- ---- over the areas of any bytes: their words are below 10000, so that nothing lies above FFFF

pub lies_word : (sheet : List ℕ) → Bytes sheet → (address p x : ℕ) → lies_in (areas sheet) address ≡ found_at p x → address < 0x10000
unfolding areas area_at
lies_word sheet bytes address p x e =
    let found = lies_found (areas sheet) address p x e in
    let row = among_row (area_at sheet) 0 (area_count sheet) found.among in
    omega (arith, found.high, ap (λ (a : Area). a.last) row.2, word_below sheet bytes (2 * (12 + 4 * (0 + row.0) + 1)))

pub lies_nowhere : (sheet : List ℕ) → Bytes sheet → (address : ℕ) → 0x10000 ≤ address → lies_in (areas sheet) address ≡ None
lies_nowhere sheet bytes address past = go (lies_in (areas sheet) address) refl
  where
    go : (lies : Option Lies) → lies_in (areas sheet) address ≡ lies → lies_in (areas sheet) address ≡ None
    go (Some lies) e = absurd (omega (arith, lies_word sheet bytes address lies.place lies.access e))
    go None e = e

-- ---- over a sound sheet

module _ (sheet : List ℕ) (keeps : sound sheet ≡ true) where
  rules : AreasRules sheet
  rules = sound_areas sheet keeps

  total : lengths_sum (areas sheet) ≡ bank_words sheet
  total = eqb-true (lengths_sum (areas sheet)) (bank_words sheet) rules.total

  -- a run of addresses has places one after the other
  pub next_consecutive : (address p q x y : ℕ) → lies_in (areas sheet) address ≡ found_at p x → lies_in (areas sheet) (address + 1) ≡ found_at q y → q ≡ p + 1
  next_consecutive = next_place_lem 0 (areas sheet) rules.follow rules.ascend rules.first_last

  pub run_consecutive : (start count : ℕ) → ((k : ℕ) → k ≤ count → (p : ℕ) × (x : ℕ) × (lies_in (areas sheet) (start + k) ≡ found_at p x))
      → (p q x y : ℕ) → lies_in (areas sheet) start ≡ found_at p x → lies_in (areas sheet) (start + count) ≡ found_at q y → q ≡ p + count
  run_consecutive start zero lie p q x y e f =
      let here_again : start ≡ start + 0 = omega arith in
      omega (arith, at_place e (ap (lies_in (areas sheet)) here_again ∙ f))
  run_consecutive start (suc count) lie p q x y e f =
      let before_last = lie count (omega arith) in
      let next : start + count + 1 ≡ start + suc count = omega arith in
      omega (
        arith,
        run_consecutive start count (λ k fits. lie k (omega arith)) p before_last.0 x before_last.1 e before_last.2,
        next_consecutive (start + count) before_last.0 q before_last.1 y before_last.2 (ap (lies_in (areas sheet)) next ∙ f),
      )

  -- the address of a place and the place of an address are inverse
  pub place_address : (address p x : ℕ) → lies_in (areas sheet) address ≡ found_at p x → address_of (areas sheet) p ≡ address
  place_address address p x e =
      let found = lies_found (areas sheet) address p x e in
      address_there 0 p found.among rules.follow (omega (arith, found.at))
      (omega (arith, found.at, found.low, found.high))
      ∙ omega (arith, found.at, found.low)

  pub address_lies : (p : ℕ) → p < bank_words sheet → (x : ℕ) × (lies_in (areas sheet) (address_of (areas sheet) p) ≡ found_at p x)
  address_lies p inside =
      let own = owned 0 (areas sheet) rules.follow p (omega arith) (omega (arith, total)) in
      let area = own.area in
      let back : area.place + (area.first + (p - area.place) - area.first) ≡ p = omega (arith, own.low) in (
        area.access,
        ap (lies_in (areas sheet)) (address_there 0 p own.among rules.follow own.low own.high)
            ∙ lies_there (area.first + (p - area.place)) own.among rules.ascend (omega arith) (omega (arith, own.low, own.high))
            ∙ ap (λ (n : ℕ). found_at n area.access) back,
      )

  -- a place that lies at an address is a place of the bank
  pub lies_below : (address p x : ℕ) → lies_in (areas sheet) address ≡ found_at p x → p < bank_words sheet
  lies_below address p x e =
      let found = lies_found (areas sheet) address p x e in
      omega (arith, found.at, found.low, found.high, among_below 0 found.among rules.follow, total)

  -- each place below B lies in an area
  pub place_in_area_lem : (p : ℕ) → p < bank_words sheet → some (place_in_area p) (areas sheet) ≡ true
  place_in_area_lem p inside =
      let own = owned 0 (areas sheet) rules.follow p (omega arith) (omega (arith, total)) in
      let area = own.area in
      among_some (place_in_area p) own.among
      (simp (le-leb area.place p own.low, lt-ltb p (area.place + length_of area) own.high))
