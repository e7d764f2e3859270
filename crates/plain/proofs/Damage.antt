-- Damage in plain numbers is damage as the check value's law has it, both ways, and a frame so sent passes. Assumes nothing.
use mathlib.Core.Path.{◌≡◌, refl, sym, ap, ap₂, subst, ◌∙◌}
use mathlib.Core.Bool.{Bool, true, false, xor, cond, false≢true}
use mathlib.Core.Logic.{◌⊎◌, inl, inr}
use mathlib.Core.List.{List, [], ◌∷◌, ◌++◌}
use Prim.Native.Nat.{ℕ, zero, suc, ◌+◌, ◌-◌, ◌*◌, ◌/◌, ◌%◌, ◌^◌, ◌≤◌, ◌<◌}
use native.Mathlib.Omega.{arith}
use native.Mathlib.Nat.{div-one, zero-add}
use lib.Dec.{eqb, ltb}
use lib.ListN.{length, get_or, length-append, get_or-append}
use lib.Seq.{get_or-append-add}
use lib.Pow.{shr-shr}
use borrow.Author.Tests.{eqb-true, eqb-false, eq-eqb, ltb-true, ltb-false}
use Rattle.words.proofs.Small.{are_bytes_lem}
use Rattle.check_value.specs.Damage.{low_bits, wire, differing, changed, cons_if, all_within, WithinOneRun, Damaged}
use Rattle.check_value.specs.Frame.{passes}
use Rattle.check_value.specs.Check.{value_of}
use Rattle.check_value.proofs.Wire.{wire_length}
use Rattle.check_value.proofs.Zero.{closed_passes}
use Rattle.check_value.proofs.Damage.{damage_caught}
use Rattle.lists.proofs.Among.{Among, here, there, among_nil, among_cons, among_same}
use Rattle.plain.specs.Numbers.{byte, Bytes}
use Rattle.plain.specs.Damage.{Sent, bit, Changed, Damage}

-- ---- the bits of a byte, and of a frame

low_bit : (count n j : ℕ) → j < count → get_or (low_bits count n) j false ≡ eqb (n / 2 ^ j % 2) 1
unfolding low_bits
low_bit zero n j less = absurd (omega arith)
low_bit (suc count) n zero less = ap (λ (m : ℕ). eqb (m % 2) 1) (sym (div-one n))
low_bit (suc count) n (suc j) less =
    low_bit count (n / 2) j (omega arith) ∙ ap (λ (m : ℕ). eqb (m % 2) 1) (shr-shr n 1 j ∙ ap (λ (e : ℕ). n / 2 ^ e) (let same : 1 + j ≡ suc j = omega arith in same))

low_bits_eight : (n : ℕ) → length (low_bits 8 n) ≡ 8
unfolding low_bits
low_bits_eight n = refl

wire_bit : (bytes : List ℕ) (k : ℕ) → k < 8 * length bytes → get_or (wire bytes) k false ≡ eqb (bit bytes k) 1
unfolding wire
wire_bit [] k less = absurd (omega arith)
wire_bit (b ∷ rest) k less = go (ltb k 8) refl (λ j behind. wire_bit rest j behind)
  where
    go : (front : Bool) → ltb k 8 ≡ front
        → ((j : ℕ) → j < 8 * length rest → get_or (wire rest) j false ≡ eqb (bit rest j) 1) → get_or (low_bits 8 b ++ wire rest) k false ≡ eqb (bit (b ∷ rest) k) 1
    go true e again =
        let low : k < 8 = ltb-true k 8 e in
        let first : k / 8 ≡ 0 = omega arith in
        let itself : k % 8 ≡ k = omega arith in
        get_or-append (low_bits 8 b) (wire rest) false k (omega (arith, low_bits_eight b)) ∙ low_bit 8 b k low
        ∙ ap₂ (λ (at exponent : ℕ). eqb (byte (b ∷ rest) at / 2 ^ exponent % 2) 1) (sym first) (sym itself)
    go false e again =
        let high : 8 ≤ k = ltb-false k 8 e in
        let j : ℕ = k - 8 in
        let sum : k ≡ length (low_bits 8 b) + j = omega (arith, low_bits_eight b) in
        let next : k / 8 ≡ suc (j / 8) = omega arith in
        let same : k % 8 ≡ j % 8 = omega arith in
        ap (λ (n : ℕ). get_or (low_bits 8 b ++ wire rest) n false) sum ∙ get_or-append-add (low_bits 8 b) (wire rest) j false
        ∙ again j (omega arith)
        ∙ ap₂ (λ (at exponent : ℕ). eqb (byte (b ∷ rest) at / 2 ^ exponent % 2) 1) (sym next) (sym same)

-- ---- the places at which two lists of bits differ

differs_at : (place : ℕ) (a b : List Bool) {p : ℕ} → Among p (differing place a b)
    → (k : ℕ) × (p ≡ place + k) × (k < length a) × (xor (get_or a k false) (get_or b k false) ≡ true)
unfolding differing
differs_at place [] b m = absurd (among_nil m)
differs_at place (x ∷ a) [] m = absurd (among_nil m)
differs_at place (x ∷ a) (y ∷ b) m = go (xor x y) refl m (λ n. differs_at (suc place) a b n)
  where
    go : {p : ℕ} (here : Bool) → xor x y ≡ here → Among p (cons_if here place (differing (suc place) a b))
        → (Among p (differing (suc place) a b) → (k : ℕ) × (p ≡ suc place + k) × (k < length a) × (xor (get_or a k false) (get_or b k false) ≡ true))
        → (k : ℕ) × (p ≡ place + k) × (k < suc (length a)) × (xor (get_or (x ∷ a) k false) (get_or (y ∷ b) k false) ≡ true)
    go true e here rest = (0, omega arith, omega arith, e)
    go true e (there n) rest =
        let found = rest n in
        (suc found.0, omega (arith, found.1), omega (arith, found.2), found.3)
    go false e n rest =
        let found = rest n in
        (suc found.0, omega (arith, found.1), omega (arith, found.2), found.3)

at_differs : (place : ℕ) (a b : List Bool) (k : ℕ) → k < length a → k < length b → xor (get_or a k false) (get_or b k false) ≡ true
    → Among (place + k) (differing place a b)
unfolding differing
at_differs place [] b k less more e = absurd (omega arith)
at_differs place (x ∷ a) [] k less more e = absurd (omega arith)
at_differs place (x ∷ a) (y ∷ b) zero less more e =
    subst (λ (l : List ℕ). Among (place + 0) l) (ap (λ (h : Bool). cons_if h place (differing (suc place) a b)) (sym e))
    (subst (λ (n : ℕ). Among n (place ∷ differing (suc place) a b)) (let same : place ≡ place + 0 = omega arith in same) here)
at_differs place (x ∷ a) (y ∷ b) (suc k) less more e =
    go (xor x y)
    (subst (λ (n : ℕ). Among n (differing (suc place) a b)) (let same : suc place + k ≡ place + suc k = omega arith in same)
    (at_differs (suc place) a b k (omega arith) (omega arith) e))
  where
    go : {p : ℕ} (here : Bool) → Among p (differing (suc place) a b) → Among p (cons_if here place (differing (suc place) a b))
    go true m = there m
    go false m = m

-- they rise
abbrev Rising : ℕ → List ℕ → Type 0
Rising least [] = Unit {0}
Rising least (p ∷ places) = (least ≤ p) × Rising (suc p) places

rising_from : (least more : ℕ) (places : List ℕ) → least ≤ more → Rising more places → Rising least places
rising_from least more [] le rises = tt
rising_from least more (p ∷ places) le rises = (omega (arith, rises.0), rises.1)

differing_rises : (place : ℕ) (a b : List Bool) → Rising place (differing place a b)
unfolding differing
differing_rises place [] b = tt
differing_rises place (x ∷ a) [] = tt
differing_rises place (x ∷ a) (y ∷ b) = go (xor x y) (differing_rises (suc place) a b)
  where
    go : (here : Bool) → Rising (suc place) (differing (suc place) a b) → Rising place (cons_if here place (differing (suc place) a b))
    go true rises = (omega arith, rises)
    go false rises = rising_from place (suc place) (differing (suc place) a b) (omega arith) rises

rising_above : (least : ℕ) (places : List ℕ) → Rising least places → {p : ℕ} → Among p places → least ≤ p
rising_above least [] rises m = elim m [ ]
rising_above least (p ∷ places) rises here = rises.0
rising_above least (q ∷ places) rises (there m) = omega (arith, rises.0, rising_above (suc q) places rises.1 m)

-- ---- a rising list of some of so many numbers has no more of them

without : ℕ → List ℕ → List ℕ
without p [] = []
without p (c ∷ cs) = cond (eqb p c) cs (c ∷ without p cs)

without_length : (p : ℕ) (cs : List ℕ) → Among p cs → suc (length (without p cs)) ≡ length cs
unfolding without
without_length p [] m = elim m [ ]
without_length p (c ∷ cs) here = ap (λ (b : Bool). suc (length (cond b cs (c ∷ without c cs)))) (eq-eqb c c refl)
without_length p (c ∷ cs) (there m) = go (eqb p c) (without_length p cs m)
  where
    go : (b : Bool) → suc (length (without p cs)) ≡ length cs → suc (length (cond b cs (c ∷ without p cs))) ≡ suc (length cs)
    go true rest = refl
    go false rest = ap suc rest

without_keeps : (p q : ℕ) (cs : List ℕ) → (p ≡ q → ⊥) → Among q cs → Among q (without p cs)
unfolding without
without_keeps p q [] apart m = elim m [ ]
without_keeps p q (c ∷ cs) apart m = go (eqb p c) refl (among_cons m) (λ n. without_keeps p q cs apart n)
  where
    go : (b : Bool) → eqb p c ≡ b → (q ≡ c) ⊎ Among q cs → (Among q cs → Among q (without p cs)) → Among q (cond b cs (c ∷ without p cs))
    go true e (inl same) rest = absurd (apart (eqb-true p c e ∙ sym same))
    go true e (inr n) rest = n
    go false e (inl same) rest = among_same same
    go false e (inr n) rest = there (rest n)

pub no_more : (least : ℕ) (places cs : List ℕ) → Rising least places → ((p : ℕ) → Among p places → Among p cs) → length places ≤ length cs
no_more least [] cs rises among = omega arith
no_more least (p ∷ places) cs rises among =
    omega (
      arith,
      without_length p cs (among p here),
      no_more (suc p) places (without p cs) rises.1
          (λ q m. without_keeps p q cs (λ same. omega (arith, same, rising_above (suc p) places rises.1 m)) (among q (there m))),
    )

-- ---- the damage itself

unequal : (n m : ℕ) → n < 2 → m < 2 → (n ≡ m → ⊥) → xor (eqb n 1) (eqb m 1) ≡ true
unfolding xor
unequal n m few less apart = go (eqb n 1) (eqb m 1) refl refl
  where
    go : (a b : Bool) → eqb n 1 ≡ a → eqb m 1 ≡ b → xor a b ≡ true
    go true false p q = refl
    go false true p q = refl
    go true true p q = absurd (apart (eqb-true n 1 p ∙ sym (eqb-true m 1 q)))
    go false false p q = absurd (apart (omega (arith, eqb-false n 1 p, eqb-false m 1 q)))

no_xor : (a : Bool) → xor a a ≡ true → ⊥
unfolding xor
no_xor true e = false≢true e
no_xor false e = false≢true e

module _ (sent received : List ℕ) (same_length : length received ≡ length sent) where
  bits : (k : ℕ) → k < 8 * length sent
      → xor (get_or (wire sent) k false) (get_or (wire received) k false) ≡ xor (eqb (bit sent k) 1) (eqb (bit received k) 1)
  bits k less =
      ap₂ xor (wire_bit sent k less) (wire_bit received k (omega (arith, same_length)))

  place_changed : (p : ℕ) → Among p (changed sent received) → Changed sent received p
  unfolding changed
  place_changed p m =
      let found = differs_at 0 (wire sent) (wire received) m in
      let k = found.0 in
      let same : p ≡ k = omega (arith, found.1) in
      let less : k < 8 * length sent = omega (arith, found.2, wire_length sent) in (
        omega (arith, same, less),
        λ equal. no_xor (eqb (bit received k) 1)
            (subst (λ (n : ℕ). xor (eqb n 1) (eqb (bit received k) 1) ≡ true)
            (ap (bit sent) (sym same) ∙ equal ∙ ap (bit received) same) (sym (bits k less) ∙ found.3)),
      )

  changed_place : (k : ℕ) → Changed sent received k → Among k (changed sent received)
  unfolding changed
  changed_place k is =
      let less = is.0 in
      subst (λ (n : ℕ). Among n (changed sent received)) (zero-add k)
      (at_differs 0 (wire sent) (wire received) k (omega (arith, wire_length sent)) (omega (arith, wire_length received, same_length))
      (bits k less ∙ unequal (bit sent k) (bit received k) (omega arith) (omega arith) is.1))

-- ---- .. in plain numbers, and so as the law has it

all_within_lem : (first : ℕ) (places : List ℕ) → ((p : ℕ) → Among p places → (first ≤ p) × (p < first + 16)) → all_within first places
unfolding all_within
all_within_lem first [] each = tt
all_within_lem first (p ∷ places) each = ((each p here).0, (each p here).1, all_within_lem first places (λ q m. each q (there m)))

some_place : (places : List ℕ) {p : ℕ} → Among p places → 1 ≤ length places
some_place [] m = elim m [ ]
some_place (p ∷ places) m = omega arith

module _ (sent received : List ℕ) (damage : Damage sent received) where
  few_or_run_lem : (length (changed sent received) ≤ 3) ⊎ WithinOneRun (changed sent received)
  unfolding changed WithinOneRun
  few_or_run_lem = go damage.few_or_one_run
    where
      go : ((a b c : ℕ) × ((k : ℕ) → Changed sent received k → (k ≡ a) ⊎ (k ≡ b) ⊎ (k ≡ c)))
          ⊎ ((first : ℕ) × ((k : ℕ) → Changed sent received k → (first ≤ k) × (k < first + 16)))
          → (length (changed sent received) ≤ 3) ⊎ WithinOneRun (changed sent received)
      go (inl (a, b, c, only)) =
          inl (no_more 0 (changed sent received) (a ∷ b ∷ c ∷ []) (differing_rises 0 (wire sent) (wire received))
          (λ p m. one_of_lem p (only p (place_changed sent received damage.same_length p m))))
        where
          one_of_lem : (p : ℕ) → (p ≡ a) ⊎ (p ≡ b) ⊎ (p ≡ c) → Among p (a ∷ b ∷ c ∷ [])
          one_of_lem p (inl e) = among_same e
          one_of_lem p (inr (inl e)) = there (among_same e)
          one_of_lem p (inr (inr e)) = there (there (among_same e))
      go (inr (first, only)) =
          inr (first, all_within_lem first (changed sent received) (λ p m. only p (place_changed sent received damage.same_length p m)))

  pub damage_so : Sent sent → Bytes received → Damaged sent received
  damage_so is small =
      record {
        sent_bytes = are_bytes_lem sent is.bytes;
        received_bytes = are_bytes_lem received small;
        same_length = damage.same_length;
        at_least_one = some_place (changed sent received)
            (changed_place sent received damage.same_length damage.at_least_one.0 damage.at_least_one.1);
        few_or_one_run = few_or_run_lem;
      }

-- ---- .. as the law has it, and so in plain numbers

first_place_lem : (places : List ℕ) → 1 ≤ length places → (p : ℕ) × Among p places
first_place_lem [] some = absurd (omega arith)
first_place_lem (p ∷ places) some = (p, here)

one_of_three : (places : List ℕ) → length places ≤ 3 → {k : ℕ} → Among k places
    → (k ≡ get_or places 0 0) ⊎ (k ≡ get_or places 1 0) ⊎ (k ≡ get_or places 2 0)
one_of_three [] few m = elim m [ ]
one_of_three (a ∷ []) few (there m) = elim m [ ]
one_of_three (a ∷ b ∷ []) few (there (there m)) = elim m [ ]
one_of_three (a ∷ b ∷ c ∷ []) few (there (there (there m))) = elim m [ ]
one_of_three (a ∷ places) few here = inl refl
one_of_three (a ∷ b ∷ places) few (there here) = inr (inl refl)
one_of_three (a ∷ b ∷ c ∷ places) few (there (there here)) = inr (inr refl)
one_of_three (a ∷ b ∷ c ∷ d ∷ places) few (there (there (there m))) = absurd (omega arith)

in_run_lem : (first : ℕ) (places : List ℕ) → all_within first places → {k : ℕ} → Among k places → (first ≤ k) × (k < first + 16)
unfolding all_within
in_run_lem first [] within m = elim m [ ]
in_run_lem first (p ∷ places) within here = (within.0, within.1)
in_run_lem first (p ∷ places) within (there m) = in_run_lem first places within.2 m

pub so_damage : {sent received : List ℕ} → Damaged sent received → Damage sent received
unfolding WithinOneRun
so_damage {sent} {received} damaged =
    record {
      same_length = damaged.same_length;
      at_least_one =
          let found = first_place_lem (changed sent received) damaged.at_least_one in
          (found.0, place_changed sent received damaged.same_length found.0 found.1);
      few_or_one_run = go damaged.few_or_one_run;
    }
  where
    among : (k : ℕ) → Changed sent received k → Among k (changed sent received)
    among = changed_place sent received damaged.same_length

    go : (length (changed sent received) ≤ 3) ⊎ WithinOneRun (changed sent received)
        → ((a b c : ℕ) × ((k : ℕ) → Changed sent received k → (k ≡ a) ⊎ (k ≡ b) ⊎ (k ≡ c)))
        ⊎ ((first : ℕ) × ((k : ℕ) → Changed sent received k → (first ≤ k) × (k < first + 16)))
    go (inl few) =
        inl (
          get_or (changed sent received) 0 0,
          get_or (changed sent received) 1 0,
          get_or (changed sent received) 2 0,
          λ k is. one_of_three (changed sent received) few (among k is),
        )
    go (inr (first, within)) = inr (first, λ k is. in_run_lem first (changed sent received) within (among k is))

-- ---- a frame so sent passes, and what arrives of it damaged does not

pub sent_passes : {frame : List ℕ} → Sent frame → passes frame ≡ true
sent_passes {frame} is =
    let whole = length-append is.body (value_of is.body % 256 ∷ value_of is.body / 256 ∷ []) in
    let long : length frame ≡ length is.body + 2 = ap length is.its_check ∙ whole in
    ap passes is.its_check ∙ closed_passes is.body (omega (arith, is.least, long)) (omega (arith, is.most, long))

pub damaged_fails : (sent received : List ℕ) → Sent sent → Bytes received → Damage sent received → passes received ≡ false
damaged_fails sent received is small damage = damage_caught sent received (sent_passes is) (damage_so sent received damage is small)
