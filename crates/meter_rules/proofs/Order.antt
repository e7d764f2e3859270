-- The order of judgement, step by step: a step that holds stops the frame, and one that does not hands it on; and what each step comes to
-- for each function. Assumes nothing.
use mathlib.Core.Path.{◌≡◌, refl, sym, ap, ap₂, ◌∙◌}
use mathlib.Core.Bool.{Bool, true, false, not, cond, ◌&&◌, ◌||◌, or-false}
use mathlib.Core.List.{List, [], ◌∷◌}
use Prim.Native.Nat.{ℕ}
use lib.Dec.{ltb, eqb}
use borrow.Author.Tests.{ne_eqb, eqb-true}
use Rattle.sheet_rules.specs.Rows.{clear_address}
use Rattle.sheet_rules.specs.Rules.{allowed, bit_of03, bit_of05, bit_of06, bit_of10}
use Rattle.bank_rules.specs.Calls.{Lent}
use Rattle.lists.specs.Cases.{Case, first_case}
use Rattle.sheet_rules.specs.declared.Purpose.TheVariants.{Read, Write}
use Rattle.frame.specs.Frame.{reads, clears, writes_one, writes_many, function, start, second, is_write, count, run, most_read}
use Rattle.meter_rules.specs.Steps.{code_allowed, starts_in_records, beyond_stored, wrong_read, wrong_address, wrong_value, bad_write}
use Rattle.sheet_rules.specs.Runs.{all_open}
use Rattle.meter_rules.specs.Write.{some_bad}

module _ {A : Type 0} (this : Case A) (behind : List (Case A)) (good : A) where
  pub step_stops : this.holds ≡ true → first_case (this ∷ behind) good ≡ this.outcome
  unfolding first_case
  step_stops e = ap (λ (b : Bool). cond b this.outcome (first_case behind good)) e

  pub step_passes : this.holds ≡ false → first_case (this ∷ behind) good ≡ first_case behind good
  unfolding first_case
  step_passes e = ap (λ (b : Bool). cond b this.outcome (first_case behind good)) e

pub step_none : {A : Type 0} (good : A) → first_case [] good ≡ good
unfolding first_case
step_none good = refl

-- which of the four functions a frame has, as the tests say it
pub record Asks (frame : List ℕ) (read clear one many : Bool) : Type 0 where
  pub is_read : eqb (function frame) reads ≡ read
  pub is_clear : eqb (function frame) clears ≡ clear
  pub is_one : eqb (function frame) writes_one ≡ one
  pub is_many : eqb (function frame) writes_many ≡ many

pub asks_for : (frame : List ℕ) (code : ℕ) → function frame ≡ code
    → Asks frame (eqb code reads) (eqb code clears) (eqb code writes_one) (eqb code writes_many)
asks_for frame code e =
    record {
      is_read = ap (λ (n : ℕ). eqb n reads) e;
      is_clear = ap (λ (n : ℕ). eqb n clears) e;
      is_one = ap (λ (n : ℕ). eqb n writes_one) e;
      is_many = ap (λ (n : ℕ). eqb n writes_many) e;
    }

-- a function that is allowed and is none of the first three is 10
pub last_function : (sheet : List ℕ) (code : ℕ) → code_allowed sheet code ≡ true → (code ≡ reads → ⊥) → (code ≡ clears → ⊥)
    → (code ≡ writes_one → ⊥) → code ≡ writes_many
last_function sheet code permitted read clear one =
    eqb-true code writes_many
    (go (eqb code writes_many)
    (sym (ap₂ (λ (r c : Bool). r && bit bit_of03 || c && bit bit_of05 || eqb code writes_one && bit bit_of06 || eqb code writes_many && bit bit_of10)
    (ne_eqb code reads read) (ne_eqb code clears clear)
    ∙ ap (λ (o : Bool). o && bit bit_of06 || eqb code writes_many && bit bit_of10) (ne_eqb code writes_one one))
    ∙ permitted))
  where
    bit : ℕ → Bool
    bit = allowed sheet

    go : (m : Bool) → (m && bit bit_of10) ≡ true → m ≡ true
    go true e = refl
    go false e = e

-- what each step comes to, once it is known which function a frame has
module _ (frame : List ℕ) {read clear one many : Bool} (asks : Asks frame read clear one many) where
  pub write_is : is_write frame ≡ (one || many)
  write_is = ap₂ (λ (o m : Bool). o || m) asks.is_one asks.is_many

  pub many_is : count frame ≡ cond one 1 (second frame)
  many_is = ap (λ (b : Bool). cond b 1 (second frame)) asks.is_one

  pub address_is : (given : Lent) → wrong_address given frame
      ≡ (read && wrong_read given frame || (one || many) && not (all_open Write given.sheet (run frame))
      || clear && not (eqb (start frame) (clear_address given.sheet)))
  address_is given =
      ap₂ (λ (r w : Bool). r && wrong_read given frame || w && not (all_open Write given.sheet (run frame))
      || eqb (function frame) clears && not (eqb (start frame) (clear_address given.sheet))) asks.is_read write_is
      ∙ ap (λ (c : Bool). read && wrong_read given frame
      || (one || many) && not (all_open Write given.sheet (run frame)) || c && not (eqb (start frame) (clear_address given.sheet))) asks.is_clear

  pub value_is : wrong_value frame ≡ (clear && not (eqb (second frame) 0))
  value_is = ap (λ (c : Bool). c && not (eqb (second frame) 0)) asks.is_clear

  pub bad_is : (given : Lent) → bad_write given frame ≡ ((one || many) && some_bad given frame)
  bad_is given = ap (λ (w : Bool). w && some_bad given frame) write_is

-- a function that is one of the four is allowed as its bit says, and any other is not
module _ (sheet : List ℕ) {code : ℕ} where
  pub code_read : code ≡ reads → allowed sheet bit_of03 ≡ code_allowed sheet code
  code_read e =
      sym (ap (code_allowed sheet) e ∙ or-false (allowed sheet bit_of03 || false || false) ∙ or-false (allowed sheet bit_of03 || false)
      ∙ or-false (allowed sheet bit_of03))

  pub code_clear : code ≡ clears → allowed sheet bit_of05 ≡ code_allowed sheet code
  code_clear e = sym (ap (code_allowed sheet) e ∙ or-false (allowed sheet bit_of05 || false) ∙ or-false (allowed sheet bit_of05))

  pub code_one : code ≡ writes_one → allowed sheet bit_of06 ≡ code_allowed sheet code
  code_one e = sym (ap (code_allowed sheet) e ∙ or-false (allowed sheet bit_of06))

  pub code_many : code ≡ writes_many → allowed sheet bit_of10 ≡ code_allowed sheet code
  code_many e = sym (ap (code_allowed sheet) e)

pub code_none : (sheet : List ℕ) (code : ℕ) → (code ≡ reads → ⊥) → (code ≡ clears → ⊥) → (code ≡ writes_one → ⊥) → (code ≡ writes_many → ⊥)
    → code_allowed sheet code ≡ false
code_none sheet code read clear one many =
    simp (ne_eqb code reads read, ne_eqb code clears clear, ne_eqb code writes_one one, ne_eqb code writes_many many)

-- ---- by function

module _ (frame : List ℕ) where
  pub read_address : (given : Lent) → function frame ≡ reads → wrong_address given frame ≡ wrong_read given frame
  read_address given e =
      address_is frame (asks_for frame reads e) given ∙ or-false (wrong_read given frame || false) ∙ or-false (wrong_read given frame)

  -- a read of registers, and of a record
  pub registers_wrong : (given : Lent) → starts_in_records given.sheet frame ≡ false
      → wrong_read given frame ≡ (ltb most_read (second frame) || not (all_open Read given.sheet (run frame)))
  registers_wrong given outside =
      ap (λ (b : Bool). cond b (beyond_stored given frame) (ltb most_read (second frame) || not (all_open Read given.sheet (run frame)))) outside

  pub record_wrong : (given : Lent) → starts_in_records given.sheet frame ≡ true → wrong_read given frame ≡ beyond_stored given frame
  record_wrong given inside =
      ap (λ (b : Bool). cond b (beyond_stored given frame) (ltb most_read (second frame) || not (all_open Read given.sheet (run frame)))) inside

  pub clear_address_lem : (given : Lent) → function frame ≡ clears → wrong_address given frame ≡ not (eqb (start frame) (clear_address given.sheet))
  clear_address_lem given e = address_is frame (asks_for frame clears e) given

  pub clear_value : function frame ≡ clears → wrong_value frame ≡ not (eqb (second frame) 0)
  clear_value e = value_is frame (asks_for frame clears e)

  -- a write is neither a read nor a clear
  pub asks_write : is_write frame ≡ true → Asks frame false false (eqb (function frame) writes_one) (eqb (function frame) writes_many)
  asks_write e = go (eqb (function frame) writes_one) refl e
    where
      go : (one : Bool) → eqb (function frame) writes_one ≡ one → (one || eqb (function frame) writes_many) ≡ true
          → Asks frame false false (eqb (function frame) writes_one) (eqb (function frame) writes_many)
      go true o w =
          let asks = asks_for frame writes_one (eqb-true (function frame) writes_one o) in
          record { is_read = asks.is_read; is_clear = asks.is_clear; is_one = refl; is_many = refl }
      go false o w =
          let asks = asks_for frame writes_many (eqb-true (function frame) writes_many w) in
          record { is_read = asks.is_read; is_clear = asks.is_clear; is_one = refl; is_many = refl }

  module _ (write : is_write frame ≡ true) where
    pub write_address : (given : Lent) → wrong_address given frame ≡ not (all_open Write given.sheet (run frame))
    write_address given =
        address_is frame (asks_write write) given
        ∙ ap (λ (w : Bool). w && not (all_open Write given.sheet (run frame)) || false) write
        ∙ or-false (not (all_open Write given.sheet (run frame)))

    pub write_value : wrong_value frame ≡ false
    write_value = value_is frame (asks_write write)

    pub write_bad : (given : Lent) → bad_write given frame ≡ some_bad given frame
    write_bad given = ap (λ (w : Bool). w && some_bad given frame) write
