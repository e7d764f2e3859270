-- What becomes of a judged frame, from what was laid and what was stored. Assumes nothing.
use mathlib.Core.Path.{◌≡◌, refl, sym, ap, ap₂, ◌∙◌}
use mathlib.Core.Bool.{true}
use mathlib.Core.List.{List, [], ◌∷◌, map}
use mathlib.Core.Logic.{◌⊎◌, inl, inr}
use Prim.Native.Nat.{ℕ, ◌+◌, ◌-◌}
use native.Mathlib.Omega.{arith}
use lib.ListN.{length}
use borrow.Author.Rules.{rules}
use borrow.Author.Tests.{eq-eqb, ne_eqb}
use denote.Enum.Declared.{tag_of}
use types.Run.{OneOf, miss}
use Rattle.std.specs.Prelude.{Ok}
use Rattle.lists.specs.Lists.{up_from}
use Rattle.range.specs.declared.Side.{Side}
use Rattle.bank_rules.specs.Stores.{stored}
use Rattle.bank_rules.specs.Bank.{rate_of}
use Rattle.bank_rules.specs.Calls.{Lent}
use Rattle.frame.proofs.Reading.{write_echo, check_length}
use Rattle.frame.specs.Reply.{echo, error_reply, with_check, laid, has_room, Filled, fill, lay_reply}
use Rattle.meter_rules.specs.declared.Judged.{Judged}
use Rattle.meter_rules.specs.declared.Judged.TheVariants.{FailsCheck, OtherStation, FunctionNotAllowed, WrongLength, WrongCount, WrongAddress, WrongValue, BadItem, GoodRead, GoodRecord, GoodClear, GoodWrite}
use Rattle.meter_rules.specs.contracts.Judged.{the_type}
use Rattle.meter_rules.specs.Write.{run_store, run_stores}
use Rattle.meter_rules.specs.Reply.{error_code, good_reply, reply_to, stores_of}
use Rattle.meter_rules.specs.Answer.{outcome, answered_by, acted_on}
use Rattle.meter.specs.Acting.{replied}
use Rattle.meter_rules.proofs.Outcomes.{quiet, quiet_stores, good_reply_lem, error_reply_lem}
use Rattle.meter_rules.specs.declared.Answered.{Answered}
use Rattle.meter_rules.specs.declared.Answered.TheVariants.{Reply, Error, Silence}

-- ---- the reply that is laid

module _ (judged : Judged) (bank ring frame buffer : List ℕ) (rate : ℕ) (room : has_room (reply_to judged bank ring frame) buffer ≡ true) {code : ℕ}
    (coded : code ≡ error_code judged) {n : ℕ} {after : List ℕ} where
  -- a reply that has room is laid as it is, and then answered by its length
  lies : {reply : List ℕ} → reply_to judged bank ring frame ≡ reply → fill n after ≡ lay_reply reply buffer
      → (n ≡ length (reply_to judged bank ring frame)) × (after ≡ laid (reply_to judged bank ring frame) buffer)
  unfolding lay_reply
  lies is made =
      let reply : List ℕ = reply_to judged bank ring frame in
      let there : fill n after ≡ lay_reply reply buffer = made ∙ ap (λ (l : List ℕ). lay_reply l buffer) (sym is) in
      let whole : fill n after ≡ fill (length reply) (laid reply buffer) = simp room at there in
      (ap (λ (f : Filled). f.length) whole, ap (λ (f : Filled). f.buffer) whole)

  answers : {answered : Answered} {reply : List ℕ} → reply_to judged bank ring frame ≡ reply → fill n after ≡ lay_reply reply buffer
      → answered ≡ answered_by code (length reply) rate → outcome (Ok answered) bank after ≡ replied judged rate bank ring frame buffer
  unfolding replied
  answers {answered} {reply} is made told =
      ap₂ (λ (a : Answered) (b : List ℕ). outcome (Ok a) bank b)
      (told ∙ ap₂ (λ (k : ℕ) (l : List ℕ). answered_by k (length l) rate) coded (sym is)) (lies is made).1

  pub answers_error : (code ≡ 0 → ⊥) → fill n after ≡ lay_reply (with_check (error_reply frame code)) buffer
      → outcome (Ok (Error code rate)) bank after ≡ replied judged rate bank ring frame buffer
  answers_error some made =
      answers (error_reply_lem judged bank ring frame (λ e. some (coded ∙ e)) ∙ ap (λ (k : ℕ). with_check (error_reply frame k)) (sym coded)) made
      (simp (ne_eqb code 0 some))

  -- a good frame, whose reply is some bytes and their check
  pub answers_good : {told : Judged} (bytes : List ℕ) → code ≡ 0 → judged ≡ told → good_reply told bank ring frame ≡ with_check bytes
      → fill n after ≡ lay_reply (with_check bytes) buffer → outcome (Ok (Reply n rate)) bank after ≡ replied judged rate bank ring frame buffer
  answers_good bytes none is reply made =
      let whole = good_reply_lem judged bank ring frame (sym coded ∙ none) ∙ ap (λ (j : Judged). good_reply j bank ring frame) is ∙ reply in
      let long : n ≡ length (with_check bytes) = (lies whole made).0 ∙ ap length whole in
      answers whole made
      (ap (λ (m : ℕ). Reply m rate) long ∙ simp (eq-eqb code 0 none, ne_eqb (length (with_check bytes)) 0 (λ e. omega (arith, check_length bytes))))

-- a frame that is met with silence
pub answers_none : (judged : Judged) (bank ring frame buffer : List ℕ) (rate : ℕ) {code : ℕ} → code ≡ error_code judged → code ≡ 0
    → good_reply judged bank ring frame ≡ [] → outcome (Ok Silence) bank buffer ≡ replied judged rate bank ring frame buffer
unfolding replied
answers_none judged bank ring frame buffer rate coded none silent =
    ap₂ (λ (k : ℕ) (l : List ℕ). outcome (Ok (answered_by k (length l) rate)) bank (laid l buffer)) (sym none ∙ coded)
    (sym (good_reply_lem judged bank ring frame (sym coded ∙ none) ∙ silent))

-- the tag of a judgement that no arm for a good frame takes
pub rest_silent : (judged : Judged) → ((first many : ℕ) → judged ≡ GoodRead first many → ⊥) → ((first many : ℕ) → judged ≡ GoodRecord first many → ⊥)
    → (judged ≡ GoodClear → ⊥) → ((first many : ℕ) → judged ≡ GoodWrite first many → ⊥)
    → OneOf (0 ∷ 1 ∷ 2 ∷ 3 ∷ 4 ∷ 5 ∷ 6 ∷ 7 ∷ []) (tag_of the_type judged)
rest_silent FailsCheck read record_read clear write = search rules
rest_silent OtherStation read record_read clear write = search rules
rest_silent FunctionNotAllowed read record_read clear write = search rules
rest_silent WrongLength read record_read clear write = search rules
rest_silent WrongCount read record_read clear write = search rules
rest_silent WrongAddress read record_read clear write = search rules
rest_silent WrongValue read record_read clear write = search rules
rest_silent (BadItem first stop side) read record_read clear write = search rules
rest_silent (GoodRead first many) read record_read clear write = absurd (read first many refl)
rest_silent (GoodRecord first many) read record_read clear write = absurd (record_read first many refl)
rest_silent GoodClear read record_read clear write = absurd (clear refl)
rest_silent (GoodWrite first many) read record_read clear write = absurd (write first many refl)

-- a judgement that is not good has no reply but an error's
pub no_good_reply : (judged : Judged) (bank ring frame : List ℕ)
    → OneOf (0 ∷ 1 ∷ 2 ∷ 3 ∷ 4 ∷ 5 ∷ 6 ∷ 7 ∷ []) (tag_of the_type judged) → good_reply judged bank ring frame ≡ []
no_good_reply FailsCheck bank ring frame k = refl
no_good_reply OtherStation bank ring frame k = refl
no_good_reply FunctionNotAllowed bank ring frame k = refl
no_good_reply WrongLength bank ring frame k = refl
no_good_reply WrongCount bank ring frame k = refl
no_good_reply WrongAddress bank ring frame k = refl
no_good_reply WrongValue bank ring frame k = refl
no_good_reply (BadItem first stop side) bank ring frame k = refl
no_good_reply (GoodRead first many) bank ring frame k = absurd (miss (0 ∷ 1 ∷ 2 ∷ 3 ∷ 4 ∷ 5 ∷ 6 ∷ 7 ∷ []) 8 tt k)
no_good_reply (GoodRecord first many) bank ring frame k = absurd (miss (0 ∷ 1 ∷ 2 ∷ 3 ∷ 4 ∷ 5 ∷ 6 ∷ 7 ∷ []) 9 tt k)
no_good_reply GoodClear bank ring frame k = absurd (miss (0 ∷ 1 ∷ 2 ∷ 3 ∷ 4 ∷ 5 ∷ 6 ∷ 7 ∷ []) 10 tt k)
no_good_reply (GoodWrite first many) bank ring frame k = absurd (miss (0 ∷ 1 ∷ 2 ∷ 3 ∷ 4 ∷ 5 ∷ 6 ∷ 7 ∷ []) 11 tt k)

-- the tag of a judgement that is a good clear or a good write
pub echo_told : (judged : Judged) → (judged ≡ GoodClear) ⊎ ((first : ℕ) × (many : ℕ) × (judged ≡ GoodWrite first many))
    → OneOf (10 ∷ 11 ∷ []) (tag_of the_type judged)
echo_told judged (inl clear) = rw clear (search rules)
echo_told judged (inr write) = rw write.2 (search rules)

-- a good clear and a good write are answered by the frame's first six bytes
pub echo_reply : (judged : Judged) (bank ring frame : List ℕ) → OneOf (10 ∷ 11 ∷ []) (tag_of the_type judged)
    → good_reply judged bank ring frame ≡ with_check (echo frame)
echo_reply FailsCheck bank ring frame k = absurd (miss (10 ∷ 11 ∷ []) 0 tt k)
echo_reply OtherStation bank ring frame k = absurd (miss (10 ∷ 11 ∷ []) 1 tt k)
echo_reply FunctionNotAllowed bank ring frame k = absurd (miss (10 ∷ 11 ∷ []) 2 tt k)
echo_reply WrongLength bank ring frame k = absurd (miss (10 ∷ 11 ∷ []) 3 tt k)
echo_reply WrongCount bank ring frame k = absurd (miss (10 ∷ 11 ∷ []) 4 tt k)
echo_reply WrongAddress bank ring frame k = absurd (miss (10 ∷ 11 ∷ []) 5 tt k)
echo_reply WrongValue bank ring frame k = absurd (miss (10 ∷ 11 ∷ []) 6 tt k)
echo_reply (BadItem first stop side) bank ring frame k = absurd (miss (10 ∷ 11 ∷ []) 7 tt k)
echo_reply (GoodRead first many) bank ring frame k = absurd (miss (10 ∷ 11 ∷ []) 8 tt k)
echo_reply (GoodRecord first many) bank ring frame k = absurd (miss (10 ∷ 11 ∷ []) 9 tt k)
echo_reply GoodClear bank ring frame k = refl
echo_reply (GoodWrite first many) bank ring frame k = ap with_check (sym (write_echo frame))

-- no reply is of a word that the frame stored
pub reply_before : (judged : Judged) (given : Lent) (frame : List ℕ)
    → reply_to judged (stored given.bank (stores_of judged given.sheet frame)) given.ring frame ≡ reply_to judged given.bank given.ring frame
unfolding reply_to stores_of stored
reply_before FailsCheck given frame = refl
reply_before OtherStation given frame = refl
reply_before FunctionNotAllowed given frame = refl
reply_before WrongLength given frame = refl
reply_before WrongCount given frame = refl
reply_before WrongAddress given frame = refl
reply_before WrongValue given frame = refl
reply_before (BadItem first stop side) given frame = refl
reply_before (GoodRead first many) given frame = refl
reply_before (GoodRecord first many) given frame = refl
reply_before GoodClear given frame = refl
reply_before (GoodWrite first many) given frame = refl

-- ---- the stores

-- the tag of a judgement that no arm with stores takes
pub rest_storeless : (judged : Judged) → ((first stop : ℕ) (side : Side) → judged ≡ BadItem first stop side → ⊥) → (judged ≡ GoodClear → ⊥)
    → ((first many : ℕ) → judged ≡ GoodWrite first many → ⊥) → OneOf (0 ∷ 1 ∷ 2 ∷ 3 ∷ 4 ∷ 5 ∷ 6 ∷ 8 ∷ 9 ∷ []) (tag_of the_type judged)
rest_storeless FailsCheck bad clear write = search rules
rest_storeless OtherStation bad clear write = search rules
rest_storeless FunctionNotAllowed bad clear write = search rules
rest_storeless WrongLength bad clear write = search rules
rest_storeless WrongCount bad clear write = search rules
rest_storeless WrongAddress bad clear write = search rules
rest_storeless WrongValue bad clear write = search rules
rest_storeless (BadItem first stop side) bad clear write = absurd (bad first stop side refl)
rest_storeless (GoodRead first many) bad clear write = search rules
rest_storeless (GoodRecord first many) bad clear write = search rules
rest_storeless GoodClear bad clear write = absurd (clear refl)
rest_storeless (GoodWrite first many) bad clear write = absurd (write first many refl)

-- a judgement is a write with a bad item, a good clear or a good write, or stores nothing
pub no_stores : (judged : Judged) → OneOf (0 ∷ 1 ∷ 2 ∷ 3 ∷ 4 ∷ 5 ∷ 6 ∷ 8 ∷ 9 ∷ []) (tag_of the_type judged) → quiet judged ≡ true
no_stores FailsCheck k = refl
no_stores OtherStation k = refl
no_stores FunctionNotAllowed k = refl
no_stores WrongLength k = refl
no_stores WrongCount k = refl
no_stores WrongAddress k = refl
no_stores WrongValue k = refl
no_stores (BadItem first stop side) k = absurd (miss (0 ∷ 1 ∷ 2 ∷ 3 ∷ 4 ∷ 5 ∷ 6 ∷ 8 ∷ 9 ∷ []) 7 tt k)
no_stores (GoodRead first many) k = refl
no_stores (GoodRecord first many) k = refl
no_stores GoodClear k = absurd (miss (0 ∷ 1 ∷ 2 ∷ 3 ∷ 4 ∷ 5 ∷ 6 ∷ 8 ∷ 9 ∷ []) 10 tt k)
no_stores (GoodWrite first many) k = absurd (miss (0 ∷ 1 ∷ 2 ∷ 3 ∷ 4 ∷ 5 ∷ 6 ∷ 8 ∷ 9 ∷ []) 11 tt k)

module _ (judged : Judged) (given : Lent) (frame : List ℕ) where
  pub stored_by : {told : Judged} {left : List ℕ} → judged ≡ told → left ≡ stored given.bank (stores_of told given.sheet frame)
      → left ≡ stored given.bank (stores_of judged given.sheet frame)
  stored_by is made = made ∙ ap (λ (j : Judged). stored given.bank (stores_of j given.sheet frame)) (sym is)

  pub nothing_stored : quiet judged ≡ true → given.bank ≡ stored given.bank (stores_of judged given.sheet frame)
  unfolding stored
  nothing_stored silent = ap (stored given.bank) (sym (quiet_stores judged given.sheet frame silent))

-- the stores of a run up to a stop, by their number
pub run_stores_lem : (frame : List ℕ) (first stop count : ℕ) → count ≡ stop - first
    → map (run_store frame first) (up_from 0 count) ≡ run_stores frame first stop
unfolding run_stores
run_stores_lem frame first stop count e = ap (λ (n : ℕ). map (run_store frame first) (up_from 0 n)) e

pub many_stores : (frame : List ℕ) (first many : ℕ) → map (run_store frame first) (up_from 0 many) ≡ run_stores frame first (first + many)
many_stores frame first many = run_stores_lem frame first (first + many) many (omega arith)

-- ---- both

module _ (judged : Judged) (given : Lent) (frame buffer : List ℕ) {made : List ℕ} (stores : made ≡ stored given.bank (stores_of judged given.sheet frame)) where
  reply_same : reply_to judged made given.ring frame ≡ reply_to judged given.bank given.ring frame
  reply_same = ap (λ (b : List ℕ). reply_to judged b given.ring frame) stores ∙ reply_before judged given frame

  pub room_same : has_room (reply_to judged given.bank given.ring frame) buffer ≡ true → has_room (reply_to judged made given.ring frame) buffer ≡ true
  room_same room = ap (λ (reply : List ℕ). has_room reply buffer) reply_same ∙ room

  pub acts : {answered : Answered} {after : List ℕ} {rate : ℕ} → rate ≡ rate_of given.sheet given.bank
      → outcome (Ok answered) made after ≡ replied judged rate made given.ring frame buffer → outcome (Ok answered) made after ≡ acted_on judged given frame buffer
  unfolding acted_on replied
  acts {answered} {after} {rate} rated answers =
      answers
      ∙ ap₂ (λ (reply b : List ℕ). outcome (Ok (answered_by (error_code judged) (length reply) rate)) b (laid reply buffer)) reply_same stores
      ∙ ap (λ (r : ℕ). outcome (Ok (answered_by (error_code judged) (length (reply_to judged given.bank given.ring frame)) r)) (stored given.bank (stores_of judged given.sheet frame))
      (laid (reply_to judged given.bank given.ring frame) buffer)) rated
