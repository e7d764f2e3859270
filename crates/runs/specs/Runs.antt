-- What a promise of the door comes to on the kit's model machine: what is handed to a call, but for numbers, lies in its memory, and from every
-- such memory the call ends, hands back and leaves what is promised, and touches nothing else. (`Satisfies` is the kit's: the memory is σ, and the
-- assertion holds beside it. `sep` says that two things lie apart.) Definitions alone.
use Rattle.std.specs.Prelude.{◌≡◌, List, [], ◌∷◌, ℕ, ◌<◌, ◌^◌, length}
use seplogic.Ra.Ura.{Ura}
use base.Fraction.{full_share}
use mir.Syntax.{Width, w8, w32, ty_int}
use mir.Val.{Val, vint, vptr, bits}
use base.Logic.{SProp, sep, emp}
use prog.Memory.{Memory}
use prog.Wp.{Heap, run}
use prog.Model.{Model}
use contract.Adequate.{Satisfies}
use denote.Slice.{slice_val}
use prog.Machine.{done as ended}
use prog.Routine.{Callee, Env, step}
use prog.Wired.{Code, Wired}

-- a block of memory, and an offset in it
abbrev pub Place : Type 0
Place = ℕ × ℕ

-- lent, at a place: bytes to be read, bytes to be written, and a number of 32 bits to be written
pub data Borrowed : Type 0 where
  to_read : Place → List ℕ → Borrowed
  to_write : Place → List ℕ → Borrowed
  to_count : Place → ℕ → Borrowed

-- a number passed, or something lent
pub data Arg : Type 0 where
  passes : Width → ℕ → Arg
  lends : Borrowed → Arg

-- the value that the machine is given of what is lent: a pointer, with the length of bytes
abbrev pub pointer_to : Borrowed → Val
pointer_to (to_read at bytes) = slice_val at (length bytes)
pointer_to (to_write at bytes) = slice_val at (length bytes)
pointer_to (to_count at n) = vptr at.0 at.1

abbrev pub values_of : List Arg → List Val
values_of [] = []
values_of (passes w n ∷ args) = vint w n ∷ values_of args
values_of (lends borrowed ∷ args) = pointer_to borrowed ∷ values_of args

-- bytes that are lent fit an address space, and a number its width
abbrev pub BorrowedFits : Borrowed → Type 0
BorrowedFits (to_read at bytes) = length bytes < 2 ^ 63
BorrowedFits (to_write at bytes) = length bytes < 2 ^ 63
BorrowedFits (to_count at n) = Unit {0}

abbrev pub Fit : List Arg → Type 0
Fit [] = Unit {0}
Fit (passes w n ∷ args) = (n < 2 ^ bits w) × Fit args
Fit (lends borrowed ∷ args) = BorrowedFits borrowed × Fit args

-- what a call leaves of it: nothing new of what it cannot change
abbrev pub Last : Borrowed → Type 0
Last (to_read at bytes) = Unit {0}
Last (to_write at bytes) = List ℕ
Last (to_count at n) = ℕ

abbrev pub Lasts : List Arg → Type 0
Lasts [] = Unit {0}
Lasts (passes w n ∷ args) = Unit {0} × Lasts args
Lasts (lends borrowed ∷ args) = Last borrowed × Lasts args

abbrev pub borrowed_after : (borrowed : Borrowed) → Last borrowed → Borrowed
borrowed_after (to_read at bytes) last = to_read at bytes
borrowed_after (to_write at bytes) last = to_write at last
borrowed_after (to_count at n) last = to_count at last

abbrev pub after : (args : List Arg) → Lasts args → List Arg
after [] lasts = []
after (passes w n ∷ args) lasts = passes w n ∷ after args lasts.1
after (lends borrowed ∷ args) lasts = lends (borrowed_after borrowed lasts.0) ∷ after args lasts.1

-- a call: the function's code with that of all that it calls, its name, what is handed to it, the width of the number that it hands back, and what is
-- promised of that number and of what is left
pub record Call : Type 1 where
  pub code : Code
  pub name : Callee
  pub args : List Arg
  pub width : Width
  pub promise : ℕ → Lasts args → Type 0

-- the same call, made of an export: its code and its name are the export's
abbrev pub exported : Code → Callee → Call → Call
exported code name call = record call { code = code; name = name }

module _ {M : Type 1} (𝓤 : Ura M) (H : Heap 𝓤) where
  -- ---- what is lent lies in a memory, apart

  abbrev pub borrowed_lies : Borrowed → SProp 𝓤
  borrowed_lies (to_read at bytes) = run 𝓤 H full_share w8 at.0 at.1 bytes
  borrowed_lies (to_write at bytes) = run 𝓤 H full_share w8 at.0 at.1 bytes
  borrowed_lies (to_count at n) = H.at full_share (ty_int w32) at.0 at.1 (vint w32 n)

  abbrev pub Lie : List Arg → SProp 𝓤
  Lie [] = emp 𝓤
  Lie (passes w n ∷ args) = Lie args
  Lie (lends borrowed ∷ args) = sep 𝓤 (borrowed_lies borrowed) (Lie args)

  -- γ says what the machine does at each name
  module _ (𝓜 : Model 𝓤 H) (γ : Env) (call : Call) where
    -- a run of the function that returns: the number and what is left are as promised, and what is left lies in the memory afterwards, beside what
    -- else lay there before
    pub record Returned (σ : Memory) (F : SProp 𝓤) : Type 1 where
      pub fuel : ℕ
      pub number : ℕ
      pub left : Lasts call.args
      pub memory : Memory
      pub runs : step (γ call.name) fuel (values_of call.args) σ ≡ ended (vint call.width number, memory)
      pub promised : call.promise number left
      pub lies : Satisfies 𝓤 H 𝓜 memory (sep 𝓤 (Lie (after call.args left)) F)

    -- rule D13, where the names mean the function's code, every call returns, from every memory in which what is handed over lies, beside anything else
    abbrev pub Returns : Type 2
    Returns = Wired γ call.code → (σ : Memory) (F : SProp 𝓤) → Fit call.args → Satisfies 𝓤 H 𝓜 σ (sep 𝓤 (Lie call.args) F) → ∥ Returned σ F ∥₁
