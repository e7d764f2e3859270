-- What it means that a promise determines its outcome: any two outcomes that it allows at the same arguments are one. What is compared is
-- computed from the parameters, by the kit's own `Lasts` and `at_exit`, so that no lent buffer can be left out. Assumes nothing.
use mathlib.Core.Path.{◌≡◌, ap, sym, ◌∙◌}
use mathlib.Core.List.{List}
use Prim.Native.Nat.{ℕ}
use contract.Lifetimes.{Lfts}
use denote.Triple.Clauses.{Lasts, at_exit}
use borrow.Fn.Kinds.{ParamKind, ResultKind, Out, Dens, ended_of, res_t}

module _ (n : ℕ) (ps : List (ParamKind n)) (r : ResultKind n) where
  -- what a call comes to at given arguments: the result, and a part for each parameter, which is what a `&mut` holds at exit, and nothing of
  -- one that the function cannot change
  abbrev pub ResultAndLasts : (κs : Lfts n) → Dens κs ps → Type 0
  ResultAndLasts κs a = (res_t r κs).Denot × Lasts (ended_of n ps r) κs a

  -- a contract allows it
  abbrev pub Allows : Out n ps r → (κs : Lfts n) (a : Dens κs ps) → ResultAndLasts κs a → Type 0
  Allows Post κs a o = Post κs a o.0 (at_exit (ended_of n ps r) κs a o.1)

  abbrev pub Determined : Out n ps r → Type 0
  Determined Post = (κs : Lfts n) (a : Dens κs ps) (x y : ResultAndLasts κs a) → Allows Post κs a x → Allows Post κs a y → x ≡ y

-- a promise that is one equation determines its outcome where the whole outcome can be read off the equation's side
pub read_off : {S O : Type 0} (off : S → O) {c d e : S} → c ≡ e → d ≡ e → off c ≡ off d
read_off off p q = ap off (p ∙ sym q)
