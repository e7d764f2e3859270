-- What is handed to a call is lent as the kit lends it: a lifetime is made, and what lies in memory becomes a reference and the lender's part. After
-- the call it is taken back, as the call leaves it. Assumes nothing.
use mathlib.Core.Path.{refl}
use mathlib.Core.Logic.{∥∥₁_prop, ∥∥₁_elim, ∥∥₁_map}
use mathlib.Core.List.{List, [], ◌∷◌}
use Prim.Native.Nat.{ℕ, suc, ◌+◌, ◌<◌, ◌^◌}
use seplogic.Ra.Ura.{Ura}
use base.Fraction.{full_share}
use lib.ListN.{length}
use mir.Syntax.{named, Width, w8, w32, ty_int}
use mir.Val.{vint, bits}
use base.Logic.{SProp, ent, sep, ex, emp, id⊢, via, comm∗, assoc∗, assoc', mono∗, mono_l, emp∗}
use base.Fml.{GName, Incl-refl, Fml, ftrue, fsep, feq, flft, fbor, flent, fat, fres}
use prog.Memory.{Memory}
use prog.Wp.{run}
use prog.Model.{Model}
use types.Logic.{Logic, sem}
use types.Kit.{‵, raw, ◌⊛◌, some, later, ◌$◌, ◌∵◌, !, qed, by, move, keep, use0, use1, use2, use3, split, split3, join, pick, await, updating, now as at_once, done, show, feq_i, fjoin, fsplit}
use types.Tokens.{lft_new, lft_end, lent_back}
use types.SemTy.{cells, Arr, Body}
use types.Share.{arr_parts, parts}
use contract.Lifetimes.{Lfts, Shares, toks}
use contract.Adequate.{Satisfies, sat_weaken, sat_ex∗, sat_⇛}
use denote.Builtin.{u8, u32}
use denote.Memory.{mem, shares, part_at}
use denote.Plain.{UInt, uint_in, uint_out, uint_Makes}
use denote.RattleType.{RattleType, Denots, Valss, owns}
use denote.Ref.{MutRef}
use denote.Copied.{uint_Copied}
use denote.Slice.{MutSlice, ShrSlice, Room, finally}
use denote.Lend.{lends_slice, lends_shr_slice, lends_ref, Held, slice_back, ref_back}
use native.Mathlib.Omega.{arith}
use Rattle.runs.specs.Runs.{Borrowed, to_read, to_write, to_count, Arg, passes, lends, pointer_to, BorrowedFits, Fit, Last, Lasts, borrowed_after, after, borrowed_lies, Lie}

-- ---- the kit's types of what is handed over: a lifetime and a name for each that is lent

abbrev Loan : Type 0
Loan = ℕ × GName

abbrev pub Loans : List Arg → Type 0
Loans [] = Unit {0}
Loans (passes w n ∷ args) = Loans args
Loans (lends borrowed ∷ args) = Loan × Loans args

abbrev pub lifetimes : List Arg → ℕ
lifetimes [] = 0
lifetimes (passes w n ∷ args) = lifetimes args
lifetimes (lends borrowed ∷ args) = suc (lifetimes args)

abbrev pub lifetimes_of : (args : List Arg) → Loans args → Lfts (lifetimes args)
lifetimes_of [] loans = tt
lifetimes_of (passes w n ∷ args) loans = lifetimes_of args loans
lifetimes_of (lends borrowed ∷ args) loans = (loans.0.0 ∷ [], lifetimes_of args loans.1)

abbrev pub shares_of : (args : List Arg) → Shares (lifetimes args)
shares_of [] = tt
shares_of (passes w n ∷ args) = shares_of args
shares_of (lends borrowed ∷ args) = (full_share, shares_of args)

-- the number of a reference's lifetime, and the loan
abbrev row_of : ℕ → Borrowed → Loan → RattleType
row_of j (to_read at bytes) loan = ShrSlice (named j) (loan.0 ∷ []) u8
row_of j (to_write at bytes) loan = MutSlice (named j) (loan.0 ∷ []) u8
row_of j (to_count at n) loan = MutRef (named j) (loan.0 ∷ []) u32

abbrev ref_of : (j : ℕ) (borrowed : Borrowed) (loan : Loan) → (row_of j borrowed loan).Denot
ref_of j (to_read at bytes) loan = record { ref_ptr = at; now = bytes }
ref_of j (to_write at bytes) loan = record { ref_ptr = at; ghost_name = loan.1; now = bytes }
ref_of j (to_count at n) loan = record { ref_ptr = at; ghost_name = loan.1; now = n }

abbrev pub rows_of : ℕ → (args : List Arg) → Loans args → List RattleType
rows_of j [] loans = []
rows_of j (passes w n ∷ args) loans = UInt w ∷ rows_of j args loans
rows_of j (lends borrowed ∷ args) loans = row_of j borrowed loans.0 ∷ rows_of (suc j) args loans.1

abbrev pub args_of : (j : ℕ) (args : List Arg) (loans : Loans args) → Denots (rows_of j args loans)
args_of j [] loans = tt
args_of j (passes w n ∷ args) loans = (n, args_of j args loans)
args_of j (lends borrowed ∷ args) loans = (ref_of j borrowed loans.0, args_of (suc j) args loans.1)

abbrev pub valss_of : (j : ℕ) (args : List Arg) (loans : Loans args) → Valss (rows_of j args loans)
valss_of j [] loans = tt
valss_of j (passes w n ∷ args) loans = (vint w n ∷ [], valss_of j args loans)
valss_of j (lends borrowed ∷ args) loans = (pointer_to borrowed ∷ [], valss_of (suc j) args loans.1)

-- what the lender keeps, and what the call says of what it leaves
abbrev kept_of : Borrowed → Loan → Fml
kept_of (to_read at bytes) loan = (arr_parts (shares u8) (length bytes)).part full_share bytes at.0 at.1
kept_of (to_write at bytes) loan = Held u8 (length bytes) at.0 at.1 loan.1
kept_of (to_count at n) loan = Body (mem u32) at.0 at.1 loan.1

abbrev left_of : (borrowed : Borrowed) → Loan → Last borrowed → Fml
left_of (to_read at bytes) loan last = ftrue
left_of (to_write at bytes) loan last = fsep (fsep (finally u8 loan.1 last) (feq ℕ (length last) (length bytes))) (fbor (loan.0 ∷ []) (Held u8 (length bytes) at.0 at.1 loan.1))
left_of (to_count at n) loan last = fsep (fres loan.1 (u32.coded.code last)) (fbor (loan.0 ∷ []) (Body (mem u32) at.0 at.1 loan.1))

abbrev pub lefts_of : (args : List Arg) → Loans args → Lasts args → Fml
lefts_of [] loans lasts = ftrue
lefts_of (passes w n ∷ args) loans lasts = fsep ftrue (lefts_of args loans lasts.1)
lefts_of (lends borrowed ∷ args) loans lasts = fsep (left_of borrowed loans.0 lasts.0) (lefts_of args loans.1 lasts.1)

-- bytes that fit have room
room : (n : ℕ) → n < 2 ^ 63 → Room u8 n
room n fits = (omega (arith, fits), omega (arith, fits))

module _ {M : Type 1} {𝓤 : Ura M} (𝓛 : Logic 𝓤) where
  open 𝓛 use {H}

  abbrev ◌∗◌ : SProp 𝓤 → SProp 𝓤 → SProp 𝓤
  P ∗ Q = sep 𝓤 P Q

  infixr 35 ◌∗◌
  abbrev ⟦◌⟧ : Fml → SProp 𝓤
  ⟦ P ⟧ = sem 𝓛 P

  in_cells : (b o : ℕ) (ys : List ℕ) → ent 𝓤 (run 𝓤 H full_share w8 b o ys) ⟦ cells (mem u8) ys b o ⟧
  in_cells b o [] = id⊢ 𝓤 (emp 𝓤)
  in_cells b o (y ∷ ys) = mono∗ 𝓤 (uint_in 𝓛 full_share w8 y b o) (in_cells b (o + 1) ys)

  out_cells : (b o : ℕ) (ys : List ℕ) → ent 𝓤 ⟦ cells (mem u8) ys b o ⟧ (run 𝓤 H full_share w8 b o ys)
  out_cells b o [] = id⊢ 𝓤 (emp 𝓤)
  out_cells b o (y ∷ ys) = mono∗ 𝓤 (uint_out 𝓛 full_share w8 y b o) (out_cells b (o + 1) ys)

  in_parts : (b o : ℕ) (ys : List ℕ) → ent 𝓤 (run 𝓤 H full_share w8 b o ys) ⟦ parts (mem u8) (shares u8) full_share ys b o ⟧
  in_parts b o [] = id⊢ 𝓤 (emp 𝓤)
  in_parts b o (y ∷ ys) = mono∗ 𝓤 (uint_in 𝓛 full_share w8 y b o) (in_parts b (o + 1) ys)

  out_parts : (b o : ℕ) (ys : List ℕ) → ent 𝓤 ⟦ parts (mem u8) (shares u8) full_share ys b o ⟧ (run 𝓤 H full_share w8 b o ys)
  out_parts b o [] = id⊢ 𝓤 (emp 𝓤)
  out_parts b o (y ∷ ys) = mono∗ 𝓤 (uint_out 𝓛 full_share w8 y b o) (out_parts b (o + 1) ys)

  -- ---- one thing is lent, and taken back

  -- the lifetime's token, the reference and the lender's part
  abbrev Token : Loan → SProp 𝓤
  Token loan = ⟦ flft (loan.0 ∷ []) full_share ⟧

  abbrev Own : ℕ → Borrowed → Loan → SProp 𝓤
  Own j borrowed loan = ⟦ (row_of j borrowed loan).own_val (ref_of j borrowed loan) (pointer_to borrowed ∷ []) ⟧

  abbrev Aside : Borrowed → Loan → SProp 𝓤
  Aside borrowed loan = ⟦ flent (loan.0 ∷ []) (kept_of borrowed loan) ⟧

  abbrev Made : ℕ → Borrowed → Loan → SProp 𝓤
  Made j borrowed loan = Token loan ∗ Own j borrowed loan ∗ Aside borrowed loan

  makes : (j : ℕ) (borrowed : Borrowed) → BorrowedFits borrowed → ent 𝓤 (borrowed_lies 𝓤 H borrowed) (H.⇛ (ex 𝓤 (Made j borrowed)))
  makes j (to_read at ys) fits =
      qed 𝓛 (raw (run 𝓤 H full_share w8 at.0 at.1 ys) ∷ []) ∵ updating ! $ use1 𝓛 (‵ (parts (mem u8) (shares u8) full_share ys at.0 at.1)) (in_parts at.0 at.1 ys) $
      feq_i ! ℕ (length ys) (length ys) refl $ fjoin ! $ lft_new ! tt (λ α. move ! (1 ∷ []) $
      use2 𝓛 (later ((raw (Own j (to_read at ys) (α, 0)) ⊛ raw (Aside (to_read at ys) (α, 0))) ⊛ raw (Token (α, 0))))
      (lends_shr_slice 𝓛 u8 (named j) (α ∷ []) full_share ys at.0 at.1 (room (length ys) fits) (α ∷ []) ((uint_Copied 𝓛 w8).shares full_share (α ∷ [])) ((α ∷ [], full_share) ∷ []) (Incl-refl (α ∷ [])) (Incl-refl (α ∷ []))) $
      await ! tt $ split ! $ split ! $ at_once ! $ show ! (Made j (to_read at ys)) (α, 0) $ move ! (2 ∷ 0 ∷ 1 ∷ []) $ done !)
  makes j (to_write at ys) fits =
      qed 𝓛 (raw (run 𝓤 H full_share w8 at.0 at.1 ys) ∷ []) ∵ updating ! $ use1 𝓛 (‵ (cells (mem u8) ys at.0 at.1)) (in_cells at.0 at.1 ys) $ lft_new ! tt (λ α. move ! (1 ∷ []) $
      use1 𝓛 (later (some (λ (δ : GName). raw (Own j (to_write at ys) (α, δ)) ⊛ raw (Aside (to_write at ys) (α, δ))))) (lends_slice 𝓛 u8 (named j) (α ∷ []) ys at.0 at.1 (room (length ys) fits)) $
      await ! tt $ pick ! (λ δ. split ! $ at_once ! $ show ! (Made j (to_write at ys)) (α, δ) $ move ! (2 ∷ 0 ∷ 1 ∷ []) $ done !))
  makes j (to_count at n) fits =
      qed 𝓛 (‵ (fat full_share (ty_int w32) at.0 at.1 (vint w32 n)) ∷ []) ∵ updating ! $ use1 𝓛 (‵ (part_at u32 full_share n at.0 at.1)) (uint_in 𝓛 full_share w32 n at.0 at.1) $ lft_new ! tt (λ α. move ! (1 ∷ []) $
      use1 𝓛 (later (some (λ (δ : GName). raw (Own j (to_count at n) (α, δ)) ⊛ raw (Aside (to_count at n) (α, δ))))) (lends_ref 𝓛 u32 (named j) (α ∷ []) n at.0 at.1) $
      await ! tt $ pick ! (λ δ. split ! $ at_once ! $ show ! (Made j (to_count at n)) (α, δ) $ move ! (2 ∷ 0 ∷ 1 ∷ []) $ done !))

  backs : (borrowed : Borrowed) (loan : Loan) (last : Last borrowed) → ent 𝓤 (Token loan ∗ Aside borrowed loan ∗ ⟦ left_of borrowed loan last ⟧) (H.⇛ (borrowed_lies 𝓤 H (borrowed_after borrowed last)))
  backs (to_read at ys) loan last =
      qed 𝓛 (‵ (flft (loan.0 ∷ []) full_share) ∷ ‵ (flent (loan.0 ∷ []) (kept_of (to_read at ys) loan)) ∷ ‵ ftrue ∷ []) ∵ updating ! $ lft_end ! tt $ lent_back ! tt $ fsplit ! $
      at_once ! $ keep ! (1 ∷ []) $ by ! (out_parts at.0 at.1 ys)
  backs (to_write at ys) loan last =
      qed 𝓛 (‵ (flft (loan.0 ∷ []) full_share) ∷ ‵ (flent (loan.0 ∷ []) (Held u8 (length ys) at.0 at.1 loan.1)) ∷ ‵ (left_of (to_write at ys) loan last) ∷ []) ∵ updating ! $ lft_end ! tt $
      move ! (2 ∷ []) $ fsplit ! $ fsplit ! $ move ! (3 ∷ 4 ∷ 0 ∷ []) $
      use3 𝓛 (later (‵ ((Arr (mem u8) (length ys)).own_at last at.0 at.1))) (slice_back 𝓛 u8 (loan.0 ∷ []) loan.1 last (length ys) at.0 at.1) $ await ! tt $ fsplit ! $
      at_once ! $ keep ! (1 ∷ []) $ by ! (out_cells at.0 at.1 last)
  backs (to_count at n) loan last =
      qed 𝓛 (‵ (flft (loan.0 ∷ []) full_share) ∷ ‵ (flent (loan.0 ∷ []) (Body (mem u32) at.0 at.1 loan.1)) ∷ ‵ (left_of (to_count at n) loan last) ∷ []) ∵ updating ! $ lft_end ! tt $
      move ! (2 ∷ []) $ fsplit ! $ move ! (2 ∷ 3 ∷ 0 ∷ []) $ use3 𝓛 (later (‵ (part_at u32 full_share last at.0 at.1))) (ref_back 𝓛 u32 (loan.0 ∷ []) loan.1 last at.0 at.1) $ await ! tt $ at_once ! $ keep ! (0 ∷ []) $ by ! (uint_out 𝓛 full_share w32 last at.0 at.1)

  -- ---- all of it

  abbrev pub Tokens : (args : List Arg) → Loans args → SProp 𝓤
  Tokens args loans = toks 𝓛 (lifetimes args) (lifetimes_of args loans) (shares_of args)

  abbrev pub Owns : ℕ → (args : List Arg) → Loans args → SProp 𝓤
  Owns j args loans = ⟦ owns (rows_of j args loans) (args_of j args loans) (valss_of j args loans) ⟧

  abbrev pub Asides : (args : List Arg) → Loans args → SProp 𝓤
  Asides [] loans = emp 𝓤
  Asides (passes w n ∷ args) loans = Asides args loans
  Asides (lends borrowed ∷ args) loans = Aside borrowed loans.0 ∗ Asides args loans.1

  numbered : (w : Width) (n : ℕ) → n < 2 ^ bits w → (P Q R : SProp 𝓤) → ent 𝓤 ((P ∗ Q) ∗ R) ((P ∗ (⟦ (UInt w).own_val n (vint w n ∷ []) ⟧ ∗ Q)) ∗ R)
  numbered w n fits P Q R =
      qed 𝓛 ((raw P ⊛ raw Q) ∷ raw R ∷ []) ∵ split ! $ use0 𝓛 (‵ ((UInt w).own_val n (vint w n ∷ []))) (uint_Makes 𝓛 w n (vint w n ∷ []) (refl, fits)) $
      move ! (0 ∷ 2 ∷ []) $ join ! $ move ! (1 ∷ 0 ∷ []) $ join ! $ done !

  arranged : (P Q B T O S F : SProp 𝓤) → ent 𝓤 ((P ∗ Q) ∗ (B ∗ ((T ∗ O ∗ S) ∗ F))) (((T ∗ P) ∗ (O ∗ Q)) ∗ ((S ∗ B) ∗ F))
  arranged P Q B T O S F =
      qed 𝓛 ((raw P ⊛ raw Q) ∷ (raw B ⊛ ((raw T ⊛ raw O ⊛ raw S) ⊛ raw F)) ∷ []) ∵ split ! $ move ! (2 ∷ []) $ split ! $ move ! (1 ∷ []) $ split ! $ split3 ! $
      move ! (0 ∷ 5 ∷ []) $ join ! $ move ! (1 ∷ 5 ∷ []) $ join ! $ move ! (1 ∷ 0 ∷ []) $ join ! $ move ! (1 ∷ 3 ∷ []) $ join ! $ move ! (1 ∷ 0 ∷ []) $ done !

  pub backs_all : (args : List Arg) (loans : Loans args) (lasts : Lasts args) → ent 𝓤 (Tokens args loans ∗ Asides args loans ∗ ⟦ lefts_of args loans lasts ⟧) (H.⇛ (Lie 𝓤 H (after args lasts)))
  backs_all [] loans lasts = qed 𝓛 (raw (emp 𝓤) ∷ raw (emp 𝓤) ∷ raw (emp 𝓤) ∷ []) ∵ updating ! $ at_once ! $ keep ! (0 ∷ []) $ done !
  backs_all (passes w n ∷ args) loans lasts =
      qed 𝓛 (raw (Tokens args loans) ∷ raw (Asides args loans) ∷ ‵ (fsep ftrue (lefts_of args loans lasts.1)) ∷ []) ∵ move ! (2 ∷ []) $ fsplit ! $ keep ! (2 ∷ 3 ∷ 1 ∷ []) $ by ! (backs_all args loans lasts.1)
  backs_all (lends borrowed ∷ args) loans lasts =
      qed 𝓛 ((raw (Token loans.0) ⊛ raw (Tokens args loans.1)) ∷ (raw (Aside borrowed loans.0) ⊛ raw (Asides args loans.1)) ∷ ‵ (fsep (left_of borrowed loans.0 lasts.0) (lefts_of args loans.1 lasts.1)) ∷ []) ∵
      updating ! $ split ! $ move ! (2 ∷ []) $ split ! $ move ! (4 ∷ []) $ fsplit ! $
      -- [its last; the others'; its part; the others'; its token; the others']
      move ! (4 ∷ 2 ∷ 0 ∷ []) $ use3 𝓛 (later (raw (borrowed_lies 𝓤 H (borrowed_after borrowed lasts.0)))) (backs borrowed loans.0 lasts.0) $ await ! tt $
      move ! (3 ∷ 2 ∷ 1 ∷ []) $ use3 𝓛 (later (raw (Lie 𝓤 H (after args lasts.1)))) (backs_all args loans.1 lasts.1) $ await ! tt $ at_once ! $ move ! (1 ∷ 0 ∷ []) $ done !

  module _ (𝓜 : Model 𝓤 H) (σ : Memory) where
    lends_one : (j : ℕ) (borrowed : Borrowed) → BorrowedFits borrowed → (L F : SProp 𝓤) → Satisfies 𝓤 H 𝓜 σ ((borrowed_lies 𝓤 H borrowed ∗ L) ∗ F)
        → ∥ ((loan : Loan) × Satisfies 𝓤 H 𝓜 σ (L ∗ (Made j borrowed loan ∗ F))) ∥₁
    lends_one j borrowed fits L F s =
        ∥∥₁_map (sat_ex∗ 𝓤 H 𝓜 σ (Made j borrowed) (L ∗ F) (sat_⇛ 𝓤 H 𝓜 σ (ex 𝓤 (Made j borrowed)) (L ∗ F)
        (sat_weaken 𝓤 H 𝓜 σ (via 𝓤 (borrowed_lies 𝓤 H borrowed ∗ (L ∗ F)) (assoc∗ 𝓤 (borrowed_lies 𝓤 H borrowed) L F) (mono_l 𝓤 (L ∗ F) (makes j borrowed fits))) s)))
        (λ t. (t.0, sat_weaken 𝓤 H 𝓜 σ (turned (Made j borrowed t.0) L F) t.1))
      where
        turned : (P Q R : SProp 𝓤) → ent 𝓤 (P ∗ (Q ∗ R)) (Q ∗ (P ∗ R))
        turned P Q R = via 𝓤 ((P ∗ Q) ∗ R) (assoc' 𝓤 P Q R) (via 𝓤 ((Q ∗ P) ∗ R) (mono_l 𝓤 R (comm∗ 𝓤 P Q)) (assoc∗ 𝓤 Q P R))

    pub lends_all : (j : ℕ) (args : List Arg) → Fit args → (F : SProp 𝓤) → Satisfies 𝓤 H 𝓜 σ (Lie 𝓤 H args ∗ F)
        → ∥ ((loans : Loans args) × Satisfies 𝓤 H 𝓜 σ ((Tokens args loans ∗ Owns j args loans) ∗ (Asides args loans ∗ F))) ∥₁
    lends_all j [] fit F s = ∣ (tt, sat_weaken 𝓤 H 𝓜 σ (via 𝓤 (emp 𝓤 ∗ (emp 𝓤 ∗ F)) (emp∗ 𝓤 (emp 𝓤 ∗ F)) (mono_l 𝓤 (emp 𝓤 ∗ F) (emp∗ 𝓤 (emp 𝓤)))) s) ∣₁
    lends_all j (passes w n ∷ args) fit F s =
        ∥∥₁_map (lends_all j args fit.1 F s) (λ t. (t.0, sat_weaken 𝓤 H 𝓜 σ (numbered w n fit.0 (Tokens args t.0) (Owns j args t.0) (Asides args t.0 ∗ F)) t.1))
    lends_all j (lends borrowed ∷ args) fit F s =
        ∥∥₁_elim (lends_one j borrowed fit.0 (Lie 𝓤 H args) F s) ∥∥₁_prop (λ p.
        ∥∥₁_map (lends_all (suc j) args fit.1 (Made j borrowed p.0 ∗ F) p.1) (λ t. (
          (p.0, t.0),
          sat_weaken 𝓤 H 𝓜 σ (arranged (Tokens args t.0) (Owns (suc j) args t.0) (Asides args t.0) (Token p.0) (Own j borrowed p.0) (Aside borrowed p.0) F) t.1,
        )))
