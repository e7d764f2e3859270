-- There are such memories: for any bytes there is one in which they lie as a sheet, a bank, a ring, a frame and an answer buffer, with two numbers beside
-- them, so that what `Door` says of a frame is said of a run, on every machine that has the call's code and so on `Machine`'s. It holds of every function
-- that returns as the call says, and so of an export too. Assumes nothing.
use mathlib.Core.Path.{◌≡◌, subst}
use mathlib.Core.Logic.{∥∥₁_prop, ∥∥₁_elim, ∥∥₁_map}
use mathlib.Core.List.{List, [], ◌∷◌, ◌++◌}
use Prim.Native.Nat.{ℕ, ◌+◌, ◌<◌, ◌^◌}
use native.Mathlib.Omega.{arith}
use seplogic.Ra.Ura.{Ura}
use base.Fraction.{full_share}
use seplogic.Bi.Sat
use lib.ListN.{length}
use mir.Syntax.{w8, w32, ty_int}
use mir.Val.{vint}
use base.Logic.{Sat_exists, SProp, ent, sep, ex, guard, emp, upd, via, comm∗, assoc∗, assoc', mono_l, mono_r, fst∗, emp∗, id⊢, ex_i, ex∗, guard_i, upd_mono, upd_frame}
use prog.Memory.{Memory, store_m, alloc_m}
use mathlib.Core.Option.{some}
use prog.AdequacyRun.{start_mem}
use prog.Wp.{Heap, run}
use prog.Model.{Model, AllFit}
use prog.Routine.{Callee, Env}
use prog.Wired.{Code, Wired}
use ghost.Model as Closed
use contract.BorrowModel.{logic₀}
use contract.Closed.{model⁺, real⁺}
use types.Kit.{raw, ◌⊛◌, ◌$◌, ◌∵◌, !, qed, move, use0, use1, split, group, done}
use contract.Adequate.{Satisfies, sat_weaken, sat_upd, start_Satisfies}
use Rattle.cedarskein.proofs.cedarskein_answer.Symbol as answer_code
use Rattle.runs.specs.Runs.{Place, Call, exported, Returned, Returns}
use Rattle.runs.specs.Calls.{answer_call}
use Rattle.runs.proofs.Door.{answer_returns}
use Rattle.runs.proofs.Machine.{door_machine, has_answer}

module _ {M : Type 1} (𝓤 : Ura M) (H : Heap 𝓤) (𝓜 : Model 𝓤 H) where
  abbrev ◌∗◌ : SProp 𝓤 → SProp 𝓤 → SProp 𝓤
  P ∗ Q = sep 𝓤 P Q

  infixr 35 ◌∗◌
  -- bytes in a row are two runs of bytes
  cut : (b o p : ℕ) (xs ys : List ℕ) → o + length xs ≡ p → ent 𝓤 (run 𝓤 H full_share w8 b o (xs ++ ys)) (run 𝓤 H full_share w8 b o xs ∗ run 𝓤 H full_share w8 b p ys)
  cut b o p [] ys at = subst (λ (q : ℕ). ent 𝓤 (run 𝓤 H full_share w8 b o ys) (emp 𝓤 ∗ run 𝓤 H full_share w8 b q ys)) (omega (arith, at)) (emp∗ 𝓤 (run 𝓤 H full_share w8 b o ys))
  cut b o p (x ∷ xs) ys at =
      let X : SProp 𝓤 = H.at full_share (ty_int w8) b o (vint w8 x) in
      via 𝓤 (X ∗ (run 𝓤 H full_share w8 b (o + 1) xs ∗ run 𝓤 H full_share w8 b p ys)) (mono_r 𝓤 X (cut b (o + 1) p xs ys (omega (arith, at))))
      (assoc' 𝓤 X (run 𝓤 H full_share w8 b (o + 1) xs) (run 𝓤 H full_share w8 b p ys))

  -- a memory with one more block, in which a number lies
  module _ (σ : Memory) (m : ℕ) (P : SProp 𝓤) where
    abbrev fresh : Memory
    fresh = alloc_m σ (ty_int w32)

    abbrev Stored : Memory → Type 0
    Stored σ₁ = store_m fresh (ty_int w32) (length σ) 0 (vint w32 m) ≡ some σ₁

    abbrev room : SProp 𝓤
    room = H.room (ty_int w32) (length σ) 0

    abbrev number : SProp 𝓤
    number = H.at full_share (ty_int w32) (length σ) 0 (vint w32 m)

    abbrev Rest : SProp 𝓤
    Rest = H.dies (ty_int w32) (length σ) ∗ P

    abbrev after : Memory → SProp 𝓤
    after σ₁ = upd 𝓤 (𝓜.mem σ₁ ∗ (number ∗ Rest))

    pub one_more : m < 2 ^ 32 → Satisfies 𝓤 H 𝓜 σ P → ∥ ((σ₁ : Memory) × Satisfies 𝓤 H 𝓜 σ₁ (number ∗ P)) ∥₁
    unfolding Satisfies
    one_more fits s =
        ∥∥₁_elim (Sat_exists 𝓤 (λ (σ₁ : Memory). guard 𝓤 (Stored σ₁) (after σ₁)) (Sat.mono 𝓤.op
        (via 𝓤 ((𝓜.mem fresh ∗ room) ∗ Rest) (assoc' 𝓤 (𝓜.mem fresh) room Rest)
        (via 𝓤 (ex 𝓤 (λ (σ₁ : Memory). guard 𝓤 (Stored σ₁) (upd 𝓤 (𝓜.mem σ₁ ∗ number))) ∗ Rest) (mono_l 𝓤 Rest (𝓜.room_store fresh (ty_int w32) (length σ) 0 (vint w32 m) tt (record { fits = fits })))
        (ex∗ 𝓤 (λ (σ₁ : Memory). guard 𝓤 (Stored σ₁) (upd 𝓤 (𝓜.mem σ₁ ∗ number))) Rest (λ σ₁.
        ex∗ 𝓤 (λ (_ : Stored σ₁). upd 𝓤 (𝓜.mem σ₁ ∗ number)) Rest (λ e.
        via 𝓤 (upd 𝓤 ((𝓜.mem σ₁ ∗ number) ∗ Rest)) (upd_frame 𝓤 (𝓜.mem σ₁ ∗ number) Rest)
        (via 𝓤 (after σ₁) (upd_mono 𝓤 (assoc∗ 𝓤 (𝓜.mem σ₁) number Rest))
        (via 𝓤 (guard 𝓤 (Stored σ₁) (after σ₁)) (guard_i 𝓤 (Stored σ₁) (after σ₁) e) (ex_i 𝓤 (λ (σ₂ : Memory). guard 𝓤 (Stored σ₂) (after σ₂)) σ₁))))))))
        (sat_upd 𝓤 H 𝓜 σ fresh P (room ∗ Rest) grown s))) ∥∥₁_prop (λ t.
        ∥∥₁_map (Sat_exists 𝓤 (λ (_ : Stored t.0). after t.0) t.1) (λ u. (
          t.0,
          sat_weaken 𝓤 H 𝓜 t.0 (mono_r 𝓤 number (via 𝓤 (P ∗ H.dies (ty_int w32) (length σ)) (comm∗ 𝓤 (H.dies (ty_int w32) (length σ)) P) (fst∗ 𝓤 P (H.dies (ty_int w32) (length σ)))))
              (Sat.bupd 𝓤 (𝓜.mem t.0 ∗ (number ∗ Rest)) u.1),
        )))
      where
        grown : ent 𝓤 (𝓜.mem σ ∗ P) (upd 𝓤 (𝓜.mem fresh ∗ (room ∗ Rest)))
        grown =
            let D : SProp 𝓤 = H.dies (ty_int w32) (length σ) in
            via 𝓤 (upd 𝓤 (𝓜.mem fresh ∗ (room ∗ D)) ∗ P) (mono_l 𝓤 P (𝓜.alloc σ (ty_int w32)))
            (via 𝓤 (upd 𝓤 ((𝓜.mem fresh ∗ (room ∗ D)) ∗ P)) (upd_frame 𝓤 (𝓜.mem fresh ∗ (room ∗ D)) P)
            (upd_mono 𝓤 (via 𝓤 (𝓜.mem fresh ∗ ((room ∗ D) ∗ P)) (assoc∗ 𝓤 (𝓜.mem fresh) (room ∗ D) P) (mono_r 𝓤 (𝓜.mem fresh) (assoc∗ 𝓤 room D P)))))

both_fit : (xs ys : List ℕ) → AllFit w8 xs → AllFit w8 ys → AllFit w8 (xs ++ ys)
both_fit [] ys fits others = others
both_fit (x ∷ xs) ys fits others = (fits.0, both_fit xs ys fits.1 others)

-- ---- a call with a frame, in the kit's closed model: sheet, ring and frame lie in one block, bank and answer buffer in another, the two numbers in their own

module _ (sheet bank ring frame buffer : List ℕ) where
  abbrev pub call_at : Place → Place → Call
  call_at length_at rate_at = answer_call (0, 0) (1, 0) (0, length sheet) (0, length sheet + length ring) (1, length bank) length_at rate_at sheet bank ring frame buffer 0 0

  -- a memory, and the run from it of the call, where the names mean γ: of the function itself, or of an export
  pub record CallReturned (code : Code) (name : Callee) (γ : Env) : Type 1 where
    pub memory : Memory
    pub length_at : Place
    pub rate_at : Place
    pub returned : Returned Closed.𝓤 Closed.H model⁺ γ (exported code name (call_at length_at rate_at)) memory (emp Closed.𝓤)

  abbrev pub AnswerReturned : Env → Type 1
  AnswerReturned = CallReturned answer_code.code answer_code.name

  abbrev ◌⁎◌ : SProp Closed.𝓤 → SProp Closed.𝓤 → SProp Closed.𝓤
  P ⁎ Q = sep Closed.𝓤 P Q

  infixr 35 ◌⁎◌
  abbrev bytes : ℕ → ℕ → List ℕ → SProp Closed.𝓤
  bytes b o ys = run Closed.𝓤 Closed.H full_share w8 b o ys

  arranged : (L R : SProp Closed.𝓤)
      → ent Closed.𝓤 (R ⁎ (L ⁎ (bytes 0 0 (sheet ++ (ring ++ frame)) ⁎ bytes 1 0 (bank ++ buffer))))
      ((bytes 0 0 sheet ⁎ (bytes 1 0 bank ⁎ (bytes 0 (length sheet) ring ⁎ (bytes 0 (length sheet + length ring) frame
      ⁎ (bytes 1 (length bank) buffer ⁎ (L ⁎ (R ⁎ emp Closed.𝓤))))))) ⁎ emp Closed.𝓤)
  arranged L R =
      qed logic₀ (raw R ∷ raw L ∷ raw (bytes 0 0 (sheet ++ (ring ++ frame))) ∷ raw (bytes 1 0 (bank ++ buffer)) ∷ []) ∵ move ! (3 ∷ []) $
      use1 logic₀ (raw (bytes 1 0 bank) ⊛ raw (bytes 1 (length bank) buffer)) (cut Closed.𝓤 Closed.H model⁺ 1 0 (length bank) bank buffer (omega arith)) $ split ! $ move ! (4 ∷ []) $
      use1 logic₀ (raw (bytes 0 0 sheet) ⊛ raw (bytes 0 (length sheet) (ring ++ frame))) (cut Closed.𝓤 Closed.H model⁺ 0 0 (length sheet) sheet (ring ++ frame) (omega arith)) $ split ! $ move ! (1 ∷ []) $
      use1 logic₀ (raw (bytes 0 (length sheet) ring) ⊛ raw (bytes 0 (length sheet + length ring) frame)) (cut Closed.𝓤 Closed.H model⁺ 0 (length sheet) (length sheet + length ring) ring frame (omega arith)) $ split ! $
      -- [ring; frame; sheet; bank; buffer; R; L]
      use0 logic₀ (raw (emp Closed.𝓤)) (id⊢ Closed.𝓤 (emp Closed.𝓤)) $ use0 logic₀ (raw (emp Closed.𝓤)) (id⊢ Closed.𝓤 (emp Closed.𝓤)) $
      move ! (4 ∷ 5 ∷ 2 ∷ 3 ∷ 6 ∷ 8 ∷ 7 ∷ 0 ∷ 1 ∷ []) $ group ! 8 $ done !

  pub some_call_on : (code : Code) (name : Callee) (γ : Env)
      → ((length_at rate_at : Place) → Returns Closed.𝓤 Closed.H model⁺ γ (exported code name (call_at length_at rate_at)))
      → Wired γ code → AllFit w8 sheet → AllFit w8 bank → AllFit w8 ring → AllFit w8 frame → AllFit w8 buffer
      → length sheet < 2 ^ 63 → length bank < 2 ^ 63 → length ring < 2 ^ 63 → length frame < 2 ^ 63 → length buffer < 2 ^ 63 → ∥ CallReturned code name γ ∥₁
  some_call_on code name γ returns wired sheet-fits bank-fits ring-fits frame-fits buffer-fits s b g f u =
      let σ : Memory = start_mem (sheet ++ (ring ++ frame)) (bank ++ buffer) in
      let P : SProp Closed.𝓤 = bytes 0 0 (sheet ++ (ring ++ frame)) ⁎ bytes 1 0 (bank ++ buffer) in
      ∥∥₁_elim (one_more Closed.𝓤 Closed.H model⁺ σ 0 P (omega arith)
      (start_Satisfies Closed.𝓤 Closed.H model⁺ (sheet ++ (ring ++ frame)) (bank ++ buffer) (both_fit sheet (ring ++ frame) sheet-fits (both_fit ring frame ring-fits frame-fits)) (both_fit bank buffer bank-fits buffer-fits))) ∥∥₁_prop (λ x.
      ∥∥₁_elim (one_more Closed.𝓤 Closed.H model⁺ x.0 0 (number Closed.𝓤 Closed.H model⁺ σ 0 P ⁎ P) (omega arith) x.1) ∥∥₁_prop (λ y.
      ∥∥₁_map (returns (length σ, 0) (length x.0, 0) wired y.0 (emp Closed.𝓤) (s, (b, (g, (f, (u, (tt, (tt, tt)))))))
      (sat_weaken Closed.𝓤 Closed.H model⁺ y.0 (arranged (number Closed.𝓤 Closed.H model⁺ σ 0 P) (number Closed.𝓤 Closed.H model⁺ x.0 0 (number Closed.𝓤 Closed.H model⁺ σ 0 P ⁎ P))) y.1))
      (λ returned. record { memory = y.0; length_at = (length σ, 0); rate_at = (length x.0, 0); returned = returned })))

  pub some_answer_on : (γ : Env) → Wired γ answer_code.code → AllFit w8 sheet → AllFit w8 bank → AllFit w8 ring → AllFit w8 frame → AllFit w8 buffer
      → length sheet < 2 ^ 63 → length bank < 2 ^ 63 → length ring < 2 ^ 63 → length frame < 2 ^ 63 → length buffer < 2 ^ 63 → ∥ AnswerReturned γ ∥₁
  some_answer_on γ =
      some_call_on answer_code.code answer_code.name γ (λ length_at rate_at.
      answer_returns logic₀ model⁺ real⁺ γ (0, 0) (1, 0) (0, length sheet) (0, length sheet + length ring) (1, length bank) length_at rate_at
      sheet bank ring frame buffer 0 0)

  pub some_answer : AllFit w8 sheet → AllFit w8 bank → AllFit w8 ring → AllFit w8 frame → AllFit w8 buffer
      → length sheet < 2 ^ 63 → length bank < 2 ^ 63 → length ring < 2 ^ 63 → length frame < 2 ^ 63 → length buffer < 2 ^ 63 → ∥ AnswerReturned door_machine ∥₁
  some_answer = some_answer_on door_machine has_answer
