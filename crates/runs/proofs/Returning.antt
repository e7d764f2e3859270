-- A promise that is kept gives the run: after what is handed over has been lent, by the kit's own adequacy the call ends, and what was lent is taken
-- back. Assumes nothing.
use mathlib.Core.Path.{◌≡◌, sym, ap, subst}
use mathlib.Core.Logic.{∥∥₁_prop, ∥∥₁_elim, ∥∥₁_map}
use mathlib.Core.List.{List, [], ◌∷◌}
use Prim.Native.Nat.{ℕ}
use seplogic.Ra.Ura.{Ura}
use mir.Val.{Val, vint}
use base.Logic.{id⊢, SProp, ent, sep, ex, emp, via, comm∗, mono_l, emp∗, fst∗, snd∗}
use prog.Memory.{Memory}
use prog.Model.{Model}
use types.Logic.{Logic, sem}
use types.Kit.{‵, raw, ◌⊛◌, some, later, ◌$◌, ◌∵◌, !, qed, move, keep, use1, use3, split, pick, await, updating, now as at_once, done, show, fsplit, feq_l}
use contract.Adequate.{Satisfies, sat_weaken, sat_ex∗, sat_⇛, sat_fact}
use denote.Plain.{UInt}
use denote.Triple.Walked.{says}
use prog.Machine.{done as ended}
use prog.Routine.{Routine, Callee, Env, step}
use prog.Wired.{Code, Wired}
use contract.Monad.{Fun, fact, fact_i, fact_use}
use contract.Running.{Running, strict, within, tables}
use denote.Steps.{only, heard}
use denote.Signature.{Signature}
use denote.Triple.Statement.{Contract}
use denote.Triple.Spec.{Spec, triple_of, Meets}
use denote.Triple.Adequate.{adequate}
use Rattle.runs.specs.Runs.{Call, values_of, Lasts, after, Lie, Returns}
use Rattle.runs.proofs.Lending.{Loans, lefts_of, Tokens, Owns, Asides, backs_all, lends_all}

-- a contract as it is generated, and what the check proves of the function: its routine meets it, in any model, where the names mean its code
module _ (M : Type 1) (S : Signature) where
  abbrev pub Contracts : Type 2
  Contracts = (𝓤 : Ura M) (𝓛 : Logic 𝓤) → (Memory → SProp 𝓤) → (Routine → Fun 𝓤) → Spec 𝓤 S

  abbrev pub Kept : Code → Callee → Contracts → Type 2
  Kept code name spec = (𝓤 : Ura M) (𝓛 : Logic 𝓤) (𝓜 : Model 𝓤 𝓛.H) (𝓡 : Running 𝓤 𝓛.H 𝓜) → Wired 𝓡.env code
      → Meets 𝓛 S (𝓡.run (𝓡.env name)) (spec 𝓤 𝓛 𝓜.mem 𝓡.returns)

module _ {M : Type 1} {𝓤 : Ura M} (𝓛 : Logic 𝓤) (𝓜 : Model 𝓤 𝓛.H) (𝓡 : Running 𝓤 𝓛.H 𝓜) (γ : Env) (call : Call) (S : Signature) (spec : Contracts M S) where
  open 𝓛 use {H}

  abbrev ◌∗◌ : SProp 𝓤 → SProp 𝓤 → SProp 𝓤
  P ∗ Q = sep 𝓤 P Q

  infixr 35 ◌∗◌
  -- one thread alone, where the process may not be stopped, and the names mean γ
  abbrev here : Running 𝓤 H 𝓜
  here = strict 𝓤 H 𝓜 (within 𝓤 H 𝓜 𝓡 γ)

  abbrev pub c : Contract 𝓤
  c = triple_of 𝓛 S (spec 𝓤 𝓛 𝓜.mem here.returns)

  abbrev pub Pre : Loans call.args → SProp 𝓤
  Pre loans = (Tokens 𝓛 call.args loans ∗ Owns 𝓛 0 call.args loans) ∗ emp 𝓤

  -- what the clauses of a contract say of the result and of what is left
  abbrev Claims : Type 2
  Claims = ℕ → Lasts call.args → SProp 𝓤

  abbrev Exit : Claims → Loans call.args → ℕ → Lasts call.args → SProp 𝓤
  Exit claims loans r lasts = sem 𝓛 (lefts_of call.args loans lasts) ∗ claims r lasts

  abbrev Told : Claims → Loans call.args → Val → ℕ → SProp 𝓤
  Told claims loans v r = (Tokens 𝓛 call.args loans ∗ sem 𝓛 ((UInt call.width).own_val r (v ∷ []))) ∗ ex 𝓤 (Exit claims loans r)

  abbrev pub Post : Claims → Loans call.args → Val → SProp 𝓤
  Post claims loans v = H.⇛ (ex 𝓤 (Told claims loans v))

  -- one clause, which is the promise
  abbrev pub promised : Claims
  promised r lasts = fact 𝓤 (call.promise r lasts)

  abbrev Is : Val → ℕ → Type 0
  Is v r = v ∷ [] ≡ vint call.width r ∷ []

  abbrev Back : Val → SProp 𝓤 → ℕ × Lasts call.args → SProp 𝓤
  Back v F p = (Lie 𝓤 H (after call.args p.1) ∗ F) ∗ fact 𝓤 (Is v p.0 × call.promise p.0 p.1)

  takes_back : (claims : Claims) → ((r : ℕ) (lasts : Lasts call.args) → ent 𝓤 (claims r lasts) (promised r lasts)) → (loans : Loans call.args) (v : Val) (F : SProp 𝓤)
      → ent 𝓤 (Post claims loans v ∗ (Asides 𝓛 call.args loans ∗ F)) (H.⇛ (ex 𝓤 (Back v F)))
  takes_back claims say loans v F =
      qed 𝓛 (later (some (λ (r : ℕ). (raw (Tokens 𝓛 call.args loans) ⊛ ‵ ((UInt call.width).own_val r (v ∷ []))) ⊛ some (λ (lasts : Lasts call.args). ‵ (lefts_of call.args loans lasts) ⊛ raw (claims r lasts)))) ∷ (raw (Asides 𝓛 call.args loans) ⊛ raw F) ∷ []) ∵
      updating ! $ await ! tt $ pick ! (λ r. split ! $ move ! (1 ∷ []) $ pick ! (λ lasts. split ! $ move ! (1 ∷ []) $ use1 𝓛 (raw (promised r lasts)) (say r lasts) $ heard ! (call.promise r lasts) (λ kept.
      -- [what is left; the tokens and the result; the lender's part and the rest]
      move ! (1 ∷ []) $ split ! $ move ! (1 ∷ []) $ fsplit ! $ feq_l ! (λ is. move ! (3 ∷ []) $ split ! $
      -- [the lender's part; the rest; the bound of the result; the tokens; what is left]
      move ! (3 ∷ 0 ∷ 4 ∷ []) $ use3 𝓛 (later (raw (Lie 𝓤 H (after call.args lasts)))) (backs_all 𝓛 call.args loans lasts) $ await ! tt $ at_once ! $
      show ! (Back v F) (r, lasts) $ says ! (is, kept) $ keep ! (0 ∷ 1 ∷ []) $ done !))))

  -- what is handed over is what the contract asks for, and what its clauses say is what it gives back: by computation
  abbrev pub Computes : Claims → (Loans call.args → c.Ghost) → Type 2
  Computes claims at =
      (◌≡◌ {A = Loans call.args → SProp 𝓤} (λ loans. c.pre (at loans)) Pre) × (◌≡◌ {A = Loans call.args → List Val} (λ loans. c.args (at loans)) (λ loans. values_of call.args))
      × (◌≡◌ {A = Loans call.args → Val → SProp 𝓤} (λ loans. c.post (at loans)) (Post claims))

  pub returns_by : (claims : Claims) → ((r : ℕ) (lasts : Lasts call.args) → ent 𝓤 (claims r lasts) (promised r lasts))
      → Kept M S call.code call.name spec → (at : Loans call.args → c.Ghost) → Computes claims at → Returns 𝓤 H 𝓜 γ call
  returns_by claims say kept at is wired σ F fit s =
      ∥∥₁_elim (lends_all 𝓛 𝓜 σ 0 call.args fit F s) ∥∥₁_prop (λ t.
      let loans : Loans call.args = t.0 in
      let F' : SProp 𝓤 = Asides 𝓛 call.args loans ∗ F in
      ∥∥₁_elim (adequate 𝓤 H 𝓜 (tables 𝓤 H 𝓜 here γ) ((λ s o. o), tt) call.name c (kept 𝓤 𝓛 𝓜 here wired) (at loans) σ F'
      (subst (λ (Q : Loans call.args → SProp 𝓤). Satisfies 𝓤 H 𝓜 σ (Q loans ∗ F')) (sym is.0) (sat_weaken 𝓤 H 𝓜 σ (mono_l 𝓤 F' (with_emp (Tokens 𝓛 call.args loans ∗ Owns 𝓛 0 call.args loans))) t.1))) ∥∥₁_prop (λ u.
      ∥∥₁_elim (sat_ex∗ 𝓤 H 𝓜 u.2 (Back u.1 F) (emp 𝓤) (sat_⇛ 𝓤 H 𝓜 u.2 (ex 𝓤 (Back u.1 F)) (emp 𝓤)
      (sat_weaken 𝓤 H 𝓜 u.2 (via 𝓤 (H.⇛ (ex 𝓤 (Back u.1 F))) (takes_back claims say loans u.1 F) (with_emp (H.⇛ (ex 𝓤 (Back u.1 F)))))
      (subst (λ (Q : Loans call.args → Val → SProp 𝓤). Satisfies 𝓤 H 𝓜 u.2 (Q loans u.1 ∗ F')) is.2 u.4)))) ∥∥₁_prop (λ x.
      ∥∥₁_map (sat_fact 𝓤 H 𝓜 u.2 (Back u.1 F x.0 ∗ emp 𝓤) (Is u.1 x.0.0 × call.promise x.0.0 x.0.1) (said (𝓜.mem u.2) (Lie 𝓤 H (after call.args x.0.1) ∗ F) (Is u.1 x.0.0 × call.promise x.0.0 x.0.1)) x.1)
      (λ f. record {
        fuel = u.0;
        number = x.0.0;
        left = x.0.1;
        memory = u.2;
        runs = subst (λ (vs : List Val). step (γ call.name) u.0 vs σ ≡ ended (vint call.width x.0.0, u.2)) (λ i. is.1 i loans) (subst (λ (v : Val). step (γ call.name) u.0 (c.args (at loans)) σ ≡ ended (v, u.2)) (ap only f.0) u.3);
        promised = f.1;
        lies = sat_weaken 𝓤 H 𝓜 u.2 (via 𝓤 (Back u.1 F x.0) (fst∗ 𝓤 (Back u.1 F x.0) (emp 𝓤)) (fst∗ 𝓤 (Lie 𝓤 H (after call.args x.0.1) ∗ F) (fact 𝓤 (Is u.1 x.0.0 × call.promise x.0.0 x.0.1)))) x.1;
      }))))
    where
      with_emp : (P : SProp 𝓤) → ent 𝓤 P (P ∗ emp 𝓤)
      with_emp P = via 𝓤 (emp 𝓤 ∗ P) (emp∗ 𝓤 P) (comm∗ 𝓤 (emp 𝓤) P)

      said : (Q P : SProp 𝓤) (φ : Type 0) → ent 𝓤 (Q ∗ ((P ∗ fact 𝓤 φ) ∗ emp 𝓤)) (fact 𝓤 φ)
      said Q P φ = via 𝓤 ((P ∗ fact 𝓤 φ) ∗ emp 𝓤) (snd∗ 𝓤 Q ((P ∗ fact 𝓤 φ) ∗ emp 𝓤)) (via 𝓤 (P ∗ fact 𝓤 φ) (fst∗ 𝓤 (P ∗ fact 𝓤 φ) (emp 𝓤)) (snd∗ 𝓤 P (fact 𝓤 φ)))

  -- the same of a contract with one clause, which is the promise
  pub returns : Kept M S call.code call.name spec → (at : Loans call.args → c.Ghost) → Computes promised at → Returns 𝓤 H 𝓜 γ call
  returns = returns_by promised (λ r lasts. id⊢ 𝓤 (promised r lasts))

  -- .. and of one with two clauses, which together are the promise
  module _ (first second : ℕ → Lasts call.args → Type 0) (both : (r : ℕ) (lasts : Lasts call.args) → first r lasts × second r lasts → call.promise r lasts) where
    abbrev pub clauses : Claims
    clauses r lasts = fact 𝓤 (first r lasts) ∗ fact 𝓤 (second r lasts)

    say : (r : ℕ) (lasts : Lasts call.args) → ent 𝓤 (clauses r lasts) (promised r lasts)
    say r lasts =
        let P : SProp 𝓤 = fact 𝓤 (first r lasts) in
        let Q : SProp 𝓤 = fact 𝓤 (second r lasts) in
        fact_use 𝓤 (first r lasts) (fst∗ 𝓤 P Q) (λ one. fact_use 𝓤 (second r lasts) (snd∗ 𝓤 P Q) (λ other. fact_i 𝓤 (call.promise r lasts) (P ∗ Q) (both r lasts (one, other))))

    pub returns_both : Kept M S call.code call.name spec → (at : Loans call.args → c.Ghost) → Computes clauses at → Returns 𝓤 H 𝓜 γ call
    returns_both = returns_by clauses say
