-- Every export returns, as `runs` says of the door's functions: from every memory in which what is handed to it lies, with what is promised, on every
-- machine that has its code. Each is the export's own theorem (`Met`). Assumes nothing.
use mathlib.Core.Path.{refl}
use mathlib.Core.List.{List}
use Prim.Native.Nat.{ℕ}
use seplogic.Ra.Ura.{Ura}
use prog.Model.{Model}
use prog.Routine.{Env}
use types.Logic.{Logic}
use contract.Running.{Running}
use Rattle.cedarskein_c.specs.contracts.cedarskein_check_start as check_start
use Rattle.cedarskein_c.proofs.cedarskein_check_start.Met as check_start_kept
use Rattle.cedarskein_c.specs.contracts.cedarskein_check_take as check_take
use Rattle.cedarskein_c.proofs.cedarskein_check_take.Met as check_take_kept
use Rattle.cedarskein_c.specs.contracts.cedarskein_check_value as check_value
use Rattle.cedarskein_c.proofs.cedarskein_check_value.Met as check_value_kept
use Rattle.cedarskein_c.specs.contracts.cedarskein_sheet_check as sheet_check
use Rattle.cedarskein_c.proofs.cedarskein_sheet_check.Met as sheet_check_kept
use Rattle.cedarskein_c.specs.contracts.cedarskein_bank_check as bank_check
use Rattle.cedarskein_c.proofs.cedarskein_bank_check.Met as bank_check_kept
use Rattle.cedarskein_c.specs.contracts.cedarskein_bank_fresh as bank_fresh
use Rattle.cedarskein_c.proofs.cedarskein_bank_fresh.Met as bank_fresh_kept
use Rattle.cedarskein_c.specs.contracts.cedarskein_post as post
use Rattle.cedarskein_c.proofs.cedarskein_post.Met as post_kept
use Rattle.cedarskein_c.specs.contracts.cedarskein_set_mark as set_mark
use Rattle.cedarskein_c.proofs.cedarskein_set_mark.Met as set_mark_kept
use Rattle.cedarskein_c.specs.contracts.cedarskein_ring_check as ring_check
use Rattle.cedarskein_c.proofs.cedarskein_ring_check.Met as ring_check_kept
use Rattle.cedarskein_c.specs.contracts.cedarskein_add_record as add_record
use Rattle.cedarskein_c.proofs.cedarskein_add_record.Met as add_record_kept
use Rattle.cedarskein_c.specs.contracts.cedarskein_answer as answer
use Rattle.cedarskein_c.specs.contracts.cedarskein_why as why
use Rattle.cedarskein_c.proofs.cedarskein_answer.Met as answer_kept
use Rattle.cedarskein_c.proofs.cedarskein_why.Met as why_kept
use Rattle.cedarskein_c.specs.contracts.cedarskein_query as query_door
use Rattle.cedarskein_c.proofs.cedarskein_query.Met as query_kept
use Rattle.cedarskein_c.specs.contracts.cedarskein_reply as reply_door
use Rattle.cedarskein_c.proofs.cedarskein_reply.Met as reply_kept
use Rattle.cedarskein_c.proofs.cedarskein_check_start.Symbol as check_start_code
use Rattle.cedarskein_c.proofs.cedarskein_check_take.Symbol as check_take_code
use Rattle.cedarskein_c.proofs.cedarskein_check_value.Symbol as check_value_code
use Rattle.cedarskein_c.proofs.cedarskein_sheet_check.Symbol as sheet_check_code
use Rattle.cedarskein_c.proofs.cedarskein_bank_check.Symbol as bank_check_code
use Rattle.cedarskein_c.proofs.cedarskein_bank_fresh.Symbol as bank_fresh_code
use Rattle.cedarskein_c.proofs.cedarskein_post.Symbol as post_code
use Rattle.cedarskein_c.proofs.cedarskein_set_mark.Symbol as set_mark_code
use Rattle.cedarskein_c.proofs.cedarskein_ring_check.Symbol as ring_check_code
use Rattle.cedarskein_c.proofs.cedarskein_add_record.Symbol as add_record_code
use Rattle.cedarskein_c.proofs.cedarskein_answer.Symbol as answer_code
use Rattle.cedarskein_c.proofs.cedarskein_why.Symbol as why_code
use Rattle.cedarskein_c.proofs.cedarskein_query.Symbol as query_code
use Rattle.cedarskein_c.proofs.cedarskein_reply.Symbol as reply_code
use Rattle.runs.specs.Runs.{Place, Call, exported, Returns}
use Rattle.runs.specs.Calls.{check_start_call, check_take_call, check_value_call, sheet_check_call, bank_check_call, bank_fresh_call, post_call, set_mark_call, ring_check_call, add_record_call, answer_call, why_call, query_call, reply_call}
use Rattle.runs.proofs.Lending.{lifetimes_of, shares_of, args_of, valss_of}
use Rattle.runs.proofs.Returning.{returns, returns_both}

module _ {M : Type 1} {𝓤 : Ura M} (𝓛 : Logic 𝓤) (𝓜 : Model 𝓤 𝓛.H) (𝓡 : Running 𝓤 𝓛.H 𝓜) (γ : Env) where
  open 𝓛 use {H}

  pub check_start_returns : Returns 𝓤 H 𝓜 γ (exported check_start_code.code check_start_code.name check_start_call)
  check_start_returns =
      let call : Call = exported check_start_code.code check_start_code.name check_start_call in
      returns 𝓛 𝓜 𝓡 γ call check_start.signature (λ 𝓤₁ 𝓛₁. check_start.spec 𝓛₁) check_start_kept.met
      (λ loans. ((lifetimes_of call.args loans, shares_of call.args, tt, args_of 0 call.args loans, valss_of 0 call.args loans), tt)) (refl, refl, refl)

  module _ (state byte : ℕ) where
    pub check_take_returns : Returns 𝓤 H 𝓜 γ (exported check_take_code.code check_take_code.name (check_take_call state byte))
    check_take_returns =
        let call : Call = exported check_take_code.code check_take_code.name (check_take_call state byte) in
        returns 𝓛 𝓜 𝓡 γ call check_take.signature (λ 𝓤₁ 𝓛₁. check_take.spec 𝓛₁) check_take_kept.met
        (λ loans. ((lifetimes_of call.args loans, shares_of call.args, tt, args_of 0 call.args loans, valss_of 0 call.args loans), tt)) (refl, refl, refl)

  module _ (bytes-at : Place) (bytes : List ℕ) where
    pub check_value_returns : Returns 𝓤 H 𝓜 γ (exported check_value_code.code check_value_code.name (check_value_call bytes-at bytes))
    check_value_returns =
        let call : Call = exported check_value_code.code check_value_code.name (check_value_call bytes-at bytes) in
        returns 𝓛 𝓜 𝓡 γ call check_value.signature (λ 𝓤₁ 𝓛₁. check_value.spec 𝓛₁) check_value_kept.met
        (λ loans. ((lifetimes_of call.args loans, shares_of call.args, tt, args_of 0 call.args loans, valss_of 0 call.args loans), tt)) (refl, refl, refl)

  module _ (sheet-at : Place) (sheet : List ℕ) where
    pub sheet_check_returns : Returns 𝓤 H 𝓜 γ (exported sheet_check_code.code sheet_check_code.name (sheet_check_call sheet-at sheet))
    sheet_check_returns =
        let call : Call = exported sheet_check_code.code sheet_check_code.name (sheet_check_call sheet-at sheet) in
        returns 𝓛 𝓜 𝓡 γ call sheet_check.signature (λ 𝓤₁ 𝓛₁. sheet_check.spec 𝓛₁) sheet_check_kept.met
        (λ loans. ((lifetimes_of call.args loans, shares_of call.args, tt, args_of 0 call.args loans, valss_of 0 call.args loans), tt)) (refl, refl, refl)

  module _ (sheet-at bank-at : Place) (sheet bank : List ℕ) where
    pub bank_check_returns : Returns 𝓤 H 𝓜 γ (exported bank_check_code.code bank_check_code.name (bank_check_call sheet-at bank-at sheet bank))
    bank_check_returns =
        let call : Call = exported bank_check_code.code bank_check_code.name (bank_check_call sheet-at bank-at sheet bank) in
        returns 𝓛 𝓜 𝓡 γ call bank_check.signature (λ 𝓤₁ 𝓛₁. bank_check.spec 𝓛₁) bank_check_kept.met
        (λ loans. ((lifetimes_of call.args loans, shares_of call.args, tt, args_of 0 call.args loans, valss_of 0 call.args loans), tt)) (refl, refl, refl)

  module _ (sheet-at bank-at : Place) (sheet bank : List ℕ) where
    pub bank_fresh_returns : Returns 𝓤 H 𝓜 γ (exported bank_fresh_code.code bank_fresh_code.name (bank_fresh_call sheet-at bank-at sheet bank))
    bank_fresh_returns =
        let call : Call = exported bank_fresh_code.code bank_fresh_code.name (bank_fresh_call sheet-at bank-at sheet bank) in
        returns 𝓛 𝓜 𝓡 γ call bank_fresh.signature (λ 𝓤₁ 𝓛₁. bank_fresh.spec 𝓛₁) bank_fresh_kept.met
        (λ loans. ((lifetimes_of call.args loans, shares_of call.args, tt, args_of 0 call.args loans, valss_of 0 call.args loans), tt)) (refl, refl, refl)

  module _ (sheet-at bank-at words-at : Place) (sheet bank words : List ℕ) (address : ℕ) where
    pub post_returns : Returns 𝓤 H 𝓜 γ (exported post_code.code post_code.name (post_call sheet-at bank-at words-at sheet bank words address))
    post_returns =
        let call : Call = exported post_code.code post_code.name (post_call sheet-at bank-at words-at sheet bank words address) in
        returns 𝓛 𝓜 𝓡 γ call post.signature (λ 𝓤₁ 𝓛₁. post.spec 𝓛₁) post_kept.met
        (λ loans. ((lifetimes_of call.args loans, shares_of call.args, tt, args_of 0 call.args loans, valss_of 0 call.args loans), tt)) (refl, refl, refl)

  module _ (sheet-at bank-at : Place) (sheet bank : List ℕ) (mark : ℕ) where
    pub set_mark_returns : Returns 𝓤 H 𝓜 γ (exported set_mark_code.code set_mark_code.name (set_mark_call sheet-at bank-at sheet bank mark))
    set_mark_returns =
        let call : Call = exported set_mark_code.code set_mark_code.name (set_mark_call sheet-at bank-at sheet bank mark) in
        returns 𝓛 𝓜 𝓡 γ call set_mark.signature (λ 𝓤₁ 𝓛₁. set_mark.spec 𝓛₁) set_mark_kept.met
        (λ loans. ((lifetimes_of call.args loans, shares_of call.args, tt, args_of 0 call.args loans, valss_of 0 call.args loans), tt)) (refl, refl, refl)

  module _ (sheet-at ring-at : Place) (sheet ring : List ℕ) where
    pub ring_check_returns : Returns 𝓤 H 𝓜 γ (exported ring_check_code.code ring_check_code.name (ring_check_call sheet-at ring-at sheet ring))
    ring_check_returns =
        let call : Call = exported ring_check_code.code ring_check_code.name (ring_check_call sheet-at ring-at sheet ring) in
        returns 𝓛 𝓜 𝓡 γ call ring_check.signature (λ 𝓤₁ 𝓛₁. ring_check.spec 𝓛₁) ring_check_kept.met
        (λ loans. ((lifetimes_of call.args loans, shares_of call.args, tt, args_of 0 call.args loans, valss_of 0 call.args loans), tt)) (refl, refl, refl)

  module _ (sheet-at ring-at bytes-at : Place) (sheet ring bytes : List ℕ) where
    pub add_record_returns : Returns 𝓤 H 𝓜 γ (exported add_record_code.code add_record_code.name (add_record_call sheet-at ring-at bytes-at sheet ring bytes))
    add_record_returns =
        let call : Call = exported add_record_code.code add_record_code.name (add_record_call sheet-at ring-at bytes-at sheet ring bytes) in
        returns 𝓛 𝓜 𝓡 γ call add_record.signature (λ 𝓤₁ 𝓛₁. add_record.spec 𝓛₁) add_record_kept.met
        (λ loans. ((lifetimes_of call.args loans, shares_of call.args, tt, args_of 0 call.args loans, valss_of 0 call.args loans), tt)) (refl, refl, refl)

  module _ (sheet-at bank-at ring-at frame_at buffer-at length_at rate_at : Place) (sheet bank ring frame buffer : List ℕ) (length rate : ℕ) where
    pub answer_returns : Returns 𝓤 H 𝓜 γ (exported answer_code.code answer_code.name (answer_call sheet-at bank-at ring-at frame_at buffer-at length_at rate_at sheet bank ring frame buffer length rate))
    answer_returns =
        let call : Call = exported answer_code.code answer_code.name (answer_call sheet-at bank-at ring-at frame_at buffer-at length_at rate_at sheet bank ring frame buffer length rate) in
        returns_both 𝓛 𝓜 𝓡 γ call answer.signature (λ 𝓤₁ 𝓛₁. answer.spec 𝓛₁) _ _ (λ number left both. both) answer_kept.met
        (λ loans. ((lifetimes_of call.args loans, shares_of call.args, tt, args_of 0 call.args loans, valss_of 0 call.args loans), tt)) (refl, refl, refl)

  module _ (sheet-at bank-at ring-at frame_at reason-at address-at side-at : Place) (sheet bank ring frame : List ℕ) (reason address side : ℕ) where
    pub why_returns : Returns 𝓤 H 𝓜 γ (exported why_code.code why_code.name (why_call sheet-at bank-at ring-at frame_at reason-at address-at side-at sheet bank ring frame reason address side))
    why_returns =
        let call : Call = exported why_code.code why_code.name (why_call sheet-at bank-at ring-at frame_at reason-at address-at side-at sheet bank ring frame reason address side) in
        returns_both 𝓛 𝓜 𝓡 γ call why.signature (λ 𝓤₁ 𝓛₁. why.spec 𝓛₁) _ _ (λ number left both. both) why_kept.met
        (λ loans. ((lifetimes_of call.args loans, shares_of call.args, tt, args_of 0 call.args loans, valss_of 0 call.args loans), tt)) (refl, refl, refl)

  module _ (values-at buffer-at length_at : Place) (order station address number : ℕ) (values buffer : List ℕ) (length : ℕ) where
    pub query_returns : Returns 𝓤 H 𝓜 γ (exported query_code.code query_code.name (query_call values-at buffer-at length_at order station address number values buffer length))
    query_returns =
        let call : Call = exported query_code.code query_code.name (query_call values-at buffer-at length_at order station address number values buffer length) in
        returns_both 𝓛 𝓜 𝓡 γ call query_door.signature (λ 𝓤₁ 𝓛₁. query_door.spec 𝓛₁) _ _ (λ number left both. both) query_kept.met
        (λ loans. ((lifetimes_of call.args loans, shares_of call.args, tt, args_of 0 call.args loans, valss_of 0 call.args loans), tt)) (refl, refl, refl)

  module _ (values-at reply-at buffer-at length_at error-at : Place) (order station address number : ℕ) (values reply buffer : List ℕ) (length error : ℕ) where
    pub reply_returns : Returns 𝓤 H 𝓜 γ (exported reply_code.code reply_code.name (reply_call values-at reply-at buffer-at length_at error-at order station address number values reply buffer length error))
    reply_returns =
        let call : Call = exported reply_code.code reply_code.name (reply_call values-at reply-at buffer-at length_at error-at order station address number values reply buffer length error) in
        returns_both 𝓛 𝓜 𝓡 γ call reply_door.signature (λ 𝓤₁ 𝓛₁. reply_door.spec 𝓛₁) _ _ (λ number left both. both) reply_kept.met
        (λ loans. ((lifetimes_of call.args loans, shares_of call.args, tt, args_of 0 call.args loans, valss_of 0 call.args loans), tt)) (refl, refl, refl)
