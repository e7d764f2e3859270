-- `controller::asked::Framed::lay` meets its contract: the head, the values of several writes, and the check. Assumes nothing.
use Rattle.std.proofs.Common.{◌≡◌, ℕ, ◌+◌, ◌<◌, ◌≤◌, refl, sym, ap, ap₂, ◌∙◌, arith, List, [], ◌∷◌, ◌++◌, append_assoc, length, take, length-append}
use Rattle.std.proofs.Math.ListN.{set}
use lib.Seq.{take_at, take-length}
use borrow.Author.Tests.{eq-eqb, ne_eqb}
use Rattle.frame.specs.Frame.{writes_many}
use Rattle.frame.specs.Reply.{laid, fill}
use Rattle.frame.proofs.Laying.{laid_over, then_byte, then_sealed}
use Rattle.frame.proofs.Reading.{check_length}
use Rattle.controller.specs.Stages.{asked_of, head}
use Rattle.controller.proofs.Building.{body, body_of}
use Rattle.controller.proofs.asked.Framed.lay.Goals as goal
use Rattle.controller.proofs.asked.Framed.lay.Goals.{then-self-eq-WRITES_MANY, else-self-eq-WRITES_MANY}

-- the byte count and the values, behind six bytes that lie in a buffer already
values_behind : (six values buffer : List ℕ) {one all : List ℕ} → length six ≡ 6 → 6 < length buffer
    → one ≡ set (laid six buffer) 6 (length values) → all ≡ laid (take 7 one ++ take (length values) values) one
    → all ≡ laid (six ++ (length values ∷ values)) buffer
values_behind six values buffer {one} {all} long room counted copied =
    let seven = six ++ (length values ∷ []) in
    let here = length-append six (length values ∷ []) ∙ ap (λ (n : ℕ). n + 1) long in
    let one_is : one ≡ laid seven buffer =
    then_byte buffer six refl (length values) (omega arith) (counted ∙ ap (λ (n : ℕ). set (laid six buffer) n (length values)) (sym long)) in
    copied
    ∙ ap (λ (l : List ℕ). laid (take 7 l ++ take (length values) values) l) one_is
    ∙ ap₂ (λ (front behind : List ℕ). laid (front ++ behind) (laid seven buffer)) (take_at seven _ 7 here) (take-length values)
    ∙ laid_over seven values buffer
    ∙ ap (λ (l : List ℕ). laid l buffer) (append_assoc six (length values ∷ []) values)

pub returns : goal.returns
returns c =
    let asked = c.args.self.asked in
    let wanted = c.args.self.wanted in
    let values = asked.values.now in
    let buffer = c.args.buffer.now in
    let six = head asked.station wanted in
    let end = c.if-self-eq-WRITES_MANY.end in
    let bytes = body asked.station wanted values in
    let in_front : (length bytes ≡ end) × (end + 2 ≤ length buffer) × (c.if-self-eq-WRITES_MANY.buffer ≡ laid bytes buffer) =
    elim c.if-self-eq-WRITES_MANY.branch [
      | then-self-eq-WRITES_MANY w ↦
          let few = c.args.self.values_fit w.if-self-eq-WRITES_MANY.true in
          simp (eq-eqb wanted.function writes_many w.if-self-eq-WRITES_MANY.true) (
            omega (arith, w.end-is),
            omega (arith, w.end-is, few),
            w.buffer-is ∙ values_behind six values buffer refl (omega arith)
                (w.store_byte.ensures ∙ ap (λ (l : List ℕ). set l 6 (length values)) c.lay_head.ensures) w.copy.ensures,
          )
      | else-self-eq-WRITES_MANY w ↦
          simp (ne_eqb wanted.function writes_many w.if-self-eq-WRITES_MANY.false)
          (sym w.end-is, omega (arith, w.end-is), w.buffer-is ∙ c.lay_head.ensures)
    ] in
    ap₂ fill (omega (arith, check_length bytes, in_front.0)) (then_sealed buffer bytes in_front.2 end in_front.0 in_front.1 c.seal.ensures)
    ∙ ap (λ (q : List ℕ). fill (length q) (laid q buffer)) (body_of (asked_of asked) c.args.self.shows)
