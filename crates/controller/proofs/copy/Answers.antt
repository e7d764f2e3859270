-- `controller::copy` meets its contract: what is laid grows byte by byte. Assumes nothing.
use Rattle.std.proofs.Common.{◌≡◌, ℕ, ◌+◌, ◌<◌, ap, ◌∙◌, arith, add-one, List, [], ◌∷◌, ◌++◌, append_assoc, length, take, drop, get_or, length-drop}
use Rattle.std.proofs.Math.ListN.{set}
use lib.Seq.{take-suc, get_or-drop, length_paste_head}
use Rattle.frame.specs.Reply.{laid}
use Rattle.frame.proofs.Laying.{laid_byte}
use Rattle.controller.proofs.copy.Goals as goal

-- one byte more
one_more : (from to : List ℕ) (first at k : ℕ) → first + k < length from
    → (take at to ++ take k (drop first from)) ++ (get_or from (first + k) 0 ∷ []) ≡ take at to ++ take (k + 1) (drop first from)
one_more from to first at k inside =
    rw (append_assoc, add-one, take-suc (drop first from) k 0 (omega (arith, length-drop first from)), get_or-drop first from k 0)

pub loop-k-preserved : goal.loop-k-preserved
loop-k-preserved c =
    let from = c.args.from.now in
    let to = c.args.to.now in
    let first = c.args.first in
    let at = c.args.at in
    let k = c.loop-k.k in
    let byte = get_or from (first + k) 0 in
    let long = length_paste_head to at (drop first from) k (omega arith) (omega (arith, length-drop first from)) in
    ap (λ (l : List ℕ). set l (at + k) byte) c.loop-k.invariant
    ∙ laid_byte (take at to ++ take k (drop first from)) to (at + k) byte long (omega arith)
    ∙ ap (λ (l : List ℕ). laid l to) (one_more from to first at k (omega arith))
