-- `bank_steps::all_read_only` meets its contract: each address is looked up, and one that lies in an access 1 area is at most FFFF. Assumes nothing.
use Rattle.std.proofs.Common.{ℕ, ◌+◌, ◌-◌, Bool, ◌≡◌, sym, ap, ap₂, ◌∙◌, arith}
use Rattle.sheet_rules.specs.Rows.{areas}
use Rattle.sheet_rules.specs.Lookup.{lies_in}
use Rattle.lists.specs.Lists.{up_from}
use Rattle.lists.proofs.Walks.{up_on, up_end, each_goes_on, each_stops, each_ends}
use Rattle.bank_rules.specs.Bank.{is_read_only, all_read_only}
use Rattle.bank_rules.proofs.Posting.{read_only_below}
use Rattle.bank_steps.proofs.all_read_only.Goals as goal

pub loop-k-init : goal.loop-k-init
unfolding all_read_only
loop-k-init c =
    let a = c.args in
    record {
      small = omega arith;
      left =
          ap₂ (λ (first many : ℕ). all_read_only a.sheet.now (up_from first many))
          (let same : a.address + 0 ≡ a.address = omega arith in same) (let same : a.count - 0 ≡ a.count = omega arith in same);
    }

pub returns-then-not-is_read_only : goal.returns-then-not-is_read_only
unfolding all_read_only
returns-then-not-is_read_only c =
    let a = c.args in
    let loop = c.loop-k in
    let next = a.address + loop.k in
    let rule : ℕ → Bool = λ address. is_read_only (lies_in (areas a.sheet.now) address) in
    sym
    (each_stops rule (up_from next (a.count - loop.k)) (up_from (next + 1) (a.count - (loop.k + 1))) next
    (up_on next loop.k a.count (omega arith))
    (all_read_only a.sheet.now (up_from a.address a.count)) loop.invariant.left
    (sym (c.is_read_only.ensures ∙ ap is_read_only c.lies_at.ensures) ∙ c.if-not-is_read_only.true))

pub loop-k-preserved : goal.loop-k-preserved
unfolding all_read_only
loop-k-preserved c =
    let a = c.args in
    let loop = c.loop-k in
    let next = a.address + loop.k in
    let rule : ℕ → Bool = λ address. is_read_only (lies_in (areas a.sheet.now) address) in
    let here = sym (c.is_read_only.ensures ∙ ap is_read_only c.lies_at.ensures) ∙ c.if-not-is_read_only.false in
    record {
      small = omega (arith, read_only_below a.sheet.now (λ i. (c.type_inv.sheet i).fits) next here);
      left =
          ap (λ (first : ℕ). all_read_only a.sheet.now (up_from first (a.count - (loop.k + 1))))
          (let same : a.address + (loop.k + 1) ≡ next + 1 = omega arith in same)
          ∙ each_goes_on rule (up_from next (a.count - loop.k)) (up_from (next + 1) (a.count - (loop.k + 1))) next
          (up_on next loop.k a.count (omega arith))
          (all_read_only a.sheet.now (up_from a.address a.count)) loop.invariant.left here;
    }

pub returns : goal.returns
unfolding all_read_only
returns c =
    let a = c.args in
    let loop = c.loop-k in
    let next = a.address + loop.k in
    sym
    (each_ends (λ (address : ℕ). is_read_only (lies_in (areas a.sheet.now) address)) (up_from next (a.count - loop.k))
    (all_read_only a.sheet.now (up_from a.address a.count)) (up_end next loop.k a.count (omega arith)) loop.invariant.left)
