-- `sheet::headed::Headed::all_apart` meets its contract: the rule goes on row by row. Assumes nothing.
use Rattle.std.proofs.Common.{◌≡◌, sym, ap, ◌∙◌, List, ◌∷◌, ℕ, ◌+◌, ◌<◌, ◌≤◌, arith}
use Rattle.lists.specs.Lists.{each}
use Rattle.lists.proofs.Walks.{rows_on, rows_all, rows_end_lem, each_goes_on, each_stops, each_ends}
use Rattle.sheet_rules.specs.declared.Area.{Area}
use Rattle.sheet_rules.specs.Rows.{areas, area_at, area_count}
use Rattle.sheet_rules.specs.Rules.{apart_rule}
use Rattle.sheet_rules.proofs.Rows.{areas_from, areas_rows}
use Rattle.sheet.proofs.HeaderWords.{areas_is}
use Rattle.sheet.proofs.headed.Headed.all_apart.Goals as goal

next_row : (sheet : List ℕ) (k : ℕ) {area : Area} → area ≡ area_at sheet k → k < area_count sheet
    → areas_from sheet k ≡ area ∷ areas_from sheet (k + 1)
next_row sheet k here inside =
    rows_on (area_at sheet) k (area_count sheet) inside ∙ ap (λ (a : Area). a ∷ areas_from sheet (k + 1)) (sym here)

pub loop-k-init : goal.loop-k-init
loop-k-init c =
    let s = c.args.self.sheet.now in
    ap (each (apart_rule c.args.records)) (rows_all (area_at s) (area_count s) ∙ areas_rows s)

pub returns-then-not-apart : goal.returns-then-not-apart
returns-then-not-apart c =
    let s = c.args.self.sheet.now in
    let k = c.loop-k.k in
    let rule = apart_rule c.args.records in
    let inside : k < area_count s = omega (arith, areas_is c.args.self) in
    sym (each_stops rule (areas_from s k) (areas_from s (k + 1)) c.area_row.result (next_row s k c.area_row.ensures inside) (each rule (areas s))
    c.loop-k.invariant (sym c.apart.ensures ∙ c.if-not-apart.true))

pub loop-k-preserved : goal.loop-k-preserved
loop-k-preserved c =
    let s = c.args.self.sheet.now in
    let k = c.loop-k.k in
    let rule = apart_rule c.args.records in
    let inside : k < area_count s = omega (arith, areas_is c.args.self) in
    each_goes_on rule (areas_from s k) (areas_from s (k + 1)) c.area_row.result (next_row s k c.area_row.ensures inside) (each rule (areas s))
    c.loop-k.invariant (sym c.apart.ensures ∙ c.if-not-apart.false)

pub returns : goal.returns
returns c =
    let s = c.args.self.sheet.now in
    let k = c.loop-k.k in
    let rule = apart_rule c.args.records in
    let past : area_count s ≤ k = omega (arith, areas_is c.args.self) in
    sym (each_ends rule (areas_from s k) (each rule (areas s)) (rows_end_lem (area_at s) k (area_count s) past) c.loop-k.invariant)
