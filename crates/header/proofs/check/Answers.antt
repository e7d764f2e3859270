-- `header::check` meets its contract: after each `&&` the answer so far is the rules so far. Assumes nothing.
use Rattle.std.proofs.Common.{◌≡◌, sym, ap, ◌∙◌, eqb, ◌+◌, ◌*◌, length, Bool, true, false, ◌&&◌, Some}
use Rattle.lists.specs.Lists.{between}
use Rattle.lists.proofs.Tests.{tested, carried}
use Rattle.sheet_rules.specs.Rules.{header_sound}
use Rattle.sheet_rules.specs.declared.Header.{Header}
use Rattle.header.proofs.check.Goals as goal
use Rattle.header.proofs.check.Goals.{Joined-between-6}
use Rattle.header.proofs.check.Goals.{then-between, else-between, then-between-2, else-between-2, then-header-eq12, else-header-eq12}
use Rattle.header.proofs.check.Goals.{then-between-3, else-between-3, then-header-areas, else-header-areas, then-between-4, else-between-4}
use Rattle.header.proofs.check.Goals.{then-between-5, else-between-5, then-header-areas-2, else-header-areas-2, then-between-6, else-between-6}

-- the rules of a header, but for the last one, by its words
module _ (h : Header) where
  abbrev rules-2 : Bool
  rules-2 = between 1 2 h.version && between 1 8 h.areas

  abbrev rules-3 : Bool
  rules-3 = rules-2 && eqb h.area_offset 12

  abbrev rules-4 : Bool
  rules-4 = rules-3 && between 2 64 h.items

  abbrev rules-5 : Bool
  rules-5 = rules-4 && eqb h.item_offset (12 + 4 * h.areas)

  abbrev rules-6 : Bool
  rules-6 = rules-5 && between 2 256 h.bank

  abbrev rules-7 : Bool
  rules-7 = rules-6 && between 0 15 h.functions

  abbrev rules-8 : Bool
  rules-8 = rules-7 && eqb h.words (12 + 4 * h.areas + 6 * h.items + 3 * h.record_areas)

  abbrev rules-9 : Bool
  rules-9 = rules-8 && between 0 1 h.record_areas

all : (c : Joined-between-6) → c.if-between-6.sound ≡ header_sound c.args.sheet.now
unfolding header_sound
all c =
    let h = c.header-header.result in
    let s = c.args.sheet.now in
    let so_far-1 : c.if-between.value ≡ rules-2 h = elim c.if-between.branch [
      | then-between w ↦ tested c.between.ensures w.if-between.true (w.value-is ∙ w.between-then-between.ensures)
      | else-between w ↦ carried (between 1 8 h.areas) c.between.ensures w.if-between.false w.value-is
    ] in
    let so_far-2 : c.if-between-2.value ≡ rules-3 h = elim c.if-between-2.branch [
      | then-between-2 w ↦ tested so_far-1 w.if-between-2.true w.value-is
      | else-between-2 w ↦ carried (eqb h.area_offset 12) so_far-1 w.if-between-2.false w.value-is
    ] in
    let so_far-3 : c.if-header-eq12.value ≡ rules-4 h = elim c.if-header-eq12.branch [
      | then-header-eq12 w ↦ tested so_far-2 w.if-header-eq12.true (w.value-is ∙ w.between-then-header-eq12.ensures)
      | else-header-eq12 w ↦ carried (between 2 64 h.items) so_far-2 w.if-header-eq12.false w.value-is
    ] in
    let so_far-4 : c.if-between-3.value ≡ rules-5 h = elim c.if-between-3.branch [
      | then-between-3 w ↦ tested so_far-3 w.if-between-3.true w.value-is
      | else-between-3 w ↦ carried (eqb h.item_offset (12 + 4 * h.areas)) so_far-3 w.if-between-3.false w.value-is
    ] in
    let so_far-5 : c.if-header-areas.value ≡ rules-6 h = elim c.if-header-areas.branch [
      | then-header-areas w ↦ tested so_far-4 w.if-header-areas.true (w.value-is ∙ w.between-then-header-areas.ensures)
      | else-header-areas w ↦ carried (between 2 256 h.bank) so_far-4 w.if-header-areas.false w.value-is
    ] in
    let so_far-6 : c.if-between-4.value ≡ rules-7 h = elim c.if-between-4.branch [
      | then-between-4 w ↦ tested so_far-5 w.if-between-4.true (w.value-is ∙ w.between-then-between-4.ensures)
      | else-between-4 w ↦ carried (between 0 15 h.functions) so_far-5 w.if-between-4.false w.value-is
    ] in
    let so_far-7 : c.if-between-5.value ≡ rules-8 h = elim c.if-between-5.branch [
      | then-between-5 w ↦ tested so_far-6 w.if-between-5.true w.value-is
      | else-between-5 w ↦ carried (eqb h.words (12 + 4 * h.areas + 6 * h.items + 3 * h.record_areas)) so_far-6 w.if-between-5.false w.value-is
    ] in
    let so_far-8 : c.if-header-areas-2.value ≡ rules-9 h = elim c.if-header-areas-2.branch [
      | then-header-areas-2 w ↦ tested so_far-7 w.if-header-areas-2.true (w.value-is ∙ w.between-then-header-areas-2.ensures)
      | else-header-areas-2 w ↦ carried (between 0 1 h.record_areas) so_far-7 w.if-header-areas-2.false w.value-is
    ] in
    let all : c.if-between-6.sound ≡ (rules-9 h && eqb (length s) (2 * h.words)) = elim c.if-between-6.branch [
      | then-between-6 w ↦ tested so_far-8 w.if-between-6.true w.sound-is
      | else-between-6 w ↦ carried (eqb (length s) (2 * h.words)) so_far-8 w.if-between-6.false w.sound-is
    ] in
    all ∙ ap (λ (h : Header). rules-9 h && eqb (length s) (2 * h.words)) c.header-header.ensures

pub returns-then-sound : goal.returns-then-sound
returns-then-sound c =
    let sound : header_sound c.args.sheet.now ≡ true = sym (all (goal.at.returns-then-sound c).Joined-between-6) ∙ c.if-sound.true in
    rw sound (ap (λ (h : Header). Some h) c.header-header.ensures)

pub returns-else-sound : goal.returns-else-sound
returns-else-sound c =
    let broken : header_sound c.args.sheet.now ≡ false = sym (all (goal.at.returns-else-sound c).Joined-between-6) ∙ c.if-sound.false in
    rw broken
