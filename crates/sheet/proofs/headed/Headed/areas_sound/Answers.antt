-- `sheet::headed::Headed::areas_sound` meets its contract: the walk goes on row by row, and says what the rules say. Assumes nothing.
use Rattle.std.proofs.Common.{sym, ap, ap₂, ◌∙◌, Bool, ℕ, ◌<◌, ◌≤◌, eqb, arith}
use Rattle.sheet_rules.specs.Rows.{version, area_at, area_count, bank_words, clear_address}
use Rattle.sheet_rules.specs.Rules.{allowed, bit_of05}
use Rattle.sheet_rules.proofs.Rows.{areas_from, areas_rows}
use Rattle.lists.proofs.Walks.{rows_all}
use Rattle.sheet.proofs.Areas.{walk, walk_on, walk_next, walk_end, walk_sound, word_broken, allowed_word, kept_word}
use Rattle.sheet.proofs.HeaderWords.{areas_is, bank_is, clear_is, functions_is, version_is}
use Rattle.sheet.proofs.headed.Headed.areas_sound.Goals as goal

pub returns-then-not-clear_sound_without_05 : goal.returns-then-not-clear_sound_without_05
returns-then-not-clear_sound_without_05 c =
    let s = c.args.self.sheet.now in
    sym (word_broken s (kept_word s (functions_is c.args.self) c.sums_05-allowed.ensures (clear_is c.args.self)
    ∙ sym c.clear_sound_without_05.ensures ∙ c.if-not-clear_sound_without_05.true))

pub loop-k-init : goal.loop-k-init
loop-k-init c =
    let s = c.args.self.sheet.now in
    let kept = c.sums_05-allowed in
    let functions_word = functions_is c.args.self in
    let clear_word = clear_is c.args.self in
    record {
      small = omega arith;
      asked =
          ap (λ (v : ℕ). walk v kept.result c.args.self.header.clear (bank_words s) 0 0 (areas_from s 0)) (version_is c.args.self)
          ∙ ap₂ (λ (kept : Bool) (clear : ℕ). walk (version s) kept clear (bank_words s) 0 0 (areas_from s 0))
          (allowed_word s functions_word kept.ensures) clear_word
          ∙ ap (walk (version s) (allowed s bit_of05) (clear_address s) (bank_words s) 0 0) (rows_all (area_at s) (area_count s) ∙ areas_rows s)
          ∙ walk_sound s (kept_word s functions_word kept.ensures clear_word
          ∙ sym c.clear_sound_without_05.ensures ∙ c.if-not-clear_sound_without_05.false);
    }

pub returns-then-not-area_sound : goal.returns-then-not-area_sound
returns-then-not-area_sound c =
    let s = c.args.self.sheet.now in
    let h = c.args.self.header in
    let inside : c.loop-k.k < area_count s = omega (arith, areas_is c.args.self) in
    sym (walk_on s h.version c.sums_05-allowed.result h.clear (bank_words s) c.loop-k.lowest c.loop-k.places c.loop-k.k
    c.area_row-area.result c.area_row-area.ensures inside
    ∙ simp (sym c.area_sound.ensures ∙ c.if-not-area_sound.true))
    ∙ c.loop-k.invariant.asked

pub returns-then-not-clear_outside : goal.returns-then-not-clear_outside
returns-then-not-clear_outside c =
    let s = c.args.self.sheet.now in
    let h = c.args.self.header in
    let inside : c.loop-k.k < area_count s = omega (arith, areas_is c.args.self) in
    sym (walk_on s h.version c.sums_05-allowed.result h.clear (bank_words s) c.loop-k.lowest c.loop-k.places c.loop-k.k
    c.area_row-area.result c.area_row-area.ensures inside
    ∙ simp (sym c.area_sound.ensures ∙ c.if-not-area_sound.false, sym c.clear_outside.ensures ∙ c.if-not-clear_outside.true))
    ∙ c.loop-k.invariant.asked

pub loop-k-preserved : goal.loop-k-preserved
loop-k-preserved c =
    let s = c.args.self.sheet.now in
    let h = c.args.self.header in
    let inside : c.loop-k.k < area_count s = omega (arith, areas_is c.args.self) in
    record {
      small = omega (arith, c.length_of-places.ensures);
      asked =
          sym (walk_next s h.version c.sums_05-allowed.result h.clear (bank_words s) c.loop-k.lowest c.loop-k.places c.loop-k.k
          c.area_row-area.result c.area_row-area.ensures inside
          (sym c.area_sound.ensures ∙ c.if-not-area_sound.false) (sym c.clear_outside.ensures ∙ c.if-not-clear_outside.false)
          c.length_of-places.ensures)
          ∙ c.loop-k.invariant.asked;
    }

pub returns : goal.returns
returns c =
    let s = c.args.self.sheet.now in
    let h = c.args.self.header in
    let past : area_count s ≤ c.loop-k.k = omega (arith, areas_is c.args.self) in
    ap (eqb c.loop-k.places) (bank_is c.args.self)
    ∙ sym (walk_end s h.version c.sums_05-allowed.result h.clear (bank_words s) c.loop-k.lowest c.loop-k.places c.loop-k.k past)
    ∙ c.loop-k.invariant.asked
