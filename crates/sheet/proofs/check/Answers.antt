-- `sheet::check` meets its contract: each return by the tests that led there. Assumes nothing.
use Rattle.std.proofs.Common.{true, false, sym, ◌∙◌}
use Rattle.sheet_rules.specs.Rules.{sound}
use Rattle.sheet_rules.proofs.Sound.{rest_of, sheet_answered}
use Rattle.header.proofs.Told.{sound_told, broken_told}
use Rattle.sheet.proofs.check.Goals as goal
use Rattle.sheet.proofs.check.Goals.{else-areas_sound-via-then-areas_sound+then-items_and_settings_sound+else-records_sound, else-areas_sound-via-then-areas_sound+else-items_and_settings_sound, else-areas_sound-via-else-areas_sound}

pub returns-in_default : goal.returns-in_default
unfolding sound
returns-in_default c = sheet_answered c.args.sheet.now {right = false} (simp (broken_told c.args.sheet.now c.check.ensures c.in_default.is))

pub returns-else-areas_sound : goal.returns-else-areas_sound
unfolding sound
returns-else-areas_sound c =
    let s = c.args.sheet.now in
    let header = (sound_told s c.check.ensures c.in-Some.is).0 in
    sheet_answered s {right = false} (
    elim c.else-areas_sound.branch [
      | else-areas_sound-via-then-areas_sound+then-items_and_settings_sound+else-records_sound w ↦
          rest_of s header (sym c.areas_sound.ensures ∙ w.if-areas_sound.true) ∙ simp (
            sym w.items_and_settings_sound.ensures ∙ w.if-items_and_settings_sound.true,
            sym w.records_sound.ensures ∙ w.if-records_sound.false,
          )
      | else-areas_sound-via-then-areas_sound+else-items_and_settings_sound w ↦
          rest_of s header (sym c.areas_sound.ensures ∙ w.if-areas_sound.true)
          ∙ simp (sym w.items_and_settings_sound.ensures ∙ w.if-items_and_settings_sound.false)
      | else-areas_sound-via-else-areas_sound w ↦ simp (header, sym c.areas_sound.ensures ∙ w.if-areas_sound.false)
    ]
    )

pub returns-then-records_sound : goal.returns-then-records_sound
unfolding sound
returns-then-records_sound c =
    let s = c.args.sheet.now in
    sheet_answered s {right = true}
    (rest_of s (sound_told s c.check.ensures c.in-Some.is).0 (sym c.areas_sound.ensures ∙ c.if-areas_sound.true) ∙ simp (
      sym c.items_and_settings_sound.ensures ∙ c.if-items_and_settings_sound.true,
      sym c.records_sound.ensures ∙ c.if-records_sound.true,
    ))
