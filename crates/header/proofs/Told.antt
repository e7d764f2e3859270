-- What a checked header tells of its sheet. Assumes nothing.
use Prim.Native.Nat.{ℕ}
use mathlib.Core.Path.{◌≡◌, refl, sym, ◌∙◌}
use mathlib.Core.Bool.{Bool, true, false, cond}
use mathlib.Core.List.{List}
use Rattle.std.specs.Prelude.{Option, Some, None}
use Rattle.sheet_rules.specs.declared.Header.{Header}
use Rattle.sheet_rules.specs.Rows.{header_of}
use Rattle.sheet_rules.specs.Rules.{header_sound}
use Rattle.header.specs.Checked.{checked_header}

module _ (sheet : List ℕ) where
  pub sound_told : {checked : (Option Header)} {header : Header} → checked ≡ checked_header sheet → checked ≡ Some header
      → (header_sound sheet ≡ true) × (header ≡ header_of sheet)
  sound_told {checked} {header} is told = go (header_sound sheet) (sym told ∙ is)
    where
      go : (b : Bool) → Some header ≡ cond b (Some (header_of sheet)) None → (b ≡ true) × (header ≡ header_of sheet)
      go true e = (refl, cc)
      go false e = cc

  pub broken_told : {checked : (Option Header)} → checked ≡ checked_header sheet → checked ≡ None → header_sound sheet ≡ false
  broken_told is told = go (header_sound sheet) (sym told ∙ is)
    where
      go : (b : Bool) → None ≡ cond b (Some (header_of sheet)) None → b ≡ false
      go true e = cc
      go false e = refl
