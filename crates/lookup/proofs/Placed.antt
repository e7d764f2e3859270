-- The place of a start, as a walk over the areas knows it: found, or else what later areas say. Assumes nothing.
use mathlib.Core.Path.{◌≡◌, sym, ap, ap₂, ◌∙◌}
use mathlib.Core.Bool.{Bool, true, false, cond}
use Prim.Native.Nat.{ℕ}

abbrev pub Placed : Bool → ℕ → ℕ → ℕ → Type 0
Placed found place later whole = (cond found place 0 ≡ place) × (cond found place later ≡ whole)

-- behind an area: found before, found in it, or not yet
module _ (at later whole before : ℕ) (was held : Bool) (inv : Placed was before (cond held at later) whole) (found : Bool) (place : ℕ) where
  same_placed : found ≡ was → place ≡ before → cond was before (cond held at later) ≡ cond was before later → Placed found place later whole
  same_placed same stays behind = (
    ap₂ (λ (f : Bool) (p : ℕ). cond f p 0) same stays ∙ inv.0 ∙ sym stays,
    ap₂ (λ (f : Bool) (p : ℕ). cond f p later) same stays ∙ sym behind ∙ inv.1,
  )

  pub found_earlier : was ≡ true → found ≡ was → place ≡ before → Placed found place later whole
  found_earlier already same stays = same_placed same stays (simp already)

  pub not_here : held ≡ false → found ≡ was → place ≡ before → Placed found place later whole
  not_here outside same stays = same_placed same stays (simp outside)

  pub found_now : was ≡ false → held ≡ true → found ≡ true → place ≡ at → Placed found place later whole
  found_now open_yet inside so there = (
    ap (λ (f : Bool). cond f place 0) so,
    ap₂ (λ (f : Bool) (p : ℕ). cond f p later) so there ∙ sym (ap₂ (λ (f h : Bool). cond f before (cond h at later)) open_yet inside) ∙ inv.1,
  )
