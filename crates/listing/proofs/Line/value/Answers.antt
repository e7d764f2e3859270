-- `listing::Line::value` meets its contract: the number of a 32-bit value is small enough. Assumes nothing.
use Rattle.std.proofs.Common.{◌≡◌, ◌^◌, ◌<◌, ℤ, nat_abs, w64, ◌∙◌}
use mathlib.Core.Path.{subst⁻¹}
use mir.Val.{of_z, to_z}
use mir.ValLaws.{to_z-of_z}
use Rattle.range.specs.Range.{number_of}
use Rattle.listing.proofs.Signs.{number_small}
use Rattle.listing.proofs.Line.value.Goals as goal

-- the number, as it is handed on
number_read : (c : goal.After-number) → to_z w64 (of_z w64 c.number.result) ≡ number_of c.args.kind c.args.value
number_read c = to_z-of_z w64 c.number.result (record { sfits = c.number.type_inv }) ∙ c.number.ensures

pub signed-requires : goal.signed-requires
signed-requires c =
    let a = c.args in
    subst⁻¹ (λ (n : ℤ). nat_abs n < 2 ^ 32) (number_read c) (number_small a.kind a.value c.ranges.value.fits)
