-- `makers::aswe` meets its contract: the bound of a bore is a byte, so that it fills the lowest byte of its two words alone.
-- Assumes nothing.
use Rattle.std.proofs.Common.{◌≡◌, ◌/◌, ◌%◌, ◌<◌, arith}
use Rattle.makers.specs.Sheets.{sheet_of}
use Rattle.makers.proofs.aswe.Goals as goal

pub returns : goal.returns
unfolding sheet_of
returns c =
    let bore = c.args.bore in
    let small : bore < 256 = c.ranges.bore.fits in
    let first : bore / 65536 ≡ 0 = omega arith in
    let second : bore % 65536 ≡ bore = omega arith in
    let third : bore / 256 ≡ 0 = omega arith in
    let fourth : bore % 256 ≡ bore = omega arith in
    simp (first, second, third, fourth)
