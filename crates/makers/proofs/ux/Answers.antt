-- `makers::ux` meets its contract: its bytes are those of the map's sheet, by computation. Assumes nothing.
use Rattle.std.proofs.Common.{refl}
use Rattle.makers.specs.Sheets.{sheet_of}
use Rattle.makers.proofs.ux.Goals as goal

pub returns : goal.returns
unfolding sheet_of
returns c = refl
