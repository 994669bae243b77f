-- The count is that of the rows.
use mathlib.Core.Path.{sym}
use Rattle.ranges.proofs.Flat.{length-rows}
use Rattle.ranges.proofs.view.Ranges.len.Goals as goal

pub returns : goal.returns
returns c = sym (length-rows _ _ c.args.self.ruled.fits)
