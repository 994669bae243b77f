-- The looks that come first, and then the loop of `ends_below` with starts.
use native.Mathlib.Omega.{arith}
use Rattle.ranges.proofs.Quarters.{seek_starts}
use Rattle.ranges.proofs.view.Ranges.starts_below.Goals as goal

pub loop-len-init : goal.loop-len-init
loop-len-init c = (seek_starts c.args.self.ruled c.requires.parted, omega arith)
