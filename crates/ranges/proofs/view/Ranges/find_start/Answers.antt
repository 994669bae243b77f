-- The rows are parted at the clock, and the first behind the parting is the answer, if there is one.
use native.Mathlib.Omega.{arith}
use Rattle.ranges.proofs.Asking.{found_at, found_none}
use Rattle.ranges.proofs.view.Ranges.find_start.Goals as goal

pub returns-then-self-i : goal.returns-then-self-i
returns-then-self-i c = found_none _ _ _ _ c.ends_below-i.ensures c.if-self-i.true c.args.self.ruled

pub returns : goal.returns
returns c = found_at _ _ _ _ c.ends_below-i.ensures (omega arith) c.args.self.ruled
