-- The rows are a table exactly if all were tested.
use native.Mathlib.Omega.{arith}
use Rattle.tables.proofs.Climbing.{rose_all}
use Rattle.ranges.proofs.Looking.{says_ruled}
use Rattle.ranges.proofs.view.well_formed.Goals as goal

pub returns : goal.returns
returns c = says_ruled (omega arith) (omega arith) (rose_all _ c.loop-i.invariant (omega arith))
