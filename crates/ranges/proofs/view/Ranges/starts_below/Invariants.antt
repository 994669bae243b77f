-- The looks that come first, and then the loop of `ends_below` with starts.
use Prim.Native.Nat.{◌≤◌}
use Rattle.tables.specs.Inner.Edit.{starts}
use Rattle.ranges.specs.Inner.{row_at}
use Rattle.ranges.proofs.Quarters.{Seek}
use Rattle.ranges.proofs.view.Ranges.starts_below.Given as goal

abbrev pub invariant-loop-len : goal.invariant-loop-len
invariant-loop-len l = Seek (starts (row_at l.fn.self.flat.now)) l.fn.self.flat.now l.fn.self.count l.x l.lo l.len × (l.fn.i ≤ l.lo)

abbrev pub decreases-loop-len : goal.decreases-loop-len
decreases-loop-len l = l.len
