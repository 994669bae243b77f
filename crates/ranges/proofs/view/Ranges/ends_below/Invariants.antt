-- The invariant of both loops: the rows before lo end below x, and those from lo + len on do not.
use Rattle.tables.specs.Inner.Edit.{ends}
use Rattle.ranges.specs.Inner.{row_at}
use Rattle.ranges.proofs.Quarters.{Seek}
use Rattle.ranges.proofs.view.Ranges.ends_below.Given as goal

abbrev pub invariant-loop-len : goal.invariant-loop-len
invariant-loop-len l = Seek (ends (row_at l.fn.self.flat.now)) l.fn.self.flat.now l.fn.self.count l.x l.lo l.len

abbrev pub decreases-loop-len : goal.decreases-loop-len
decreases-loop-len l = l.len

abbrev pub invariant-loop-len-2 : goal.invariant-loop-len-2
invariant-loop-len-2 l = Seek (ends (row_at l.fn.self.flat.now)) l.fn.self.flat.now l.fn.self.count l.x l.lo l.len

abbrev pub decreases-loop-len-2 : goal.decreases-loop-len-2
decreases-loop-len-2 l = l.len
