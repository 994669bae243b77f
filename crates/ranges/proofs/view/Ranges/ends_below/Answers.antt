-- The invariant of both loops: the rows before lo end below x, and those from lo + len on do not.
use Rattle.ranges.proofs.Quarters.{seek_ends, seek_quarter}
use Rattle.ranges.proofs.view.Ranges.ends_below.Goals as goal

pub loop-len-init : goal.loop-len-init
loop-len-init c = seek_ends c.args.self.ruled

pub loop-len-preserved : goal.loop-len-preserved
loop-len-preserved c = seek_quarter c.loop-len.invariant c.loop-len-test.true c.end_of.ensures c.end_of-in-loop-len.ensures c.end_of-in-loop-len-2.ensures c.advance-a.ensures c.advance-b.ensures c.advance-c.ensures
