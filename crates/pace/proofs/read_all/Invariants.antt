-- The loop goes by `Reading`, at the width of T.
use Rattle.pace.proofs.Looping.{Reading}
use Rattle.pace.proofs.read_all.Given as goal

abbrev pub invariant-loop-left : goal.invariant-loop-left
invariant-loop-left g l = Reading g.T.Unsigned.bits l.bytes l.n l.left l.at l.sum

abbrev pub decreases-loop-left : goal.decreases-loop-left
decreases-loop-left g l = l.left
