-- The invariant: `found` says whether a clock passed is less on the left.
use Rattle.state_vector.proofs.Loops.{less_none, less_more}
use Rattle.state_vector.proofs.order.any_less.Goals as goal

pub loop-i-init : goal.loop-i-init
loop-i-init c = less_none _ _

pub loop-i-preserved : goal.loop-i-preserved
loop-i-preserved c = less_more _ _ _ c.loop-i.invariant
