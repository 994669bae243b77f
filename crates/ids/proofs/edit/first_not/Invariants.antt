-- The invariant: the two ends of what is still possible.
use Prim.Native.Nat.{◌-◌}
use Rattle.ids.specs.Inner.{Halved}
use Rattle.ids.proofs.edit.first_not.Given as goal

abbrev pub invariant-loop-lo : goal.invariant-loop-lo
invariant-loop-lo g l = Halved (λ k b. g.F.Fn.post l.passes (k, tt) b) l.from l.n l.lo l.hi

abbrev pub decreases-loop-lo : goal.decreases-loop-lo
decreases-loop-lo g l = l.hi - l.lo
