-- The invariant: `found` says whether a clock passed is above 0.
use Rattle.state_vector.specs.Inner.{Nulls}
use Rattle.state_vector.proofs.vector.Vector.any_from.Given as goal

abbrev pub invariant-loop-i : goal.invariant-loop-i
invariant-loop-i l = Nulls l.self.clocks.now l.from l.i l.found
