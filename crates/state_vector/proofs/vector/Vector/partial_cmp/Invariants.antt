-- The invariant: the clients passed are compared. Where one vector is at its end, the other's clocks decide.
use Prim.Native.Nat.{◌+◌, ◌-◌}
use Rattle.state_vector.specs.Lent.{lent}
use Rattle.state_vector.proofs.Stepping.{Comparing}
use Rattle.state_vector.proofs.vector.Vector.partial_cmp.Given as goal

abbrev pub invariant-loop-i : goal.invariant-loop-i
invariant-loop-i l = Comparing (lent l.self).slices l.self.count (lent l.other).slices l.other.count l.i l.j l.less l.greater

abbrev pub decreases-loop-i : goal.decreases-loop-i
decreases-loop-i l = (l.self.count + l.other.count) - (l.i + l.j)
