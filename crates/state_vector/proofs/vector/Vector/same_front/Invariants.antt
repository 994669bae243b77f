-- The invariant: the clients passed are the same.
use Rattle.state_vector.specs.Inner.{Firsts, element}
use Rattle.state_vector.proofs.vector.Vector.same_front.Given as goal

abbrev pub invariant-loop-i : goal.invariant-loop-i
invariant-loop-i l = Firsts l.i (element l.self.clients.now) l.other.clients.now
