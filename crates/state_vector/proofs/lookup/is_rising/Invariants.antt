-- The invariant: each client passed is above the one before it.
use Rattle.tables.proofs.Climbing.{Rose}
use Rattle.state_vector.proofs.lookup.is_rising.Given as goal

abbrev pub invariant-loop-i : goal.invariant-loop-i
invariant-loop-i l = Rose l.clients l.n l.i l.ok
