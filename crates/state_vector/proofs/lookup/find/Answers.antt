-- The invariant: the clients before lo are below the client, and those from hi on are not.
use native.Mathlib.Omega.{arith}
use Rattle.state_vector.proofs.Loops.{finds_met}
use Rattle.state_vector.proofs.lookup.find.Goals as goal

pub returns : goal.returns
returns c = finds_met c.requires c.loop-lo.invariant (omega arith)
