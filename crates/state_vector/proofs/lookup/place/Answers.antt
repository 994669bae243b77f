-- A client above the last one belongs behind all rows; any other is found.
use native.Mathlib.Omega.{arith}
use Rattle.state_vector.proofs.Loops.{finds_last}
use Rattle.state_vector.proofs.lookup.place.Goals as goal

pub returns-then-clients-n : goal.returns-then-clients-n
returns-then-clients-n c = finds_last c.requires (omega arith) c.if-clients-n.true
