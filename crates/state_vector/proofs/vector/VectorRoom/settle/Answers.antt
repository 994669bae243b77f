-- Two tails are zeroed.
use native.Mathlib.Omega.{arith}
use Rattle.std.proofs.lemmas.Grind.{common_steps}
use Rattle.state_vector.proofs.Storing.{closed}
use Rattle.state_vector.proofs.vector.VectorRoom.settle.Goals as goal

pub returns-clause-rows : goal.returns-clause-rows
returns-clause-rows c =
    let a = c.args.self.now in
    closed a.clients.now a.clocks.now c.args.k _ _ (omega arith) (grind (arith, common_steps)) (grind (arith, common_steps))
