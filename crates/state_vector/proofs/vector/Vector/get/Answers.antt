-- The row where the client's is found to belong is the client's, and its clock is read; or the client is absent, which is 0.
use native.Mathlib.Omega.{arith}
use Rattle.state_vector.proofs.Loops.{front_climbs, front_finds, front_stands}
use Rattle.state_vector.proofs.Spanning.{vector_table}
use Rattle.state_vector.proofs.Finding.{clock_here, clock_none}
use Rattle.state_vector.proofs.vector.Vector.get.Goals as goal

pub find-i-requires : goal.find-i-requires
find-i-requires c = front_climbs (omega (arith, c.args.self.few)) c.args.self.climbs

pub returns-then-stands : goal.returns-then-stands
returns-then-stands c =
    clock_here (vector_table c.args.self) (front_finds (omega (arith, c.args.self.few)) c.find-i.ensures) ((front_stands (omega (arith, c.args.self.few)) c.stands.ensures).right c.if-stands.true)

pub returns : goal.returns
returns c = clock_none (vector_table c.args.self) (front_finds (omega (arith, c.args.self.few)) c.find-i.ensures) ((front_stands (omega (arith, c.args.self.few)) c.stands.ensures).wrong c.if-stands.false)
