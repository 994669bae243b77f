-- The row where the client's is found to belong is the client's, and the smaller clock is taken; or the client is absent, and it is the given one.
use native.Mathlib.Omega.{arith}
use Rattle.state_vector.proofs.Loops.{front_climbs, front_finds, front_stands}
use Rattle.tables.proofs.Saying.{says_left, says_taken}
use Rattle.state_vector.proofs.Spanning.{vector_table}
use Rattle.state_vector.proofs.Finding.{smaller_here, smaller_absent}
use Rattle.state_vector.proofs.vector.Vector.smaller.Goals as goal

pub find-i-requires : goal.find-i-requires
find-i-requires c = front_climbs (omega (arith, c.args.self.few)) c.args.self.climbs

pub returns-then-not-stands : goal.returns-then-not-stands
returns-then-not-stands c =
    smaller_absent (vector_table c.args.self) (front_finds (omega (arith, c.args.self.few)) c.find-i.ensures) _ (says_taken (front_stands (omega (arith, c.args.self.few)) c.stands.ensures) c.if-not-stands.true)

pub returns : goal.returns
returns c =
    smaller_here (vector_table c.args.self) (front_finds (omega (arith, c.args.self.few)) c.find-i.ensures) _ _ (says_left (front_stands (omega (arith, c.args.self.few)) c.stands.ensures) c.if-not-stands.false) c.min.ensures
