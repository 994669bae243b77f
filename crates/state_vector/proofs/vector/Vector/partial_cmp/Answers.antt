-- The invariant: the clients passed are compared. Where one vector is at its end, the other's clocks decide.
use native.Mathlib.Omega.{arith}
use Rattle.state_vector.proofs.Spanning.{vector_table}
use Rattle.state_vector.proofs.Stepping.{comparing_front, comparing_next, comparing_left, comparing_right}
use Rattle.state_vector.proofs.vector.Vector.partial_cmp.Goals as goal

pub loop-i-init : goal.loop-i-init
loop-i-init c =
    rw (c.any_less-less.ensures, c.any_less-greater.ensures) (comparing_front (vector_table c.args.self) (vector_table c.args.other) (omega arith) (omega arith) c.same_front-front.ensures.same _ (omega arith))

pub returns-then-other-j : goal.returns-then-other-j
returns-then-other-j c = rw c.verdict.ensures (comparing_left c.loop-i.invariant c.if-other-j.true c.any_from.ensures)

pub loop-i-preserved : goal.loop-i-preserved
loop-i-preserved c = search comparing_next

pub returns : goal.returns
returns c = rw c.verdict-2.ensures (comparing_right c.loop-i.invariant c.loop-i-test.false c.any_from-2.ensures)
