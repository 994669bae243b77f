-- With no row the union is empty. Else the rows of one table are left at the end.
use native.Mathlib.Omega.{arith}
use Rattle.tables.proofs.Uniting.{united_none, rest_right, rest_all, holds_other}
use Rattle.tables.proofs.Meaning.{union_comm}
use Rattle.tables.proofs.Joins.{far_left, holds_in}
use Rattle.tables.proofs.merging.unite.Goals as goal

pub returns-then-m-eq0-clause-holds : goal.returns-then-m-eq0-clause-holds
returns-then-m-eq0-clause-holds g c =
    rest_all (omega (arith, c.row_count-n.ensures, c.if-n-eq0.true)) (rest_right (omega (arith, c.row_count-m.ensures, c.if-m-eq0.true)) (united_none 0 _ _ _ _ _ _))

pub rest-requires-2-clause-far : goal.rest-requires-2-clause-far
rest-requires-2-clause-far g c = far_left (omega (arith, c.both-test.false, c.row_count-n.ensures)) c.both.invariant.far

pub returns-clause-holds : goal.returns-clause-holds
returns-clause-holds g c = holds_in c.capacity-most.ensures.value (holds_other (union_comm _ _) c.rest-2.ensures.holds)
