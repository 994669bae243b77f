-- An empty piece is no row and any other is one, for which there is room.
use Rattle.ranges.proofs.Moving.{size_one, stands_none, stands_one}
use lib.ListN.{length-set}
use native.Mathlib.Omega.{arith}
use Rattle.ranges.proofs.edit.put.Goals as goal

pub returns-then-p-clause-stands : goal.returns-then-p-clause-stands
returns-then-p-clause-stands c = stands_none c.args.out.now c.args.k c.args.p.start.0 c.args.p.end.0 (omega arith)

pub bounds-out-k : goal.bounds-out-k
bounds-out-k c = omega (arith, size_one _ _ c.if-p.false)

pub bounds-out-k-2 : goal.bounds-out-k-2
bounds-out-k-2 c = simp length-set (omega (arith, size_one _ _ c.if-p.false))

pub returns-clause-stands : goal.returns-clause-stands
returns-clause-stands c = stands_one c.args.out.now c.args.k c.args.p.start.0 c.args.p.end.0 c.if-p.false (omega (arith, size_one _ _ c.if-p.false))
