-- The row that starts first is added to the union so far.
use native.Mathlib.Omega.{arith}
use Rattle.tables.proofs.Joins.{first_more}
use Rattle.tables.proofs.merging.turn.Goals as goal

pub returns-clause-far : goal.returns-clause-far
returns-clause-far g c =
    first_more (g.met.T.Table.ruled c.args.a) (g.met.T.Table.ruled c.args.b) c.requires.left c.requires.right c.start_at.ensures c.start_at-2.ensures c.choose-c.ensures c.requires.far.united
    c.join-k.ensures.added (omega (arith, c.later.ensures))
