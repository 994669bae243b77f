-- A row a turn.
use mathlib.Core.Path.{◌∙◌}
use native.Mathlib.Omega.{arith}
use Rattle.tables.proofs.Uniting.{rest_all}
use Rattle.tables.proofs.Joins.{alone_more}
use Rattle.tables.proofs.merging.rest.Goals as goal

pub one-preserved : goal.one-preserved
one-preserved g c = record {
  far = alone_more (g.met.T.Table.ruled c.args.a) (g.met.T.Table.ruled c.args.b) (omega (arith, c.one-test.true, c.row_count-n.ensures)) c.start_at-x.ensures c.end_at-y.ensures c.one.invariant.far c.join-k.ensures.added c.later-last.ensures;
  same = c.join-k.ensures.same ∙ c.one.invariant.same;
}

pub returns-clause-holds : goal.returns-clause-holds
returns-clause-holds g c = rest_all (omega (arith, c.one-test.false, c.row_count-n.ensures)) c.one.invariant.far.united
