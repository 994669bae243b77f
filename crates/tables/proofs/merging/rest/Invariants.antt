use Rattle.std.proofs.Common.{◌≡◌, ◌-◌}
use Rattle.tables.specs.Inner.Merge.{Far}
use Rattle.tables.proofs.merging.rest.Given as goal

abbrev pub invariant-one : goal.invariant-one
invariant-one g l = record {
  far : Far g.P.Place.line g.P.Place.top (g.T.Rows.row_of l.a) (g.T.Rows.count l.a) l.i (g.T.Rows.row_of l.fn.b) (g.T.Rows.count l.fn.b) (g.T.Rows.count l.fn.b) l.most (g.R.Room.row_of l.out) l.k (g.P.Place.number l.last);
  same : g.R.Room.shape l.out ≡ g.R.Room.shape l.initial.out;
}

abbrev pub decreases-one : goal.decreases-one
decreases-one g l = l.n - l.i
