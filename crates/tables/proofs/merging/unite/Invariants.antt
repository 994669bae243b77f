use Rattle.std.proofs.Common.{◌≡◌, ◌+◌, ◌-◌}
use Rattle.tables.specs.Inner.Merge.{Far}
use Rattle.tables.proofs.merging.unite.Given as goal

abbrev pub invariant-both : goal.invariant-both
invariant-both g l = record {
  far : Far g.P.Place.line g.P.Place.top (g.T.Rows.row_of l.a) (g.T.Rows.count l.a) l.w.i (g.T.Rows.row_of l.b) (g.T.Rows.count l.b) l.w.j l.most (g.R.Room.row_of l.out) l.w.k (g.P.Place.number l.w.last);
  same : g.R.Room.shape l.out ≡ g.R.Room.shape l.initial.out;
}

abbrev pub decreases-both : goal.decreases-both
decreases-both g l = (l.n + l.m) - (l.w.i + l.w.j)
