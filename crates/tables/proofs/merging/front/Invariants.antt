use Rattle.std.proofs.Common.{◌≡◌, ◌+◌, ◌-◌, ◌<◌, ◌≤◌}
use Rattle.tables.specs.Inner.Merge.{Going}
use Rattle.tables.proofs.merging.front.Given as goal

abbrev pub invariant-runs : goal.invariant-runs
invariant-runs g l = record {
  going : Going g.P.Place.line g.P.Place.top (g.T.Rows.row_of l.a) (g.T.Rows.count l.a) l.z.i (g.T.Rows.row_of l.b) (g.T.Rows.count l.b) l.z.j l.most (g.R.Room.row_of l.out) l.z.k (g.P.Place.number l.z.last) (g.P.Place.number l.z.p) (g.P.Place.number l.z.q);
  left : l.z.i + l.c < l.n;
  right : l.z.j + l.c < l.m;
  room : 0 < l.c → l.z.k + l.c ≤ l.most;
  same : g.R.Room.shape l.out ≡ g.R.Room.shape l.initial.out;
}

abbrev pub decreases-runs : goal.decreases-runs
decreases-runs g l = (l.n + l.m) - (l.z.i + l.z.j)

abbrev pub invariant-single : goal.invariant-single
invariant-single g l = record {
  going : Going g.P.Place.line g.P.Place.top (g.T.Rows.row_of l.a) (g.T.Rows.count l.a) l.z.i (g.T.Rows.row_of l.b) (g.T.Rows.count l.b) l.z.j l.most (g.R.Room.row_of l.out) l.z.k (g.P.Place.number l.z.last) (g.P.Place.number l.z.p) (g.P.Place.number l.z.q);
  same : g.R.Room.shape l.out ≡ g.R.Room.shape l.fn.out;
}

abbrev pub decreases-single : goal.decreases-single
decreases-single g l = (l.n + l.m) - (l.z.i + l.z.j)
