use Rattle.std.proofs.Common.{◌≡◌, ◌+◌, ◌≤◌}
use Rattle.tables.specs.Inner.Merge.{Going}
use Rattle.tables.proofs.merging.run.Given as goal

abbrev pub invariant-steps : goal.invariant-steps
invariant-steps g l = record {
  going : Going g.P.Place.line g.P.Place.top (g.T.Rows.row_of l.a) (g.T.Rows.count l.a) l.z.i (g.T.Rows.row_of l.b) (g.T.Rows.count l.b) l.z.j l.most (g.R.Room.row_of l.out) l.z.k (g.P.Place.number l.z.last) (g.P.Place.number l.z.p) (g.P.Place.number l.z.q);
  left : l.z.i ≤ l.fn.w.i + l.x;
  right : l.z.j ≤ l.fn.w.j + l.x;
  room : l.z.k ≤ l.fn.w.k + l.x;
  on : l.z.i + l.z.j ≡ l.fn.w.i + l.fn.w.j + l.x;
  same : g.R.Room.shape l.out ≡ g.R.Room.shape l.initial.out;
}
