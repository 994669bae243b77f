-- So many turns are made as are counted, and the others fit.
use Rattle.std.proofs.Common.{◌≡◌, ◌-◌}
use Rattle.tables.specs.Inner.Walk.{places, Fit}
use Rattle.tables.proofs.Turning.{Underway}
use Rattle.tables.proofs.walking.sweep.Given as goal

abbrev pub invariant-turns : goal.invariant-turns
invariant-turns g l = record {
  underway : Underway (g.A.Rows.row_of l.a) (g.B.Rows.row_of l.b) l.c (l.c - l.x) (places (g.R.Room.row_of l.initial.out) l.fn.from l.fn.to) (places (g.R.Room.row_of l.out) l.low l.high);
  fit : Fit (g.A.Rows.count l.a) (g.B.Rows.count l.b) (g.R.Room.most (g.R.Room.shape l.out)) (l.c - l.x) l.low l.high;
  same : g.R.Room.shape l.out ≡ g.R.Room.shape l.initial.out;
}
