-- Both walks go on by as many turns as surely fit, again and again, and then the one from below alone.
use Rattle.std.proofs.Common.{◌≡◌, ◌+◌, ◌-◌}
use Rattle.tables.specs.Inner.Ends.{Turns}
use Rattle.tables.proofs.Meeting.{Meeting}
use Rattle.tables.proofs.walking.cross.Given as goal

abbrev pub invariant-both : goal.invariant-both
invariant-both g l = record {
  met : Meeting (g.T.Rows.row_of l.a) (g.T.Rows.count l.a) l.low.i l.high.u (g.T.Rows.row_of l.b) (g.T.Rows.count l.b) l.low.j l.high.v l.most (g.R.Room.row_of l.out) l.low.k l.high.t;
  turns : Turns l.c l.low.i l.low.j l.low.k l.high.u l.high.v l.high.t;
  same : g.R.Room.shape l.out ≡ g.R.Room.shape l.initial.out;
}

abbrev pub decreases-both : goal.decreases-both
decreases-both g l = (l.high.u + l.high.v) - (l.low.i + l.low.j)

abbrev pub invariant-last : goal.invariant-last
invariant-last g l = record {
  met : Meeting (g.T.Rows.row_of l.a) (g.T.Rows.count l.a) l.low.i l.high.u (g.T.Rows.row_of l.b) (g.T.Rows.count l.b) l.low.j l.high.v l.most (g.R.Room.row_of l.out) l.low.k l.high.t;
  same : g.R.Room.shape l.out ≡ g.R.Room.shape l.fn.out;
}

abbrev pub decreases-last : goal.decreases-last
decreases-last g l = (l.high.u + l.high.v) - (l.low.i + l.low.j)
