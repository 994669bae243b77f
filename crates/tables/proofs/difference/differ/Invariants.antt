-- The walk from above passes the gap behind the last row. Then each step from below is followed by as many turns of both walks as fit, while all gaps lie
-- between two rows.
use Rattle.std.proofs.Common.{◌≡◌, ◌+◌, ◌-◌}
use Rattle.tables.proofs.Meeting.{Meeting}
use Rattle.tables.proofs.Gaps.{gaps}
use Rattle.tables.proofs.difference.differ.Given as goal

abbrev pub invariant-top : goal.invariant-top
invariant-top g l = record {
  met : Meeting (g.T.Rows.row_of l.a) (g.T.Rows.count l.a) l.low.i l.high.u (gaps g.P.Place.top (g.T.Rows.row_of l.b) (g.T.Rows.count l.b) l.lo) (l.hi - l.lo) l.low.j l.high.v l.most (g.R.Room.row_of l.out) l.low.k l.high.t;
  same : g.R.Room.shape l.out ≡ g.R.Room.shape l.initial.out;
}

abbrev pub decreases-top : goal.decreases-top
decreases-top g l = l.high.u + l.high.v

abbrev pub invariant-both : goal.invariant-both
invariant-both g l = record {
  met : Meeting (g.T.Rows.row_of l.a) (g.T.Rows.count l.a) l.low.i l.high.u (gaps g.P.Place.top (g.T.Rows.row_of l.b) (g.T.Rows.count l.b) l.lo) (l.hi - l.lo) l.low.j l.high.v l.most (g.R.Room.row_of l.out) l.low.k l.high.t;
  same : g.R.Room.shape l.out ≡ g.R.Room.shape l.fn.out;
}

abbrev pub decreases-both : goal.decreases-both
decreases-both g l = (l.high.u + l.high.v) - (l.low.i + l.low.j)
