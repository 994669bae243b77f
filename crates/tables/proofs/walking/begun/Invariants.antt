-- The rows before lo start before the place, and those from hi on at it or behind it.
use Rattle.std.proofs.Common.{◌≤◌, ◌-◌}
use Rattle.tables.specs.Inner.Edit.{Parted, starts}
use Rattle.tables.proofs.walking.begun.Given as goal

abbrev pub invariant-loop-lo : goal.invariant-loop-lo
invariant-loop-lo g l = record {
  parted : Parted (starts (g.T.Rows.row_of l.table)) (g.T.Rows.count l.table) (g.P.Place.number l.p) l.lo l.hi;
  lower : l.i ≤ l.lo;
}

abbrev pub decreases-loop-lo : goal.decreases-loop-lo
decreases-loop-lo g l = l.hi - l.lo
