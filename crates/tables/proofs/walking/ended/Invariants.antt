-- The rows before lo end at the place or before it, and those from hi on past it.
use Rattle.std.proofs.Common.{◌+◌, ◌-◌}
use Rattle.tables.specs.Inner.Edit.{Parted, ends}
use Rattle.tables.proofs.walking.ended.Given as goal

abbrev pub invariant-loop-lo : goal.invariant-loop-lo
invariant-loop-lo g l = Parted (ends (g.T.Rows.row_of l.table)) (g.T.Rows.count l.table) (g.P.Place.number l.p + 1) l.lo l.hi

abbrev pub decreases-loop-lo : goal.decreases-loop-lo
decreases-loop-lo g l = l.hi - l.lo
