-- The rows that were laid, and what their count says.
use mathlib.Core.Path.{ap, sym}
use Rattle.tables.proofs.Joins.{holds_in}
use Rattle.tables.proofs.Filling.{lays_in}
use Rattle.tables.proofs.walking.lay_intersection.Goals as goal

pub returns-clause-lays : goal.returns-clause-lays
returns-clause-lays g c =
    lays_in g.R.Room.most g.R.WholeRoom.fill c.finish.result c.cross-count.ensures.same
    (c.finish.ensures.lays _ (holds_in (ap g.R.Room.most (sym c.cross-count.ensures.same)) c.cross-count.ensures.holds))

pub returns-clause-holds : goal.returns-clause-holds
returns-clause-holds g c = c.finish.ensures.holds _ (holds_in (ap g.R.Room.most (sym c.cross-count.ensures.same)) c.cross-count.ensures.holds)
