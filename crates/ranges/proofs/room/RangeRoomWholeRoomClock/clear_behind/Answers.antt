-- The rows that stay are those in front.
use Rattle.ranges.proofs.Writing.{cleared, stays}
use Rattle.ranges.proofs.room.RangeRoomWholeRoomClock.clear_behind.Goals as goal

pub returns-then-count-capacity-clause-cleared : goal.returns-then-count-capacity-clause-cleared
returns-then-count-capacity-clause-cleared c = λ h. cleared _ _ h c.clear_behind.ensures

pub returns-then-count-capacity-clause-stays : goal.returns-then-count-capacity-clause-stays
returns-then-count-capacity-clause-stays c = λ h. stays _ _ h c.clear_behind.ensures
