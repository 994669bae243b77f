-- What was made is settled.
use Rattle.ranges.specs.Tables.{Removed}
use Rattle.ranges.proofs.Writing.{settles}
use Rattle.ranges.proofs.edit.remove.Goals as goal

pub returns : goal.returns
returns c = settles (Removed _ _ _ _ _) _ c.removed-made.ensures c.settled.ensures.same c.settled.ensures.left
