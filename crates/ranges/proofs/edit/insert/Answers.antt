-- What was made is settled.
use Rattle.ranges.specs.Tables.{Inserted}
use Rattle.ranges.proofs.Writing.{settles}
use Rattle.ranges.proofs.edit.insert.Goals as goal

pub returns : goal.returns
returns c = settles (Inserted _ _ _ _ _) _ c.inserted-made.ensures c.settled.ensures.same c.settled.ensures.left
