-- What was gathered is settled.
use Rattle.ranges.specs.Tables.{FromRanges}
use Rattle.ranges.proofs.Writing.{settles}
use Rattle.ranges.proofs.grow.from_ranges.Goals as goal

pub returns : goal.returns
returns c = settles (FromRanges _ _ _) _ c.gathered-made.ensures c.settled.ensures.same c.settled.ensures.left
