-- What the two rows share is laid, and the one that ends first is passed.
use Rattle.tables.proofs.Walks.{step_below}
use Rattle.tables.proofs.walking.up.Goals as goal

pub returns-clause-below : goal.returns-clause-below
returns-clause-below g c = step_below c.later-x.ensures c.earlier-y.ensures c.passed-i.ensures c.passed-j.ensures c.keep-k.ensures.keeps c.keep-k.ensures.above
