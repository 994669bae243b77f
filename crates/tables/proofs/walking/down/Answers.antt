-- What the two rows share is laid, and the one that starts last is passed.
use native.Mathlib.Omega.{arith}
use Rattle.tables.proofs.Walks.{step_above}
use Rattle.tables.proofs.walking.down.Goals as goal

pub returns-clause-above : goal.returns-clause-above
returns-clause-above g c = step_above c.later-x.ensures c.earlier-y.ensures c.dropped-u.ensures c.dropped-v.ensures c.raised-t.ensures (c.store_row.ensures.stores _ (omega (arith, c.requires.some)))
