-- The count is within the limit and both slices, or it is no vector; then it is one exactly if the clients rise.
use native.Mathlib.Omega.{arith}
use mathlib.Core.Path.{refl}
use Rattle.tables.proofs.Saying.{says_left, says_taken}
use Rattle.state_vector.proofs.Spanning.{climbs_table, table_climbs}
use Rattle.state_vector.proofs.vector.Vector.checked.Goals as goal

pub returns-then-not-is_rising-clause-vector : goal.returns-then-not-is_rising-clause-vector
returns-then-not-is_rising-clause-vector c = (refl, λ t. says_taken c.is_rising.ensures c.if-not-is_rising.true (table_climbs t))

pub returns-clause-vector : goal.returns-clause-vector
returns-clause-vector c = climbs_table (omega arith) (omega arith) (omega arith) (says_left c.is_rising.ensures c.if-not-is_rising.false)
