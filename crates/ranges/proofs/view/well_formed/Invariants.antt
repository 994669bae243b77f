-- The invariant: each number passed is above the one before it. The rows are a table exactly if all are.
use Prim.Native.Nat.{◌*◌}
use Rattle.tables.proofs.Climbing.{Rose}
use Rattle.ranges.proofs.view.well_formed.Given as goal

abbrev pub invariant-loop-i : goal.invariant-loop-i
invariant-loop-i l = Rose l.rows (2 * l.count) l.i l.ok
