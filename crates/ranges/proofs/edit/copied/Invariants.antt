-- The invariant: each number passed is above the one before it, and those before are copied. What has no room is checked alone.
use Prim.Native.Nat.{◌-◌, ◌*◌}
use Rattle.tables.proofs.Climbing.{Rose}
use Rattle.tables.proofs.Copying.{Copied}
use Rattle.ranges.proofs.edit.copied.Given as goal

abbrev pub invariant-loop-i : goal.invariant-loop-i
invariant-loop-i l = Rose l.rows (2 * l.count) l.i l.ok × Copied l.rows 0 l.initial.out 0 (l.i - 1) l.out

abbrev pub invariant-loop-i-2 : goal.invariant-loop-i-2
invariant-loop-i-2 l = Rose l.rows (2 * l.count) l.i l.ok
