-- The invariant: each number passed is above the one before it, and those before are copied. What has no room is checked alone.
use mathlib.Core.Path.{refl}
use native.Mathlib.Omega.{arith}
use Rattle.tables.proofs.Climbing.{rose_all}
use Rattle.tables.proofs.Saying.{says_left, says_taken}
use Rattle.ranges.proofs.Flat.{ruled_table, table_ruled}
use Rattle.ranges.proofs.Looking.{says_ruled}
use Rattle.ranges.proofs.Fronting.{copied_next, fronts, fronts_fit}
use Rattle.ranges.proofs.edit.copied.Goals as goal

pub returns-then-not-ok : goal.returns-then-not-ok
returns-then-not-ok c = (refl, λ t. says_taken (says_ruled (omega arith) (omega arith) (rose_all _ c.loop-i-2.invariant (omega arith))) c.if-not-ok.true (table_ruled t))

pub returns : goal.returns
returns c = (
  ruled_table (says_left (says_ruled (omega arith) (omega arith) (rose_all _ c.loop-i-2.invariant (omega arith))) c.if-not-ok.false),
  refl,
  refl,
  fronts c.min-f.ensures c.fitting.ensures (copied_next c.loop-i.invariant.1 (omega arith) (omega arith) (fronts_fit _ _ c.min-f.ensures c.fitting.ensures) refl) (omega arith),
)
