-- The count is known before a row is stored. Without room it alone is asked; else the four parts stand one behind the other.
use Rattle.tables.specs.Inner.Edit.{range}
use Rattle.ranges.specs.Inner.{row_at}
use Rattle.ranges.proofs.Moving.{sized}
use Rattle.ranges.proofs.Fronting.{front_moved}
use Rattle.ranges.proofs.Writing.{wrote_full, wrote_done, wrote_length}
use Rattle.tables.proofs.Placing.{laid_holds, laid_over}
use Prim.Native.Nat.{◌+◌, ◌-◌}
use lib.ListN.{length}
use native.Mathlib.Omega.{arith}
use Rattle.ranges.proofs.edit.splice.Goals as goal

pub overflow_add-k : goal.overflow_add-k
overflow_add-k c = omega (arith, sized _ _ c.size.ensures)

pub overflow_add-k-2 : goal.overflow_add-k-2
overflow_add-k-2 c = omega (arith, sized _ _ c.size.ensures, sized _ _ c.size-2.ensures)

pub overflow_add-k-3 : goal.overflow_add-k-3
overflow_add-k-3 c = omega (arith, sized _ _ c.size.ensures, sized _ _ c.size-2.ensures)

pub returns-then-fitting-k : goal.returns-then-fitting-k
returns-then-fitting-k c =
    let a = c.args in
    wrote_full a.out.now (a.i + length (range a.p.start.0 a.p.end.0) + length (range a.q.start.0 a.q.end.0) + (a.table.count - a.j)) (omega (arith, c.fitting.ensures, c.size.ensures, c.size-2.ensures)) _
    (laid_over _ (row_at a.table.flat.now) a.i a.j a.table.count (range a.p.start.0 a.p.end.0) (range a.q.start.0 a.q.end.0) (omega (arith, c.fitting.ensures)) (omega (arith, c.size.ensures, c.size-2.ensures)))

pub returns : goal.returns
returns c =
    wrote_length (omega arith)
    (wrote_done c.follow.new.out _ (omega (arith, c.fitting.ensures)) _ (laid_holds _ (front_moved c.requires.fronts (omega arith) (omega arith)) c.put-x.ensures.stands c.put-y.ensures.stands c.follow.ensures (omega (arith, c.size.ensures, c.size-2.ensures)) (omega (arith, c.fitting.ensures))))
