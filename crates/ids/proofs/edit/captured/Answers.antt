-- Without room nothing is copied, and the count says so; else each column is, and so the rows are.
use native.Mathlib.Omega.{arith}
use Rattle.ids.specs.Room.{refused}
use Rattle.ids.proofs.Splicing.{copied, copied_rows, copied_over}
use Rattle.ids.proofs.Answering.{err_is, made_over, made_within}
use Rattle.ids.proofs.edit.captured.Goals as goal

pub returns-in_err-table-clause-made : goal.returns-in_err-table-clause-made
returns-in_err-table-clause-made c = refused _ c.in_err-table.was (err_is _ _ c.from_residual.ensures)

pub returns-then-capacity-n-clause-made : goal.returns-then-capacity-n-clause-made
returns-then-capacity-n-clause-made c =
    let t = c.in_ok-table.table in
    made_over t _ c.in_ok-table.was (omega (arith, c.capacity.ensures)) (copied_over t.clients.now t.starts.now t.ends.now (omega (arith, c.capacity.ensures)))

pub returns-clause-made : goal.returns-clause-made
returns-clause-made c =
    let t = c.in_ok-table.table in
    let few = t.table.few in
    made_within t _ c.in_ok-table.was (omega (arith, c.if-capacity-n.false, c.capacity.ensures))
    (copied_rows t.clients.now t.starts.now t.ends.now _ _ _ (omega (arith, c.if-capacity-n.false, c.capacity.ensures))
    (copied _ _ _ (omega arith) c.copy_front.ensures) (copied _ _ _ (omega arith) c.copy_front-2.ensures) (copied _ _ _ (omega arith) c.copy_front-3.ensures))
