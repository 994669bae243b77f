-- Where the vector alone has no room, neither has the result. Else it is copied and the row put in.
use Rattle.state_vector.specs.Lent.{lends}
use Rattle.state_vector.proofs.Spanning.{vector_table}
use Rattle.state_vector.proofs.Storing.{makes_fitting}
use Rattle.state_vector.proofs.Finding.{set-over, copied_table, copied_rows}
use Rattle.state_vector.proofs.Looking.{set-right}
use Rattle.state_vector.proofs.vector.Vector.set.Goals as goal

pub returns-in_err-fitting-clause-makes : goal.returns-in_err-fitting-clause-makes
returns-in_err-fitting-clause-makes c = set-over (vector_table c.args.self) _ _ _ _ _ c.from_residual.ensures.1 c.args.room.now.fits c.in_err-fitting.ensures

pub put-k-requires-clause-table : goal.put-k-requires-clause-table
put-k-requires-clause-table c = copied_table (vector_table c.args.self) _ _ c.copy_from_slice.ensures.after c.copy_from_slice-2.ensures.after

pub returns-clause-makes : goal.returns-clause-makes
returns-clause-makes c =
    let p = vector_table c.args.self in
    makes_fitting (lends c.args.room.now) _ c.args.room.now.fits p (set-right _ _ _ p.rising)
    (rw (copied_rows p _ _ c.copy_from_slice.ensures.after c.copy_from_slice-2.ensures.after) at c.put-k.ensures.holds) _ (rw c.put-k.ensures.kept.most at c.fitting-2.ensures)
