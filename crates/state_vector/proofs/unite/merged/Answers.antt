-- Malformed, left or right; or the rows of both are merged.
use Rattle.state_vector.proofs.Storing.{makes_none}
use Rattle.state_vector.proofs.Stepping.{merged_made}
use Rattle.state_vector.proofs.unite.merged.Goals as goal

pub returns-in_err-a-clause-makes : goal.returns-in_err-a-clause-makes
returns-in_err-a-clause-makes c = makes_none _ _ _ c.from_residual.ensures.1 (λ t. t.0) c.in_err-a.ensures.vector

pub returns-in_err-b-clause-makes : goal.returns-in_err-b-clause-makes
returns-in_err-b-clause-makes c = makes_none _ _ _ c.from_residual-in_err-b.ensures.1 (λ t. t.1) c.in_err-b.ensures.vector

pub returns-clause-makes : goal.returns-clause-makes
returns-clause-makes c =
    merged_made _ _ _ _ _ _ _ c.in_ok-a.ensures.same c.in_ok-b.ensures.same c.args.room.now.fits c.in_ok-a.ensures.vector c.in_ok-b.ensures.vector c.merge_rows-k.ensures.unites (rw c.merge_rows-k.ensures.kept.most at c.fitting.ensures)
