-- Malformed; or the smaller of two clocks is set.
use Rattle.state_vector.proofs.Storing.{makes_none}
use Rattle.state_vector.proofs.Finding.{smaller_made}
use Rattle.state_vector.proofs.edit.smaller_set.Goals as goal

pub returns-in_err-vector-clause-makes : goal.returns-in_err-vector-clause-makes
returns-in_err-vector-clause-makes c = makes_none _ _ _ c.from_residual.ensures.1 (λ t. t) c.in_err-vector.ensures.vector

pub returns-clause-makes : goal.returns-clause-makes
returns-clause-makes c = smaller_made _ _ _ _ _ _ _ c.in_ok-vector.ensures.same c.smaller.ensures c.set.ensures.makes
