-- Malformed; or the larger of two clocks is set.
use borrow.Author.Rules.{rules}
use Rattle.state_vector.proofs.Storing.{makes_none}
use Rattle.state_vector.proofs.Finding.{larger_made}
use Rattle.state_vector.proofs.edit.larger_set.Goals as goal

pub returns-in_err-vector-clause-makes : goal.returns-in_err-vector-clause-makes
returns-in_err-vector-clause-makes c = makes_none _ _ _ c.from_residual.ensures.1 (λ t. t) c.in_err-vector.ensures.vector

pub returns-clause-makes : goal.returns-clause-makes
returns-clause-makes c = larger_made _ _ _ _ _ _ _ c.in_ok-vector.ensures.same c.get.ensures (search rules) c.set.ensures.makes
