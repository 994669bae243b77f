-- The bytes fit, so that the number is not refused, and they are put.
use Rattle.state_vector.proofs.Encoding.{number_put}
use Rattle.state_vector.proofs.encoder.write_number.Goals as goal

pub returns : goal.returns
returns c = rw c.unwrap_or.ensures (number_put _ _ _ _ _ c.write_var_u64.ensures c.requires)
