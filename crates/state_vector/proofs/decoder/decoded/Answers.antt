-- The count is refused; or the pairs are read.
use Rattle.state_vector.proofs.Decoding.{vector_none, vector_pairs}
use Rattle.state_vector.proofs.decoder.decoded.Goals as goal

pub returns-in_err-count-clause-reads : goal.returns-in_err-count-clause-reads
returns-in_err-count-clause-reads c = vector_none _ _ _ _ _ c.from_residual.ensures.1 c.in_err-count.ensures

pub returns-clause-reads : goal.returns-clause-reads
returns-clause-reads c = vector_pairs _ _ _ c.in_ok-count.ensures c.decode_pairs.ensures.reads
