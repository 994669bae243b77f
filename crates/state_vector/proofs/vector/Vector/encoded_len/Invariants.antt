-- The invariant: the sum is that of the count and the rows passed. A row takes at most fifteen bytes, so it does not overflow.
use Rattle.state_vector.specs.Lent.{lent}
use Rattle.state_vector.specs.Inner.{row_at}
use Rattle.state_vector.proofs.Encoding.{Summing}
use Rattle.state_vector.proofs.vector.Vector.encoded_len.Given as goal

abbrev pub invariant-loop-i : goal.invariant-loop-i
invariant-loop-i l = Summing (row_at (lent l.self).slices) l.self.count l.i l.sum
