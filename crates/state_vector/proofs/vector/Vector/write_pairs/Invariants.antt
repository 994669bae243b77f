-- The invariant: the bytes of the rows passed are put. All fit, so each number does.
use Rattle.state_vector.specs.Lent.{lent}
use Rattle.state_vector.specs.Inner.{row_at}
use Rattle.state_vector.proofs.Encoding.{Writing}
use Rattle.state_vector.proofs.vector.Vector.write_pairs.Given as goal

abbrev pub invariant-loop-i : goal.invariant-loop-i
invariant-loop-i l = Writing (row_at (lent l.self).slices) l.self.count l.at l.initial.buf l.buf l.i l.next
