-- The loop goes by `SignedBits`.
use Rattle.varint.proofs.Integers.{SignedBits}
use Rattle.varint.proofs.magnitudes.read_rest_i64.Given as goal

abbrev pub invariant-loop-k : goal.invariant-loop-k
invariant-loop-k l = SignedBits l.at l.first l.from l.bytes l.k l.value l.next
