-- The loop goes by `Unsigned`, at the width of T.
use Rattle.varint.proofs.Reading.{Unsigned}
use Rattle.varint.proofs.unsigned_numbers.read_on.Given as goal

abbrev pub invariant-loop-k : goal.invariant-loop-k
invariant-loop-k g l = Unsigned g.T.Unsigned.bits l.at l.bytes l.k (g.T.Unsigned.number l.value) l.next
