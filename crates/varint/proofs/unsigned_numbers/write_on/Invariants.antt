-- The loop goes by `Writing`.
use Rattle.varint.proofs.Writing.{Writing}
use Rattle.varint.proofs.unsigned_numbers.write_on.Given as goal

abbrev pub invariant-loop-v : goal.invariant-loop-v
invariant-loop-v l = Writing l.value l.at l.initial.buf l.buf l.v l.next

abbrev pub decreases-loop-v : goal.decreases-loop-v
decreases-loop-v l = l.v
