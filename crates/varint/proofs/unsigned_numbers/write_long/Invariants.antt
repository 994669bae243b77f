-- The loop goes by `Long`, and what it leaves is written by `write_few`.
use Rattle.varint.proofs.Writing.{Long}
use Rattle.varint.proofs.unsigned_numbers.write_long.Given as goal

abbrev pub invariant-loop-v : goal.invariant-loop-v
invariant-loop-v l = Long l.value l.at l.initial.buf l.buf l.v l.next

abbrev pub decreases-loop-v : goal.decreases-loop-v
decreases-loop-v l = l.v
