-- The loop goes by `Few`.
use Rattle.varint.proofs.Writing.{Few}
use Rattle.varint.proofs.unsigned_numbers.write_few.Given as goal

abbrev pub invariant-loop : goal.invariant-loop
invariant-loop l = Few l.value l.at l.initial.buf l.buf l.v l.next l.counter
