-- The invariant: the table of the pairs passed stands in the output, and each table on the way had room.
use lib.ListN.{length}
use Rattle.ranges.proofs.Growing.{Grown}
use Rattle.ranges.proofs.grow.gathered.Given as goal

abbrev pub invariant-loop-i : goal.invariant-loop-i
invariant-loop-i l = Grown l.pairs l.count l.i (length l.initial.out) l.out l.k
