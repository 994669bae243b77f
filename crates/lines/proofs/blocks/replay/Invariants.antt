use Rattle.lines.specs.Output.{Grows}
use Rattle.lines.proofs.blocks.replay.Given as goal

abbrev pub invariant-loop : goal.invariant-loop
invariant-loop g l = Grows (g.W.Write.contents l.initial.out) (g.W.Write.contents l.out)
