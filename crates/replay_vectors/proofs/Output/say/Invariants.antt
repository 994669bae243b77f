use Rattle.lines.specs.Put.{Same}
use Rattle.replay_vectors.proofs.Output.say.Given as goal

abbrev pub invariant-loop-i : goal.invariant-loop-i
invariant-loop-i l = Same l.initial.said.memory l.said.memory
