use Rattle.lines.proofs.Loops.{Filling}
use Rattle.lines.proofs.Numbers.fill.Given as goal

abbrev pub invariant-loop-i : goal.invariant-loop-i
invariant-loop-i g l = Filling g.T.Element.low l.initial.numbers.rest.now l.initial.memory l.memory l.i l.numbers.rest.now
