use Rattle.lines.specs.Put.{Same}
use Rattle.lines.proofs.Loops.{Stepping}
use Rattle.lines.proofs.Room+u64.put_steps.Given as goal

abbrev pub invariant-loop-i : goal.invariant-loop-i
invariant-loop-i l = Stepping l.initial.self.memory.now l.initial.self.place l.n l.step l.x l.self.memory.now l.self.place l.i l.last × Same l.initial.self.memory l.self.memory
