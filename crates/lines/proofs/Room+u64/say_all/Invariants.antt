use Rattle.lines.specs.Put.{Same}
use Rattle.lines.proofs.Putting.{Copying}
use Rattle.lines.proofs.Room+u64.say_all.Given as goal

abbrev pub invariant-loop-value : goal.invariant-loop-value
invariant-loop-value g l = Copying g.T.Value.number l.initial.self.memory.now l.initial.self.place l.values l.self.memory.now l.self.place l.value-index × Same l.initial.self.memory l.self.memory
