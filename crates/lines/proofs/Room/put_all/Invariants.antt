use Rattle.lines.specs.Put.{Same}
use Rattle.lines.proofs.Putting.{Copying}
use Rattle.lines.proofs.Room.put_all.Given as goal

abbrev pub invariant-loop-x : goal.invariant-loop-x
invariant-loop-x g l = Copying (λ x. x) l.initial.self.memory.now l.initial.self.place l.list l.self.memory.now l.self.place l.x-index × Same l.initial.self.memory l.self.memory
