use Rattle.lines.proofs.Putting.{putting}
use Rattle.lines.proofs.Room.put.Goals as goal

pub returns-then-self-clause-put : goal.returns-then-self-clause-put
returns-then-self-clause-put g c = search putting

pub returns-else-self-clause-put : goal.returns-else-self-clause-put
returns-else-self-clause-put g c = search putting
