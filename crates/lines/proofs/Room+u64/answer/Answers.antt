use Rattle.lines.proofs.Putting.{putting}
use Rattle.lines.proofs.Room+u64.answer.Goals as goal

pub returns-in-Ok-clause-put : goal.returns-in-Ok-clause-put
returns-in-Ok-clause-put g c = search putting

pub returns-in-Err-clause-put : goal.returns-in-Err-clause-put
returns-in-Err-clause-put g c = search putting
