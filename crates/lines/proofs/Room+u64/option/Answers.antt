use Rattle.lines.proofs.Putting.{putting}
use Rattle.lines.proofs.Room+u64.option.Goals as goal

pub returns-in-Some-clause-put : goal.returns-in-Some-clause-put
returns-in-Some-clause-put g c = search putting

pub returns-in-None-clause-put : goal.returns-in-None-clause-put
returns-in-None-clause-put g c = search putting

pub returns-in-Err-clause-put : goal.returns-in-Err-clause-put
returns-in-Err-clause-put g c = search putting
