use Rattle.lines.proofs.Putting.{copying}
use Rattle.lines.proofs.Room+u64.say_all.Goals as goal

pub loop-value-preserved : goal.loop-value-preserved
loop-value-preserved g c = search copying

pub returns-clause-put : goal.returns-clause-put
returns-clause-put g c = search copying
