use Rattle.lines.proofs.Putting.{copying}
use Rattle.lines.proofs.Room.put_all.Goals as goal

pub loop-x-preserved : goal.loop-x-preserved
loop-x-preserved g c = search copying

pub returns-clause-put : goal.returns-clause-put
returns-clause-put g c = search copying
