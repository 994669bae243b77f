use Rattle.lines.proofs.Loops.{filling}
use Rattle.lines.proofs.Numbers.fill.Goals as goal

pub loop-i-preserved : goal.loop-i-preserved
loop-i-preserved g c = search filling

pub returns-clause-memory : goal.returns-clause-memory
returns-clause-memory g c = search filling

pub returns-clause-rest : goal.returns-clause-rest
returns-clause-rest g c = search filling
