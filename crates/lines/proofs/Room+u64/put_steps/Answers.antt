use Rattle.lines.proofs.Loops.{stepping}
use Rattle.lines.proofs.Room+u64.put_steps.Goals as goal

pub returns-then-self-clause-put : goal.returns-then-self-clause-put
returns-then-self-clause-put c = search stepping

pub loop-i-preserved : goal.loop-i-preserved
loop-i-preserved c = search stepping

pub returns-clause-put : goal.returns-clause-put
returns-clause-put c = search stepping
