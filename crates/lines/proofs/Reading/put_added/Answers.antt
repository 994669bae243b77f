use Rattle.lines.proofs.Loops.{bytes}
use Rattle.lines.proofs.Reading.put_added.Goals as goal

pub returns-in-43-clause-put : goal.returns-in-43-clause-put
returns-in-43-clause-put c = search bytes

pub returns-in-42-clause-put : goal.returns-in-42-clause-put
returns-in-42-clause-put c = search bytes

pub returns-in_default-clause-put : goal.returns-in_default-clause-put
returns-in_default-clause-put c = search bytes
