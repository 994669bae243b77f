use Rattle.lines.proofs.Loops.{bytes}
use Rattle.lines.proofs.Reading.put_ended.Goals as goal

pub returns-then-is_ascii_digit-clause-put : goal.returns-then-is_ascii_digit-clause-put
returns-then-is_ascii_digit-clause-put c = search bytes

pub returns-then-self-clause-put : goal.returns-then-self-clause-put
returns-then-self-clause-put c = search bytes

pub returns-else-self-clause-put : goal.returns-else-self-clause-put
returns-else-self-clause-put c = search bytes
