use Rattle.lines.proofs.Loops.{bytes}
use Rattle.lines.proofs.Reading.after.Goals as goal

pub returns-then-is_ascii_digit : goal.returns-then-is_ascii_digit
returns-then-is_ascii_digit c = search bytes

pub returns-then-not-self : goal.returns-then-not-self
returns-then-not-self c = search bytes

pub returns-then-self-eq43 : goal.returns-then-self-eq43
returns-then-self-eq43 c = search bytes

pub returns-else-self-eq43 : goal.returns-else-self-eq43
returns-else-self-eq43 c = search bytes
