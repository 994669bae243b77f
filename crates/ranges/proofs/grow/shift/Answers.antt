-- The rows move up by one where the range meets none, stay where it meets one, and move down where it meets more.
use native.Mathlib.Omega.{arith}
use Rattle.tables.proofs.Placing.{moved_to}
use Rattle.ranges.proofs.Parts.{moved_part}
use Rattle.ranges.proofs.grow.shift.Goals as goal

pub returns-then-i-j : goal.returns-then-i-j
returns-then-i-j c = moved_to (omega arith) (moved_part c.args.out.now c.move_up.new.part c.args.j (omega arith) c.move_up.auto.part _ (omega arith) (omega arith) c.move_up.ensures)
