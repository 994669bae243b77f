-- A piece is one row, or none.
use Rattle.ranges.proofs.Moving.{size_one, size_none}
use mathlib.Core.Path.{sym}
use native.Mathlib.Omega.{arith}
use Rattle.ranges.proofs.edit.size.Goals as goal

pub returns-then-p : goal.returns-then-p
returns-then-p c = sym (size_one _ _ (omega arith))

pub returns-else-p : goal.returns-else-p
returns-else-p c = sym (size_none _ _ (omega arith))
