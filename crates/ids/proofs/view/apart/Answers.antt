-- Each row but the last was tested against the next.
use native.Mathlib.Omega.{arith}
use Rattle.tables.proofs.Testing.{tested_pairs}
use Rattle.ids.proofs.view.apart.Goals as goal

pub returns : goal.returns
returns c = tested_pairs c.loop-next.invariant.1 (omega arith) c.loop-next.invariant.0
