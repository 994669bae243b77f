-- The index is past the rows; or the row there is read.
use mathlib.Core.Path.{ap₂, ◌∙◌}
use Rattle.std.specs.Prelude.{Some}
use native.Mathlib.Omega.{arith}
use Rattle.ranges.specs.Rows.{row}
use Rattle.ranges.proofs.Asking.{get_row, get_none}
use Rattle.ranges.proofs.view.Ranges.get.Goals as goal

pub returns-then-self-index : goal.returns-then-self-index
returns-then-self-index c = get_none _ _ _ c.if-self-index.true

pub returns : goal.returns
returns c = ap₂ (λ (s e : _). Some (row s e)) c.start_of.ensures c.end_of.ensures ∙ get_row _ _ _ c.args.self.ruled.fits (omega arith)
