-- There is no row, and so no start; or the start of the first row is the table's.
use mathlib.Core.Path.{ap, ◌∙◌}
use Rattle.std.specs.Prelude.{Some}
use Rattle.ranges.proofs.Asking.{start_row, edge_none}
use Rattle.ranges.proofs.view.Ranges.clock_start.Goals as goal

pub returns-then-self-eq0 : goal.returns-then-self-eq0
returns-then-self-eq0 c = (edge_none _ _ c.if-self-eq0.true).0

pub returns : goal.returns
returns c = ap Some c.start_of.ensures ∙ start_row _ _ c.args.self.ruled.fits c.if-self-eq0.false
