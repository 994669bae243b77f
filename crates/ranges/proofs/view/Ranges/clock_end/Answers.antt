-- There is no row, and so no end; or the end of the last row is the table's.
use mathlib.Core.Path.{ap, ◌∙◌}
use Rattle.std.specs.Prelude.{Some}
use Rattle.ranges.proofs.Asking.{end_last, edge_none}
use Rattle.ranges.proofs.view.Ranges.clock_end.Goals as goal

pub returns-then-self-eq0 : goal.returns-then-self-eq0
returns-then-self-eq0 c = (edge_none _ _ c.if-self-eq0.true).1

pub returns : goal.returns
returns c = ap Some c.end_of.ensures ∙ end_last _ _ c.args.self.ruled.fits c.if-self-eq0.false
