-- The count is that of the rows.
use Rattle.ids.proofs.Asking.{rows_none}
use Rattle.ids.proofs.view.Ids.is_empty.Goals as goal

pub returns : goal.returns
returns c = rows_none c.args.self
