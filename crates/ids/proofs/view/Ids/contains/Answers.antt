-- A search of all rows says whether the id is held.
use native.Mathlib.Omega.{arith}
use Rattle.ids.proofs.Asking.{view_holds}
use Rattle.ids.proofs.view.Ids.contains.Goals as goal

pub returns : goal.returns
returns c = view_holds c.args.self _ _ (omega arith) c.search.ensures
