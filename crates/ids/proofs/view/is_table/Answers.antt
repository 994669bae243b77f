-- The two passes say whether the rows keep the rule.
use native.Mathlib.Omega.{arith}
use Rattle.ids.proofs.Numbering.{checked}
use Rattle.ids.proofs.view.is_table.Goals as goal

pub returns : goal.returns
returns c =
    checked c.args.clients.now c.args.starts.now c.args.ends.now c.type_inv.starts c.type_inv.ends _ _ _ (omega arith) c.none_empty.ensures c.apart.ensures
