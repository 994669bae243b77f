-- The invariant: the clients of the rows from i on are counted.
use native.Mathlib.Omega.{arith}
use Rattle.ids.proofs.Asking.{fresh_most, one_more, counting_one, counting_more, counting_all}
use Rattle.ids.proofs.Numbering.{narrow}
use Rattle.ids.proofs.view.Ids.len.Goals as goal

pub loop-i-init : goal.loop-i-init
loop-i-init c =
    let t = c.args.self in
    (omega arith, omega arith, counting_one t.clients.now t.starts.now t.ends.now (narrow _ t.typed.starts) t.count t.table _ (omega (arith, c.in-Some.ensures)))

pub loop-i-preserved : goal.loop-i-preserved
loop-i-preserved c =
    let t = c.args.self in (
      omega arith,
      one_more _ _ _ _ (omega arith) (search) (search) (fresh_most c.fresh-many.ensures),
      counting_more t.clients.now t.starts.now t.ends.now (narrow _ t.typed.starts) t.count t.table _ _ _ (omega arith) (search) (search) c.fresh-many.ensures,
    )

pub returns : goal.returns
returns c =
    let t = c.args.self in
    counting_all t.clients.now t.starts.now t.ends.now (narrow _ t.typed.starts) t.count t.table _ _ (omega arith) c.loop-i.invariant.2
