-- More rows than there is room for, or the rows in front.
use mathlib.Core.Path.{◌∙◌}
use native.Mathlib.Omega.{arith}
use Rattle.std.proofs.Common.{◌≤◌}
use Rattle.tables.proofs.Filling.{lays_over, lays_within}
use Rattle.tables.proofs.rows.finish.Goals as goal

pub returns-then-capacity-count-clause-lays : goal.returns-then-capacity-count-clause-lays
returns-then-capacity-count-clause-lays g c = λ rs h.
    lays_over h (omega (arith, c.if-capacity-count.true, c.capacity.ensures.value)) (c.clear_behind.ensures.cleared (omega arith))

pub returns-clause-lays : goal.returns-clause-lays
returns-clause-lays g c = λ rs h.
    let l : c.args.count ≤ g.R.Room.most (g.R.Room.shape c.args.out.now) = omega (arith, c.if-capacity-count.false, c.capacity.ensures.value) in
    lays_within h l (c.clear_behind-2.ensures.cleared l)

pub returns-then-capacity-count-clause-holds : goal.returns-then-capacity-count-clause-holds
returns-then-capacity-count-clause-holds g c = λ rs h. tt

pub returns-clause-holds : goal.returns-clause-holds
returns-clause-holds g c = λ rs h.
    let l : c.args.count ≤ g.R.Room.most (g.R.Room.shape c.args.out.now) = omega (arith, c.if-capacity-count.false, c.capacity.ensures.value) in
    c.clear_behind-2.ensures.stays l ∙ h.kept l
