-- The row that starts first, of both tables or of the one that has rows.
use native.Mathlib.Omega.{arith}
use Rattle.tables.proofs.Uniting.{united_none}
use Rattle.tables.proofs.Joins.{row_more, first_more, far_swap}
use Rattle.tables.proofs.merging.begin.Goals as goal

pub returns-then-row_count-eq0-clause-far : goal.returns-then-row_count-eq0-clause-far
returns-then-row_count-eq0-clause-far g c =
    far_swap (row_more (g.met.T.Table.ruled c.args.b) (g.met.T.Table.ruled c.args.a) (omega (arith, c.requires.some, c.row_count.ensures, c.if-row_count-eq0.true)) c.start_at.ensures c.end_at-last.ensures
    (λ h. absurd (omega (arith, c.row_count.ensures, c.if-row_count-eq0.true))) (united_none _ _ _ _ _ _ _) c.open.ensures.added (omega arith))

pub returns-then-row_count-eq0-2-clause-far : goal.returns-then-row_count-eq0-2-clause-far
returns-then-row_count-eq0-2-clause-far g c =
    row_more (g.met.T.Table.ruled c.args.a) (g.met.T.Table.ruled c.args.b) (omega (arith, c.row_count.ensures, c.if-row_count-eq0.false)) c.start_at-then-row_count-eq0-2.ensures c.end_at-last-then-row_count-eq0-2.ensures
    (λ h. absurd (omega (arith, c.row_count-2.ensures, c.if-row_count-eq0-2.true))) (united_none _ _ _ _ _ _ _) c.open-then-row_count-eq0-2.ensures.added (omega arith)

pub returns-clause-far : goal.returns-clause-far
returns-clause-far g c =
    first_more (g.met.T.Table.ruled c.args.a) (g.met.T.Table.ruled c.args.b) (omega (arith, c.row_count.ensures, c.if-row_count-eq0.false)) (omega (arith, c.row_count-2.ensures, c.if-row_count-eq0-2.false))
    c.start_at-2.ensures c.start_at-3.ensures c.choose-c.ensures (united_none _ _ _ _ _ _ _) c.open-2.ensures.added (omega arith)
