-- As in `turn`; what starts next was read already.
use Rattle.tables.proofs.Joins.{going_more, picked_by}
use Rattle.tables.proofs.merging.step.Goals as goal

pub returns-clause-going : goal.returns-clause-going
returns-clause-going g c =
    going_more (g.met.T.Table.ruled c.args.a) (g.met.T.Table.ruled c.args.b) c.requires.going c.choose-c.ensures c.requires.left c.requires.right c.add-k.ensures.added c.later.ensures
    c.start_at-u.ensures c.start_at-v.ensures (picked_by g.P.Place.number c.first.ensures) (picked_by g.P.Place.number c.first-2.ensures)
