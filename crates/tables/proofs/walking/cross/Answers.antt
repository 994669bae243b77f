-- Both walks go on by as many turns as surely fit, again and again, and then the one from below alone.
use mathlib.Core.Path.{refl, ◌∙◌}
use native.Mathlib.Omega.{arith}
use Rattle.tables.proofs.Joins.{holds_in}
use Rattle.tables.proofs.Clipping.{meeting_clipped}
use Rattle.tables.proofs.Walks.{met_rest, met_halves, met_swept_all, went_all}
use Rattle.tables.proofs.walking.cross.Goals as goal

pub both-init : goal.both-init
both-init g c = record {
  met = meeting_clipped _ (g.met.T.Table.ruled c.args.a).plain (g.met.T.Table.ruled c.args.b).plain c.bounds-from.ensures.clipped c.bounds-from.ensures.none;
  turns = c.turns-c.ensures;
  same = refl;
}

pub turns-c-requires-in-both-clause-left : goal.turns-c-requires-in-both-clause-left
turns-c-requires-in-both-clause-left g c = omega (arith, (went_all c.sweep-walks.ensures.swept c.both.invariant.turns).fits.left)

pub turns-c-requires-in-both-clause-right : goal.turns-c-requires-in-both-clause-right
turns-c-requires-in-both-clause-right g c = omega (arith, (went_all c.sweep-walks.ensures.swept c.both.invariant.turns).fits.right)

pub turns-c-requires-in-both-clause-room : goal.turns-c-requires-in-both-clause-room
turns-c-requires-in-both-clause-room g c = omega (arith, (went_all c.sweep-walks.ensures.swept c.both.invariant.turns).fits.room)

pub both-smaller : goal.both-smaller
both-smaller g c = omega (arith, c.both-test.true, (went_all c.sweep-walks.ensures.swept c.both.invariant.turns).less)

pub both-preserved : goal.both-preserved
both-preserved g c = record {
  met = met_swept_all (g.met.T.Table.ruled c.args.a) (g.met.T.Table.ruled c.args.b).plain c.sweep-walks.ensures.swept c.both.invariant.turns c.both.invariant.met;
  turns = c.turns-c-in-both.ensures;
  same = c.sweep-walks.ensures.same ∙ c.both.invariant.same;
}

pub last-preserved : goal.last-preserved
last-preserved g c = record {
  met = met_rest (g.met.T.Table.ruled c.args.a) (g.met.T.Table.ruled c.args.b).plain c.between.ensures c.last-test.true (c.row_at.ensures.start, c.row_at.ensures.end) (c.row_at-in-last.ensures.start, c.row_at-in-last.ensures.end)
      c.up-low.ensures.below c.last.invariant.met;
  same = c.up-low.ensures.same ∙ c.last.invariant.same;
}

pub returns-clause-holds : goal.returns-clause-holds
returns-clause-holds g c =
    holds_in c.capacity-most.ensures.value
    (c.settle.ensures.holds _ (met_halves (g.met.T.Table.ruled c.args.a) (g.met.T.Table.ruled c.args.b).plain c.between.ensures c.last-test.false c.last.invariant.met))
