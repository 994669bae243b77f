-- The walk from above passes the gap behind the last row. Then each step from below is followed by as many turns of both walks as fit, while all gaps lie
-- between two rows.
use mathlib.Core.Path.{refl, ◌∙◌, ap, sym}
use native.Mathlib.Omega.{arith}
use Rattle.tables.proofs.Gaps.{gap_read}
use Rattle.tables.proofs.Joins.{holds_in}
use Rattle.tables.proofs.Walks.{met_none, met_top, met_rest, met_halves, met_swept, went_all, rest_less, inside_first, inside_turns, inside_less, inside_alike, these_plain, these_differ, these_fit, these_last, inside_in}
use Rattle.tables.proofs.difference.differ.Goals as goal

pub top-init : goal.top-init
top-init g c =
    let va = g.met.T.Table.ruled c.args.a in
    let vb = g.met.T.Table.ruled c.args.b in
    record { met = met_none va (these_plain va vb g.met.P.Place.wide c.gaps_from-lo.ensures c.gaps_to-hi.ensures) c.row_count.ensures refl; same = refl }

pub top-preserved : goal.top-preserved
top-preserved g c =
    let va = g.met.T.Table.ruled c.args.a in
    let vb = g.met.T.Table.ruled c.args.b in
    record {
      met = met_top va (these_plain va vb g.met.P.Place.wide c.gaps_from-lo.ensures c.gaps_to-hi.ensures) c.behind.ensures c.top-test.true (c.row_at.ensures.start, c.row_at.ensures.end)
          (gap_read _ _ _ (c.gap_at.ensures.gap_start, c.gap_at.ensures.gap_end)) c.down-high.ensures.above c.top.invariant.met;
      same = c.down-high.ensures.same ∙ c.top.invariant.same;
    }

pub sweep-walks-requires : goal.sweep-walks-requires
sweep-walks-requires g c =
    let va = g.met.T.Table.ruled c.args.a in
    let vb = g.met.T.Table.ruled c.args.b in
    let o = inside_in c.row_count-m.ensures (c.turns_inside-c.ensures c.if-c-gt0.true) in
    let w = met_rest va (these_plain va vb g.met.P.Place.wide c.gaps_from-lo.ensures c.gaps_to-hi.ensures) c.between.ensures c.both-test.true (c.row_at-in-both.ensures.start, c.row_at-in-both.ensures.end)
    (gap_read _ _ _ (c.gap_at-in-both.ensures.gap_start, c.gap_at-in-both.ensures.gap_end)) c.up-low.ensures.below c.both.invariant.met in
    these_fit va vb g.met.P.Place.wide c.gaps_from-lo.ensures c.gaps_to-hi.ensures o w (c.capacity-most.ensures.value ∙ ap g.R.Room.most (sym (c.up-low.ensures.same ∙ c.both.invariant.same)))

pub overflow_add-low : goal.overflow_add-low
overflow_add-low g c =
    let va = g.met.T.Table.ruled c.args.a in
    let vb = g.met.T.Table.ruled c.args.b in
    let w = went_all c.sweep-walks.ensures.swept (inside_turns (c.turns_inside-c.ensures c.if-c-gt0.true)) in
    omega (arith, w.fits.right, w.before2, these_last va vb g.met.P.Place.wide c.gaps_from-lo.ensures c.gaps_to-hi.ensures c.both.invariant.met)

pub overflow_add-high : goal.overflow_add-high
overflow_add-high g c =
    let va = g.met.T.Table.ruled c.args.a in
    let vb = g.met.T.Table.ruled c.args.b in
    let w = went_all c.sweep-walks.ensures.swept (inside_turns (c.turns_inside-c.ensures c.if-c-gt0.true)) in
    omega (arith, w.before2, these_last va vb g.met.P.Place.wide c.gaps_from-lo.ensures c.gaps_to-hi.ensures c.both.invariant.met)

pub both-smaller-then-c-gt0 : goal.both-smaller-then-c-gt0
both-smaller-then-c-gt0 g c =
    let o = c.turns_inside-c.ensures c.if-c-gt0.true in
    omega (arith, inside_less o (went_all c.sweep-walks.ensures.swept (inside_turns o)), rest_less c.between.ensures c.both-test.true c.up-low.ensures.below)

pub both-preserved-then-c-gt0 : goal.both-preserved-then-c-gt0
both-preserved-then-c-gt0 g c =
    let va = g.met.T.Table.ruled c.args.a in
    let vb = g.met.T.Table.ruled c.args.b in
    let p = these_plain va vb g.met.P.Place.wide c.gaps_from-lo.ensures c.gaps_to-hi.ensures in
    let o = inside_in c.row_count-m.ensures (c.turns_inside-c.ensures c.if-c-gt0.true) in
    record {
      met = met_swept va p 1 c.sweep-walks.ensures.swept (inside_alike o g.P.Place.top (g.T.Rows.row_of c.args.b)) (inside_turns o) (inside_first o)
          (met_rest va p c.between.ensures c.both-test.true (c.row_at-in-both.ensures.start, c.row_at-in-both.ensures.end)
          (gap_read _ _ _ (c.gap_at-in-both.ensures.gap_start, c.gap_at-in-both.ensures.gap_end)) c.up-low.ensures.below c.both.invariant.met);
      same = c.sweep-walks.ensures.same ∙ (c.up-low.ensures.same ∙ c.both.invariant.same);
    }

pub both-preserved : goal.both-preserved
both-preserved g c =
    let va = g.met.T.Table.ruled c.args.a in
    let vb = g.met.T.Table.ruled c.args.b in
    record {
      met = met_rest va (these_plain va vb g.met.P.Place.wide c.gaps_from-lo.ensures c.gaps_to-hi.ensures) c.between.ensures c.both-test.true (c.row_at-in-both.ensures.start, c.row_at-in-both.ensures.end)
          (gap_read _ _ _ (c.gap_at-in-both.ensures.gap_start, c.gap_at-in-both.ensures.gap_end)) c.up-low.ensures.below c.both.invariant.met;
      same = c.up-low.ensures.same ∙ c.both.invariant.same;
    }

pub returns-clause-holds : goal.returns-clause-holds
returns-clause-holds g c =
    let va = g.met.T.Table.ruled c.args.a in
    let vb = g.met.T.Table.ruled c.args.b in
    holds_in c.capacity-most.ensures.value
    (these_differ va vb g.met.P.Place.wide c.gaps_from-lo.ensures c.gaps_to-hi.ensures
    (c.settle.ensures.holds _ (met_halves va (these_plain va vb g.met.P.Place.wide c.gaps_from-lo.ensures c.gaps_to-hi.ensures) c.between.ensures c.both-test.false c.both.invariant.met)))
