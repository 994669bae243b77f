-- So many turns are made as are counted, and the others fit.
use mathlib.Core.Path.{refl, ap, sym, ◌∙◌}
use native.Mathlib.Omega.{arith}
use Rattle.tables.proofs.Walks.{underway_begun, underway_next, fit_begun, fit_next}
use Rattle.tables.proofs.walking.sweep.Goals as goal

pub turns-init : goal.turns-init
turns-init g c = record { underway = underway_begun; fit = fit_begun c.requires; same = refl }

pub turns-preserved : goal.turns-preserved
turns-preserved g c =
    let v = c.turns.invariant in
    let t = c.turns-test.true in
    record {
      underway = underway_next v.underway (omega arith) (c.row_at.ensures.start, c.row_at.ensures.end) (c.row_at-in-turns.ensures.start, c.row_at-in-turns.ensures.end) c.up-low.ensures.below
          (c.row_at-in-turns-2.ensures.start, c.row_at-in-turns-2.ensures.end) (c.row_at-in-turns-3.ensures.start, c.row_at-in-turns-3.ensures.end) c.down-high.ensures.above;
      fit = fit_next v.fit (omega arith) (ap g.R.Room.most (sym (c.down-high.ensures.same ∙ c.up-low.ensures.same))) c.up-low.ensures.below c.down-high.ensures.above;
      same = c.down-high.ensures.same ∙ (c.up-low.ensures.same ∙ v.same);
    }
