-- The start is stored behind the last row, and either counted or written over.
use mathlib.Core.Path.{ap, sym, ◌∙◌}
use native.Mathlib.Omega.{arith}
use Rattle.tables.proofs.Joins.{added, opens_in, closes_in, tied_line}
use Rattle.tables.proofs.merging.add.Goals as goal

pub returns-clause-added : goal.returns-clause-added
returns-clause-added g c =
    added g.P.Place.line g.met.P.Place.rises (g.met.R.Room.plain c.args.out.now) c.requires.filled c.requires.lined c.requires.tied.last (tied_line c.requires.tied)
    (opens_in (sym c.requires.most) c.set_start_at.ensures.opens) c.counted-r.ensures (omega (arith, c.later.ensures))
    (closes_in (ap g.R.Room.most c.set_start_at.ensures.same ∙ sym c.requires.most) c.set_end_at.ensures.closes)
