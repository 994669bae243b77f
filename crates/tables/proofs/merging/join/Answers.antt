-- The start is stored behind the last row, and either counted or written over.
use native.Mathlib.Omega.{arith}
use Rattle.tables.proofs.Joins.{added, tied_line}
use Rattle.tables.proofs.merging.join.Goals as goal

pub returns-clause-added : goal.returns-clause-added
returns-clause-added g c =
    added g.P.Place.line g.met.P.Place.rises (g.met.R.Room.plain c.args.out.now) c.requires.filled c.requires.lined c.requires.tied.last (tied_line c.requires.tied)
    c.store_start.ensures.opens c.counted-r.ensures (omega (arith, c.later.ensures)) c.store_end.ensures.closes
