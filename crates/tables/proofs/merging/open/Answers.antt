-- Row 0 is stored.
use mathlib.Core.Path.{refl}
use native.Mathlib.Omega.{arith}
use Rattle.tables.proofs.Joins.{added, none_last}
use Rattle.tables.proofs.merging.open.Goals as goal

pub returns-clause-added : goal.returns-clause-added
returns-clause-added g c =
    added g.P.Place.line g.met.P.Place.rises (g.met.R.Room.plain c.args.out.now) c.requires.filled c.requires.lined none_last (λ h. absurd (omega arith))
    c.store_start.ensures.opens (record { on = λ _. refl; off = λ h. absurd (omega arith) }) (omega arith) c.store_end.ensures.closes
