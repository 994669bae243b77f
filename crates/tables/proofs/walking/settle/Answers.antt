-- Where the rows from below have no room, the count alone is asked; else those from above are moved behind them.
use mathlib.Core.Path.{sym}
use native.Mathlib.Omega.{arith}
use Rattle.tables.proofs.Meeting.{halves_over, halves_moved}
use Rattle.tables.proofs.Walks.{moved_in}
use Rattle.tables.proofs.walking.settle.Goals as goal

pub returns-then-t-k-clause-holds : goal.returns-then-t-k-clause-holds
returns-then-t-k-clause-holds g c = λ rs p. halves_over c.if-t-k.true p

pub returns-clause-holds : goal.returns-clause-holds
returns-clause-holds g c = λ rs p. halves_moved (omega arith) p (moved_in (sym c.requires.most) (c.move_down.ensures.moved (omega arith) (omega (arith, c.requires.within, c.requires.most))))
