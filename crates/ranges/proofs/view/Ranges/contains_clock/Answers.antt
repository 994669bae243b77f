-- No row ends past the clock; or the first that does starts past it too; or that row holds it.
use native.Mathlib.Omega.{arith}
use Rattle.ranges.proofs.Asking.{held_says, held_none, says_start}
use Rattle.ranges.proofs.view.Ranges.contains_clock.Goals as goal

pub returns-then-self-row : goal.returns-then-self-row
returns-then-self-row c = held_none _ _ _ _ c.ends_below-row.ensures (λ h. absurd (omega arith)) c.args.self.ruled

pub returns : goal.returns
returns c = held_says _ _ _ _ _ c.ends_below-row.ensures (omega arith) (says_start c.start_of.ensures) c.args.self.ruled
