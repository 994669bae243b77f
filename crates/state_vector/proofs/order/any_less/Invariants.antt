-- The invariant: `found` says whether a clock passed is less on the left.
use mathlib.Core.Path.{◌≡◌}
use Rattle.state_vector.specs.Inner.{any_less}
use Rattle.state_vector.proofs.order.any_less.Given as goal

abbrev pub invariant-loop-i : goal.invariant-loop-i
invariant-loop-i l = l.found ≡ any_less l.clocks l.b_clocks l.i
