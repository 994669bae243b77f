-- The invariant: of the rows passed the larger clocks are stored.
use mathlib.Core.Path.{◌≡◌}
use Prim.Native.Nat.{max}
use lib.ListN.{length}
use Rattle.state_vector.specs.Inner.{Firsts, element}
use Rattle.state_vector.proofs.unite.larger_front.Given as goal

abbrev pub invariant-loop-i : goal.invariant-loop-i
invariant-loop-i l = Firsts l.i (λ j. max (element l.clocks j) (element l.b_clocks j)) l.to_clocks × (length l.to_clocks ≡ length l.initial.to_clocks)
