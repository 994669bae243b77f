-- Each look halves the rows still possible: the measure is how many there are.
use Prim.Native.Nat.{◌-◌}
use Rattle.ids.proofs.view.Ids.+search.Given as goal

abbrev pub decreases-search : goal.decreases-search
decreases-search l = l.hi - l.lo
