-- The invariant: the clients before lo are below the client, and those from hi on are not.
use Prim.Native.Nat.{◌-◌}
use lib.ListN.{length}
use Rattle.tables.specs.Inner.Edit.{Parted}
use Rattle.state_vector.specs.Inner.{element}
use Rattle.state_vector.proofs.lookup.find.Given as goal

abbrev pub invariant-loop-lo : goal.invariant-loop-lo
invariant-loop-lo l = Parted (element l.clients) (length l.clients) l.client.0 l.lo l.hi

abbrev pub decreases-loop-lo : goal.decreases-loop-lo
decreases-loop-lo l = l.hi - l.lo
