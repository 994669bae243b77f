-- The invariant: each row passed was tested against the next.
use Prim.Native.Nat.{◌-◌, ◌≤◌}
use Rattle.ids.specs.Places.{Apart}
use Rattle.tables.proofs.Testing.{Tested}
use Rattle.ids.proofs.view.apart.Given as goal

abbrev pub invariant-loop-next : goal.invariant-loop-next
invariant-loop-next l = (l.next - 1 ≤ l.n - 1) × Tested (Apart l.clients l.starts l.ends) (l.next - 1) l.ok
