-- The invariant: the clients of the rows from i on are counted.
use Prim.Native.Nat.{◌-◌, ◌<◌, ◌≤◌}
use Rattle.ids.proofs.Asking.{Counting}
use Rattle.ids.proofs.view.Ids.len.Given as goal

abbrev pub invariant-loop-i : goal.invariant-loop-i
invariant-loop-i l = (l.i < l.self.count) × (l.many ≤ l.self.count - l.i) × Counting l.self.clients.now l.self.starts.now l.self.ends.now l.i (l.self.count - l.i) l.many
