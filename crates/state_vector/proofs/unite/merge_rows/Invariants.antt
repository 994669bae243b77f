-- The invariant: i rows of the one vector and j of the other are merged. Where one is at its end, the rest of the other follows.
use Prim.Native.Nat.{◌+◌, ◌-◌}
use Rattle.state_vector.specs.Lent.{lent, lends, Kept}
use Rattle.state_vector.proofs.Stepping.{Uniting}
use Rattle.state_vector.proofs.unite.merge_rows.Given as goal

abbrev pub invariant-loop-i : goal.invariant-loop-i
invariant-loop-i l = record {
  rows : Uniting (lent l.a).slices l.a.count (lent l.b).slices l.b.count l.fn.room.most (lends l.room) l.i l.j l.k;
  kept : Kept l.fn.room l.room;
}

abbrev pub decreases-loop-i : goal.decreases-loop-i
decreases-loop-i l = (l.a.count + l.b.count) - (l.i + l.j)
