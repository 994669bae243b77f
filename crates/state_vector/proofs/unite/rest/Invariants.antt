-- The invariant: the rows passed stand behind those that were there, as far as there is room.
use Rattle.state_vector.specs.Lent.{lent, lends, Kept}
use Rattle.state_vector.proofs.Storing.{Resting}
use Rattle.state_vector.proofs.unite.rest.Given as goal

abbrev pub invariant-loop-i : goal.invariant-loop-i
invariant-loop-i l = record {
  rows : Resting l.initial.room.most (lent l.a).slices l.from l.a.count (lends l.initial.room) l.have (lends l.room) l.i l.k;
  kept : Kept l.initial.room l.room;
}
