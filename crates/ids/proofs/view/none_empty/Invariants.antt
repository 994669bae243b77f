-- The invariant: each row passed was tested.
use Rattle.ids.specs.Places.{NoneEmpty}
use Rattle.tables.proofs.Testing.{Tested}
use Rattle.ids.proofs.view.none_empty.Given as goal

abbrev pub invariant-loop-i : goal.invariant-loop-i
invariant-loop-i l = Tested (NoneEmpty l.starts l.ends) l.i l.ok
