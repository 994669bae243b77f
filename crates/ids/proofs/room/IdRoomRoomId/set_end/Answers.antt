-- The end of a row lies in the line of its start.
use native.Mathlib.Omega.{arith}
use Rattle.ids.proofs.Lines.{end_closes}
use Rattle.ids.proofs.room.IdRoomRoomId.set_end.Goals as goal

pub returns-then-at-capacity-clause-closes : goal.returns-then-at-capacity-clause-closes
returns-then-at-capacity-clause-closes c = λ _.
    end_closes _ _ _ _ _ _ _ _ _ c.start_at-start.ensures c.start_at-start.type_inv c.clock_of.ensures c.clock_of.type_inv (omega (arith, c.args.at.within, c.if-at-capacity.true, c.capacity.ensures.value))
