-- The rows that stay are those in front.
use Rattle.ids.proofs.Numbering.{narrow}
use Rattle.ids.proofs.Answering.{room_cleared, room_stays}
use Rattle.ids.proofs.room.IdRoomWholeRoomId.clear_behind.Goals as goal

pub returns-then-count-capacity-clause-cleared : goal.returns-then-count-capacity-clause-cleared
returns-then-count-capacity-clause-cleared c = λ h.
    room_cleared c.args.self.now c.zero_from.new.self c.args.count (narrow _ c.clocks_fit.ensures.starts) (narrow _ c.clocks_fit.ensures.ends) h c.zero_from.ensures.zeroed

pub returns-then-count-capacity-clause-stays : goal.returns-then-count-capacity-clause-stays
returns-then-count-capacity-clause-stays c = λ h. room_stays c.args.self.now c.zero_from.new.self c.args.count h c.zero_from.ensures.zeroed
