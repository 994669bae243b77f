-- Three tails are zeroed.
use Rattle.ids.specs.Room.{lent}
use Rattle.ids.proofs.Answering.{kept_tails}
use Rattle.ids.proofs.room.IdRoom.zero_from.Goals as goal

pub returns-clause-zeroed : goal.returns-clause-zeroed
returns-clause-zeroed c =
    kept_tails (lent c.args.self.now) c.args.k _ _ _ c.requires
    (c.fill.ensures.after (λ y e. e)) (c.fill-2.ensures.after (λ y e. e)) (c.fill-3.ensures.after (λ y e. e))
