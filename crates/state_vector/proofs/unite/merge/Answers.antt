-- What was made is settled.
use native.Mathlib.Omega.{arith}
use borrow.Author.Rules.{rules}
use Rattle.state_vector.specs.Lent.{lends}
use Rattle.state_vector.proofs.Storing.{room_settled, kept_fits}
use Rattle.state_vector.proofs.unite.merge.Goals as goal

pub settle-requires : goal.settle-requires
settle-requires c = omega (arith, kept_fits (lends c.new-room.result) _ _ c.merged-made.ensures.makes, c.merged-made.ensures.kept.clients_len, c.merged-made.ensures.kept.clocks_len)

pub returns : goal.returns
returns c =
    room_settled c.new-room.result _ c.settle.new.self _ _ c.new-room.ensures.clients c.new-room.ensures.clocks (search rules) (search rules) (omega arith) c.merged-made.ensures.makes c.merged-made.ensures.kept c.settle.ensures.rows
