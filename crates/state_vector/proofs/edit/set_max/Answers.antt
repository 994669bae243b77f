-- What was made is settled.
use native.Mathlib.Omega.{arith}
use borrow.Author.Rules.{rules}
use Rattle.state_vector.specs.Lent.{lends}
use Rattle.state_vector.proofs.Storing.{room_settled, kept_fits}
use Rattle.state_vector.proofs.edit.set_max.Goals as goal

pub settle-requires : goal.settle-requires
settle-requires c = omega (arith, kept_fits (lends c.new-room.result) _ _ c.larger_set-made.ensures.makes, c.larger_set-made.ensures.kept.clients_len, c.larger_set-made.ensures.kept.clocks_len)

pub returns : goal.returns
returns c =
    room_settled c.new-room.result _ c.settle.new.self _ _ c.new-room.ensures.clients c.new-room.ensures.clocks (search rules) (search rules) (omega arith) c.larger_set-made.ensures.makes c.larger_set-made.ensures.kept c.settle.ensures.rows
