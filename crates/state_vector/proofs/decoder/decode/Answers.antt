-- What was read is settled.
use native.Mathlib.Omega.{arith}
use borrow.Author.Rules.{rules}
use Rattle.state_vector.proofs.Decoding.{read_settled, count_fits}
use Rattle.state_vector.proofs.decoder.decode.Goals as goal

pub settle-requires : goal.settle-requires
settle-requires c =
    let a = c.args in
    omega (arith, count_fits a.bytes.now a.at c.new-room.result c.decoded-read.new.room _ c.decoded-read.ensures.reads, c.decoded-read.ensures.kept.clients_len, c.decoded-read.ensures.kept.clocks_len)

pub returns : goal.returns
returns c =
    read_settled _ _ c.new-room.result _ _ c.decoded-read.ensures.reads c.settle.new.self _ c.new-room.ensures.clients c.new-room.ensures.clocks (search rules) (search rules) (omega arith) c.decoded-read.ensures.kept c.settle.ensures.rows
