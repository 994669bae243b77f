-- `varint::write_u64` meets its contract: a number of one byte is written at once, and of a longer one the laws of the room answer each need. Assumes nothing.
use Rattle.std.proofs.Common.{length}
use Rattle.varint.proofs.Writing.{room, single, short_there, bytes_last}
use Rattle.varint.proofs.unsigned_numbers.write_u64.Goals as goal

pub returns-then-value-at : goal.returns-then-value-at
returns-then-value-at c =
    let h = short_there c.args.value c.args.at (length c.args.buf.now) c.if-value-at.true in
    single _ _ _ (bytes_last _ h.0) h.1

pub write_long-requires-clause-le_value : goal.write_long-requires-clause-le_value
write_long-requires-clause-le_value c = search room

pub returns-then-has_room : goal.returns-then-has_room
returns-then-has_room c = search room

pub returns : goal.returns
returns c = search room
