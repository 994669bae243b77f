-- `varint::write_var_u64` meets its contract: the laws of the room answer each need. Assumes nothing.
use Rattle.varint.proofs.Writing.{room}
use Rattle.varint.proofs.unsigned_numbers.write_var_u64.Goals as goal

pub returns-then-has_room : goal.returns-then-has_room
returns-then-has_room c = search room

pub returns : goal.returns
returns c = search room
