-- `varint::write_var_i64` meets its contract: the laws of putting answer each need. Assumes nothing.
use Rattle.varint.proofs.Integers.{putting}
use Rattle.varint.proofs.magnitudes.write_var_i64.Goals as goal

pub returns-then-buf-at : goal.returns-then-buf-at
returns-then-buf-at c = search putting

pub returns-then-magnitude-lt64 : goal.returns-then-magnitude-lt64
returns-then-magnitude-lt64 c = search putting

pub returns-then-has_room : goal.returns-then-has_room
returns-then-has_room c = search putting

pub returns : goal.returns
returns c = search putting
