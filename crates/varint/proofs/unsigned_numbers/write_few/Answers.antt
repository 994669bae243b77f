-- `varint::write_few` meets its contract: the loop goes by `Few`, and the laws of writing answer each need. Assumes nothing.
use Rattle.varint.proofs.Writing.{writing_few}
use Rattle.varint.proofs.unsigned_numbers.write_few.Goals as goal

pub bounds-buf-next : goal.bounds-buf-next
bounds-buf-next c = search writing_few

pub loop-preserved : goal.loop-preserved
loop-preserved c = search writing_few

pub overflow_cast-buf-2 : goal.overflow_cast-buf-2
overflow_cast-buf-2 c = search writing_few

pub bounds-buf-next-2 : goal.bounds-buf-next-2
bounds-buf-next-2 c = search writing_few

pub returns : goal.returns
returns c = search writing_few
