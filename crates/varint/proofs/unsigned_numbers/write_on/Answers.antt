-- `varint::write_on` meets its contract: the loop goes by `Writing`, and the laws of writing answer each need. Assumes nothing.
use Rattle.varint.proofs.Writing.{writing}
use Rattle.varint.proofs.unsigned_numbers.write_on.Goals as goal

pub bounds-buf-next : goal.bounds-buf-next
bounds-buf-next c = search writing

pub loop-v-preserved : goal.loop-v-preserved
loop-v-preserved c = search writing

pub bounds-buf-next-2 : goal.bounds-buf-next-2
bounds-buf-next-2 c = search writing

pub returns : goal.returns
returns c = search writing
