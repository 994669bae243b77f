-- `varint::write_long` meets its contract: the loop goes by `Long`, and what it leaves is written by `write_few`. Assumes nothing.
use Rattle.varint.proofs.Writing.{writing_long}
use Rattle.varint.proofs.unsigned_numbers.write_long.Goals as goal

pub bounds-buf-next : goal.bounds-buf-next
bounds-buf-next c = search writing_long

pub loop-v-preserved : goal.loop-v-preserved
loop-v-preserved c = search writing_long

pub write_few-requires-clause-value_len_bound : goal.write_few-requires-clause-value_len_bound
write_few-requires-clause-value_len_bound c = search writing_long

pub write_few-requires-clause-value_in_bounds : goal.write_few-requires-clause-value_in_bounds
write_few-requires-clause-value_in_bounds c = search writing_long

pub returns : goal.returns
returns c = search writing_long
