-- The invariant: the bytes of the rows passed are put. All fit, so each number does.
use Rattle.state_vector.proofs.Encoding.{writing_more, writing_all, client_fits, clock_fits}
use borrow.Author.Rules.{rules}
use Rattle.state_vector.proofs.Spanning.{vector_table}
use Rattle.state_vector.proofs.vector.Vector.write_pairs.Goals as goal

pub write_number-next-requires : goal.write_number-next-requires
write_number-next-requires c = search (client_fits, vector_table)

pub write_number-next-requires-in-loop-i : goal.write_number-next-requires-in-loop-i
write_number-next-requires-in-loop-i c = search (clock_fits, vector_table)

pub loop-i-preserved : goal.loop-i-preserved
loop-i-preserved c = search (writing_more, vector_table)

pub returns : goal.returns
returns c = search (writing_all, vector_table, rules)
