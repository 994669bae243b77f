-- The count's bytes and then those of the rows: all fit, so both do.
use Rattle.state_vector.proofs.Spanning.{vector_table}
use Rattle.state_vector.proofs.Encoding.{count_fits, rows_fit, rows_put}
use Rattle.state_vector.proofs.vector.Vector.write.Goals as goal

pub write_number-next-requires : goal.write_number-next-requires
write_number-next-requires c = count_fits _ c.args.buf.now (vector_table c.args.self) c.requires

pub write_pairs-requires : goal.write_pairs-requires
write_pairs-requires c = rows_fit _ _ (vector_table c.args.self) c.requires c.write_number-next.ensures

pub returns : goal.returns
returns c = rows_put _ _ (vector_table c.args.self) c.requires c.write_number-next.ensures c.write_pairs.ensures
