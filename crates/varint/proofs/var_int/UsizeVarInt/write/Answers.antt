-- The `write` of usize meets its contract: the round trip of unsigned numbers. Assumes nothing.
use Rattle.varint.proofs.ReadBack.{u64_back}
use Rattle.varint.proofs.var_int.UsizeVarInt.write.Goals as goal

pub returns-clause-back : goal.returns-clause-back
returns-clause-back c = u64_back _ _ _ _ _ c.ranges.self.fits c.write_u64.ensures
