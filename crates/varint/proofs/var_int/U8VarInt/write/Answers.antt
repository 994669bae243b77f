-- The `write` of u8 meets its contract: the round trip of unsigned numbers. Assumes nothing.
use Rattle.varint.proofs.ReadBack.{u8_back}
use Rattle.varint.proofs.var_int.U8VarInt.write.Goals as goal

pub returns-clause-back : goal.returns-clause-back
returns-clause-back c = u8_back _ _ _ _ _ c.ranges.self.fits c.write_u64.ensures
