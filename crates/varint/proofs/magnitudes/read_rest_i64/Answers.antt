-- `varint::read_rest_i64` meets its contract: the loop goes by `SignedBits`, and the laws of reading answer each need. Assumes nothing.
use Rattle.varint.proofs.Integers.{signed_reading}
use Rattle.varint.proofs.magnitudes.read_rest_i64.Goals as goal

pub returns-then-bytes-next : goal.returns-then-bytes-next
returns-then-bytes-next c = search signed_reading

pub returns-then-b-lt128 : goal.returns-then-b-lt128
returns-then-b-lt128 c = search signed_reading

pub loop-k-preserved : goal.loop-k-preserved
loop-k-preserved c = search signed_reading

pub returns-then-next-bytes : goal.returns-then-next-bytes
returns-then-next-bytes c = search signed_reading

pub returns-else-next-bytes : goal.returns-else-next-bytes
returns-else-next-bytes c = search signed_reading
