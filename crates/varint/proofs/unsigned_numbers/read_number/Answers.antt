-- `varint::read_number` meets its contract: the laws of the first bytes answer each need. Assumes nothing.
use Rattle.varint.proofs.Reading.{none, one_byte}
use Rattle.varint.proofs.unsigned_numbers.read_number.Goals as goal

pub returns-then-bytes-at : goal.returns-then-bytes-at
returns-then-bytes-at g c = none _ _ _ c.if-bytes-at.true

pub returns-then-first-lt128 : goal.returns-then-first-lt128
returns-then-first-lt128 g c = rw c.low-value.ensures (one_byte _ _ _ g.met.T.Unsigned.at_least c.if-bytes-at.false c.if-first-lt128.true)
