-- `varint::read_on` meets its contract: the loop goes by `Unsigned`, and each need is a law of reading. Assumes nothing.
use Rattle.varint.proofs.Reading.{over, ended, last, turn}
use Rattle.varint.proofs.unsigned_numbers.read_on.Goals as goal

pub returns-then-bytes-next : goal.returns-then-bytes-next
returns-then-bytes-next g c = ended c.loop-k.invariant c.loop-k-test.true c.if-bytes-next.true

pub returns-then-b-lt128 : goal.returns-then-b-lt128
returns-then-b-lt128 g c = last c.loop-k.invariant c.loop-k-test.true c.if-bytes-next.false c.join-value.ensures c.if-b-lt128.true

pub loop-k-preserved : goal.loop-k-preserved
loop-k-preserved g c = turn c.loop-k.invariant c.loop-k-test.true c.if-bytes-next.false c.join-value.ensures c.if-b-lt128.false

pub returns : goal.returns
returns g c = over c.loop-k.invariant c.loop-k-test.false
