-- The invariant: the table of the pairs passed stands in the output, and each table on the way had room.
use mathlib.Core.Path.{refl}
use native.Mathlib.Omega.{arith}
use Rattle.ranges.proofs.Growing.{grown_none, grown_more, grown_full, grown_all, from_malformed}
use Rattle.ranges.proofs.grow.gathered.Goals as goal

pub returns-then-pairs-count : goal.returns-then-pairs-count
returns-then-pairs-count c = from_malformed _ _ _ (omega arith)

pub loop-i-init : goal.loop-i-init
loop-i-init c = grown_none (omega arith)

pub returns-then-most-k : goal.returns-then-most-k
returns-then-most-k c = grown_full c.loop-i.invariant c.grow-k.new.out c.loop-i-test.true refl refl c.grow-k.ensures c.grow-k.auto.out c.fitting-most.ensures c.if-most-k.true

pub loop-i-preserved : goal.loop-i-preserved
loop-i-preserved c = grown_more c.loop-i.invariant c.grow-k.new.out c.loop-i-test.true refl refl c.grow-k.ensures c.grow-k.auto.out c.fitting-most.ensures c.if-most-k.false

pub returns : goal.returns
returns c = grown_all c.loop-i.invariant c.loop-i-test.false
