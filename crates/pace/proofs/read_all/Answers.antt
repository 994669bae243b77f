-- `pace::read_all` meets its contract: the loop goes by `Reading`. Assumes nothing.
use Rattle.pace.proofs.Looping.{start, all_read, read_refused, read_more, matched}
use Rattle.pace.proofs.read_all.Goals as goal

pub loop-left-init : goal.loop-left-init
loop-left-init g c = start _ _ _

pub returns-in_err-value : goal.returns-in_err-value
returns-in_err-value g c =
    matched _ c.from_residual.result c.from_residual.ensures.0 (read_refused c.loop-left.invariant c.loop-left-test.true g.T.Unsigned.number c.read_number.ensures c.in_err-value.was)

pub loop-left-preserved : goal.loop-left-preserved
loop-left-preserved g c =
    rw c.wide-sum.ensures.same (read_more c.loop-left.invariant c.loop-left-test.true g.T.Unsigned.number c.read_number.ensures c.in_ok-value.was c.wide-sum.ensures.fits)

pub returns : goal.returns
returns g c = all_read c.loop-left.invariant c.loop-left-test.false
