use Rattle.lines.proofs.Growing.{grows_none, grows_more}
use Rattle.lines.proofs.Loops.{lines_end}
use Rattle.lines.proofs.blocks.answer_block.Goals as goal

pub loop-at-smaller : goal.loop-at-smaller
loop-at-smaller g c = lines_end _ _ c.loop-at-test.true c.line-at.ensures.next

pub loop-at-init : goal.loop-at-init
loop-at-init g c = grows_none _

pub loop-at-preserved : goal.loop-at-preserved
loop-at-preserved g c = grows_more _ _ _ c.loop-at.invariant _ c.in_ok-write_all.ensures.bytes
