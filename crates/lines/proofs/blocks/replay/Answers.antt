use Rattle.lines.specs.Output.{Grows}
use Rattle.lines.proofs.Growing.{grows_none, grows_both, grows_flushed}
use Rattle.lines.proofs.blocks.replay.Goals as goal
use Rattle.lines.proofs.blocks.replay.Goals.{else-loop-test, then-loop-test+in_ok-answer_block+in_ok-read+then-is_empty}

pub loop-init : goal.loop-init
loop-init g c = grows_none _

pub loop-preserved : goal.loop-preserved
loop-preserved g c = grows_both _ _ _ c.loop.invariant c.in_ok-answer_block.ensures

pub returns : goal.returns
returns g c =
    let h : Grows (g.W.Write.contents c.args.out.now) (g.W.Write.contents c.loop-test.out) = elim c.loop-test.branch [
      | else-loop-test w ↦ rw w.out-is c.loop.invariant
      | then-loop-test+in_ok-answer_block+in_ok-read+then-is_empty w ↦ rw w.out-is (grows_both _ _ _ c.loop.invariant w.in_ok-answer_block.ensures)
    ] in
    grows_flushed _ _ _ _ h c.flush.ensures.bytes
