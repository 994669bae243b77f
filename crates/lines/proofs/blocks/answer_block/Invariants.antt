use Rattle.std.proofs.Common.{◌-◌, length}
use Rattle.lines.specs.Output.{Grows}
use Rattle.lines.proofs.blocks.answer_block.Given as goal

abbrev pub invariant-loop-at : goal.invariant-loop-at
invariant-loop-at g l = Grows (g.W.Write.contents l.initial.out) (g.W.Write.contents l.out)

abbrev pub decreases-loop-at : goal.decreases-loop-at
decreases-loop-at g l = length l.block - l.at
