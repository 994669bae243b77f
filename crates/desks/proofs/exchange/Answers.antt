-- What the two merges leave is the same: a law of proofs/Converging.antt.
use Rattle.desks.specs.Steps.{table, lent}
use Rattle.desks.proofs.Converging.{either_way}
use Rattle.desks.proofs.exchange.Goals as goal

pub returns-clause-alike : goal.returns-clause-alike
returns-clause-alike c =
    λ s. either_way (table c.args.desk) (table c.args.other) (lent c.args.spare.now) (lent c.args.other_spare.now) (lent c.merge.new.spare) (lent c.merge-2.new.spare)
    c.merge.result c.merge-2.result s c.merge.ensures.step c.merge-2.ensures.step
