-- Each clause is a theorem of proofs/Refuted.antt.
use Rattle.desks.specs.Stated.{stated}
use Rattle.desks.proofs.Refuted as refuted
use Rattle.desks.proofs.excluded.Goals as goal

pub returns-clause-left_back : goal.returns-clause-left_back
returns-clause-left_back c = refuted.left_back_excluded

pub returns-clause-apart : goal.returns-clause-apart
returns-clause-apart c = refuted.left_back_apart

pub returns-clause-acknowledging : goal.returns-clause-acknowledging
returns-clause-acknowledging c = refuted.acknowledging_excluded

pub returns-clause-counting : goal.returns-clause-counting
returns-clause-counting c = refuted.counting_excluded stated

pub returns-clause-refusing : goal.returns-clause-refusing
returns-clause-refusing c = refuted.refusing_excluded

pub returns-clause-silent : goal.returns-clause-silent
returns-clause-silent c = refuted.silent_excluded
