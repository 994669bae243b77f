-- Each clause is a theorem of proofs/.
use Rattle.desks.proofs.Running as running
use Rattle.desks.proofs.Converging as converging
use Rattle.desks.proofs.Ordering as ordering
use Rattle.desks.proofs.Going as going
use Rattle.desks.proofs.Reaching as reaching
use Rattle.desks.proofs.demand.Goals as goal

pub returns-clause-demand : goal.returns-clause-demand
returns-clause-demand c = running.demand

pub returns-clause-converge : goal.returns-clause-converge
returns-clause-converge c = converging.converge running.demand

pub returns-clause-handed_on : goal.returns-clause-handed_on
returns-clause-handed_on c = running.handed_on

pub returns-clause-answers : goal.returns-clause-answers
returns-clause-answers c = running.answers

pub returns-clause-goes_on : goal.returns-clause-goes_on
returns-clause-goes_on c = going.goes_on

pub returns-clause-some_order : goal.returns-clause-some_order
returns-clause-some_order c = ordering.some_order

pub returns-clause-never_malformed : goal.returns-clause-never_malformed
returns-clause-never_malformed c = running.never_malformed

pub returns-clause-reached_is : goal.returns-clause-reached_is
returns-clause-reached_is c = reaching.reached_is
