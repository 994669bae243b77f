-- The clause is a theorem of proofs/Starred.antt.
use Rattle.examples.proofs.Starred as starred
use Rattle.examples.proofs.all_hold.Goals as goal

pub returns : goal.returns
returns c = starred.all_hold
