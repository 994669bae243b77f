-- A refusal is handed on, and all is zero; else the result is laid.
use Rattle.ids.specs.Room.{laid, denied}
use Rattle.ids.proofs.Laying.{same_shape}
use Rattle.ids.proofs.Answering.{both_ok, both_first, both_second}
use Rattle.ids.proofs.walks.differed.Goals as goal

pub returns-in-Err-clause-laid : goal.returns-in-Err-clause-laid
returns-in-Err-clause-laid c = denied _ (both_first _ c.in-Err.is) c.settled.ensures.made c.settled.ensures.zeroed

pub returns-in-Err-b-clause-laid : goal.returns-in-Err-b-clause-laid
returns-in-Err-b-clause-laid c = denied _ (both_second c.in-Ok.is c.in-Err-b.is) c.settled-in-Err-b.ensures.made c.settled-in-Err-b.ensures.zeroed

pub returns-clause-laid : goal.returns-clause-laid
returns-clause-laid c = laid (c.in-Ok.a, c.in-Ok-b.b) (both_ok c.in-Ok.is c.in-Ok-b.is) c.lay_difference.ensures.lays

pub returns-clause-same : goal.returns-clause-same
returns-clause-same c = same_shape c.lay_difference.ensures.same
