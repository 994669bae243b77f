-- Malformed, and all is zero; or the rows of the difference are laid, if there is room.
use Rattle.std.proofs.Common.{rules}
use Rattle.tables.proofs.Sets.{difference_means}
use Rattle.ranges.proofs.Writing.{zeroed, finished}
use Rattle.ranges.proofs.combine.exclude.Goals as goal

pub returns-in-Err : goal.returns-in-Err
returns-in-Err c = zeroed _ (c.in-Err.ensures.0, λ t. c.in-Err.ensures.1 t.0) c.settled.ensures.same c.settled.ensures.left

pub returns-in-Err-checked : goal.returns-in-Err-checked
returns-in-Err-checked c = zeroed _ (c.in-Err-checked.ensures.0, λ t. c.in-Err-checked.ensures.1 t.1) c.settled-in-Err-checked.ensures.same c.settled-in-Err-checked.ensures.left

pub returns : goal.returns
returns c = finished _ c.lay_difference.result difference_means c.in-Ok.ensures c.in-Ok-checked.ensures c.lay_difference.ensures.lays (search rules)
