-- An empty range changes nothing. Any other becomes one row in the place of those that it meets, if there is room for all.
use native.Mathlib.Omega.{arith}
use Rattle.ranges.proofs.Growing.{grown_same, grown_over, grown_rows}
use Rattle.ranges.proofs.grow.grow.Goals as goal

pub returns-then-e-s : goal.returns-then-e-s
returns-then-e-s c = grown_same c.requires c.args.s c.args.e (omega arith)

pub returns-then-fitting-r : goal.returns-then-fitting-r
returns-then-fitting-r c = grown_over c.requires c.min-p.ensures c.max-q.ensures (omega arith) c.starts_below-j.ensures.lower_bound c.tail_below-i.ensures c.starts_below-j.ensures.parted_2 c.start_or.ensures c.end_or.ensures _ (omega (arith, c.fitting.ensures))

pub returns : goal.returns
returns c =
    grown_rows c.requires c.min-p.ensures c.max-q.ensures (omega arith) c.starts_below-j.ensures.lower_bound c.tail_below-i.ensures c.starts_below-j.ensures.parted_2 c.start_or.ensures c.end_or.ensures
    c.shift.new.out c.shift.ensures (omega (arith, c.fitting.ensures, c.shift.auto.out)) (omega (arith, c.fitting.ensures))
