-- Each place is found by the rows of the other table that are left.
use native.Mathlib.Omega.{arith}
use Rattle.tables.proofs.Clipping.{clipped_one, clipped_low, begun_one, goes_on, begun_two, clipped_all}
use Rattle.tables.proofs.walking.bounds.Goals as goal

pub returns-then-n-i-clause-clipped : goal.returns-then-n-i-clause-clipped
returns-then-n-i-clause-clipped g c =
    clipped_one (g.met.T.Table.ruled c.args.a).plain (g.met.T.Table.ruled c.args.b).plain c.row_count-n.ensures c.row_count-m.ensures (omega arith) c.start_at.ensures c.ended-i.ensures

pub returns-then-m-j-clause-clipped : goal.returns-then-m-j-clause-clipped
returns-then-m-j-clause-clipped g c =
    clipped_low (g.met.T.Table.ruled c.args.a).plain (g.met.T.Table.ruled c.args.b).plain c.row_count-n.ensures c.row_count-m.ensures (omega arith) c.start_at.ensures c.ended-i.ensures
    (omega arith) c.start_at-2.ensures c.ended-j.ensures

pub begun-u-requires : goal.begun-u-requires
begun-u-requires g c =
    begun_one (g.met.T.Table.ruled c.args.a).plain (g.met.T.Table.ruled c.args.b).plain c.row_count-n.ensures c.row_count-m.ensures (omega arith) c.start_at.ensures c.ended-i.ensures
    (omega arith) c.start_at-2.ensures c.ended-j.ensures (omega arith) c.end_at.ensures

pub overflow_sub-u : goal.overflow_sub-u
overflow_sub-u g c =
    let h = goes_on (g.met.T.Table.ruled c.args.a).plain (g.met.T.Table.ruled c.args.b).plain c.row_count-n.ensures c.row_count-m.ensures (omega arith) c.start_at.ensures c.ended-i.ensures
    (omega arith) c.start_at-2.ensures c.ended-j.ensures (omega arith) c.end_at.ensures c.begun-u.ensures.lower c.begun-u.ensures.parted in
    omega (arith, h)

pub begun-v-requires : goal.begun-v-requires
begun-v-requires g c =
    begun_two (g.met.T.Table.ruled c.args.a).plain (g.met.T.Table.ruled c.args.b).plain c.row_count-n.ensures c.row_count-m.ensures (omega arith) c.start_at.ensures c.ended-i.ensures
    (omega arith) c.start_at-2.ensures c.ended-j.ensures (omega arith) c.end_at.ensures c.begun-u.ensures.lower c.begun-u.ensures.parted c.end_at-2.ensures

pub returns-clause-clipped : goal.returns-clause-clipped
returns-clause-clipped g c =
    clipped_all (g.met.T.Table.ruled c.args.a).plain (g.met.T.Table.ruled c.args.b).plain c.row_count-n.ensures c.row_count-m.ensures (omega arith) c.start_at.ensures c.ended-i.ensures
    (omega arith) c.start_at-2.ensures c.ended-j.ensures (omega arith) c.end_at.ensures c.begun-u.ensures.lower c.begun-u.ensures.parted c.end_at-2.ensures c.begun-v.ensures.lower c.begun-v.ensures.parted
