-- The invariant: i rows of the one vector and j of the other are merged. Where one is at its end, the rest of the other follows.
use native.Mathlib.Omega.{arith}
use Rattle.state_vector.proofs.Spanning.{vector_table}
use Rattle.state_vector.proofs.Storing.{kept_both}
use Rattle.state_vector.proofs.Stepping.{uniting_front, uniting_more, united_left, united_right}
use Rattle.state_vector.proofs.unite.merge_rows.Goals as goal

pub loop-i-init : goal.loop-i-init
loop-i-init c =
    let f = c.merge_front-front in
    record {
      rows = uniting_front (vector_table c.args.a) (vector_table c.args.b) (omega (arith, c.merge_front-front.new.room.fits, c.merge_front-front.ensures.kept.most)) c.merge_front-front.ensures.fronts _ (omega arith);
      kept = c.merge_front-front.ensures.kept;
    }

pub returns-then-b-j-clause-unites : goal.returns-then-b-j-clause-unites
returns-then-b-j-clause-unites c = united_left c.loop-i.invariant.rows c.if-b-j.true (rw c.loop-i.invariant.kept.most at c.rest.ensures.rests)

pub loop-i-preserved : goal.loop-i-preserved
loop-i-preserved c =
    let k = c.loop-i.invariant.kept in
    let s = c.store.ensures.kept in
    record {
      rows = uniting_more c.loop-i.invariant.rows (omega arith) (omega arith) (omega arith) (record { clock = c.counted.ensures; next = c.passed-i.ensures }) (record { clock = c.counted-in-loop-i.ensures; next = c.passed-j.ensures })
          (omega arith) (omega (arith, c.store.new.self.fits, k.most, s.most)) (rw k.most at c.store.ensures.stores);
      kept = kept_both k s;
    }

pub returns-clause-unites : goal.returns-clause-unites
returns-clause-unites c = united_right c.loop-i.invariant.rows c.loop-i-test.false (rw c.loop-i.invariant.kept.most at c.rest-2.ensures.rests)
