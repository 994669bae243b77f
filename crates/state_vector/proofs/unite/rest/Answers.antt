-- The invariant: the rows passed stand behind those that were there, as far as there is room.
use native.Mathlib.Omega.{arith}
use Rattle.state_vector.proofs.Storing.{resting_none, resting_more, kept_none, kept_both}
use Rattle.state_vector.proofs.unite.rest.Goals as goal

pub loop-i-init : goal.loop-i-init
loop-i-init c = record { rows = resting_none _ _ _ _ _ _ (omega arith) (omega (arith, c.args.room.now.fits)); kept = kept_none _ }

pub loop-i-preserved : goal.loop-i-preserved
loop-i-preserved c =
    let k = c.loop-i.invariant.kept in
    let s = c.store.ensures.kept in
    record {
      rows = resting_more _ (omega arith) (omega (arith, c.store.new.self.fits, k.most, s.most)) (rw k.most at c.store.ensures.stores) c.loop-i.invariant.rows;
      kept = kept_both k s;
    }
