-- The invariant: what is left to read, with the rows so far, gives what the whole gives; and these rows stand in the output.
use native.Mathlib.Omega.{arith}
use Rattle.state_vector.proofs.Storing.{kept_both}
use Rattle.state_vector.proofs.Decoding.{pairing_more, pairing_over, pairing_stop, pairing_all, pair_first, pair_second, pair_full, pair_more}
use Rattle.state_vector.proofs.decoder.decode_pairs.Goals as goal

pub returns-in_err-client-clause-reads : goal.returns-in_err-client-clause-reads
returns-in_err-client-clause-reads c =
    pairing_stop (omega (arith, c.loop.room.fits, c.loop.invariant.kept.most)) c.loop.invariant.rows _ _ c.from_residual.ensures.1 (pair_first _ _ _ _ _ (omega arith) _ c.in_err-client.ensures)

pub returns-in_err-clock-clause-reads : goal.returns-in_err-clock-clause-reads
returns-in_err-clock-clause-reads c =
    pairing_stop (omega (arith, c.loop.room.fits, c.loop.invariant.kept.most)) c.loop.invariant.rows _ _ c.from_residual-in_err-clock.ensures.1 (pair_second _ _ _ _ _ (omega arith) c.in_ok-client.ensures _ c.in_err-clock.ensures)

pub returns-in_err-n-clause-reads : goal.returns-in_err-n-clause-reads
returns-in_err-n-clause-reads c =
    let k = c.loop.invariant.kept in
    pairing_over (omega (arith, c.loop.room.fits, k.most)) c.loop.invariant.rows _ (rw k.most at c.put-k.ensures.holds) _ _ c.from_residual-in_err-n.ensures.1 (rw (c.put-k.ensures.kept.most, k.most) at c.in_err-n.ensures)
    (pair_full _ _ _ _ _ (omega arith) c.in_ok-client.ensures c.in_ok-clock.ensures)

pub loop-preserved : goal.loop-preserved
loop-preserved c =
    let k = c.loop.invariant.kept in
    let s = c.put-k.ensures.kept in
    record {
      rows = rw c.in_ok-n.ensures.0 (pairing_more (omega (arith, c.loop.room.fits, k.most)) c.loop.invariant.rows _ (rw k.most at c.put-k.ensures.holds) (omega arith) (omega (arith, s.most, k.most, c.in_ok-n.ensures)) (omega (arith, s.most, k.most, c.put-k.new.self.fits))
          (pair_more _ _ _ _ _ (omega arith) c.in_ok-client.ensures c.in_ok-clock.ensures));
      kept = kept_both k s;
    }

pub returns-clause-reads : goal.returns-clause-reads
returns-clause-reads c = pairing_all (omega (arith, c.loop.room.fits, c.loop.invariant.kept.most)) c.loop.invariant.rows (omega arith)
