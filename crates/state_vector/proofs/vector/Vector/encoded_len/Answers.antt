-- The invariant: the sum is that of the count and the rows passed. A row takes at most fifteen bytes, so it does not overflow.
use native.Mathlib.Omega.{arith}
use Rattle.state_vector.specs.Inner.{row_at}
use Rattle.state_vector.specs.Lent.{lent}
use Rattle.state_vector.proofs.Spanning.{vector_table}
use Rattle.state_vector.proofs.Encoding.{row_most, summing_none, summing_more, summing_all}
use Rattle.state_vector.proofs.vector.Vector.encoded_len.Goals as goal

pub loop-i-init : goal.loop-i-init
loop-i-init c = summing_none _ _ _ (omega (arith, c.args.self.few)) c.length_u64-sum.ensures

pub overflow_add-sum : goal.overflow_add-sum
overflow_add-sum c =
    let a = c.args in
    omega (arith, row_most (row_at (lent a.self).slices c.loop-i.i) c.length_u64-c.ensures c.length_u32-k.ensures (omega (arith, c.args.self.typed.clients c.loop-i.i)) (omega (arith, c.args.self.typed.clocks c.loop-i.i)))

pub overflow_add-sum-in-loop-i : goal.overflow_add-sum-in-loop-i
overflow_add-sum-in-loop-i c =
    let a = c.args in
    omega (arith, row_most (row_at (lent a.self).slices c.loop-i.i) c.length_u64-c.ensures c.length_u32-k.ensures (omega (arith, c.args.self.typed.clients c.loop-i.i)) (omega (arith, c.args.self.typed.clocks c.loop-i.i)), c.loop-i.invariant.few, c.args.self.few)

pub loop-i-preserved : goal.loop-i-preserved
loop-i-preserved c =
    summing_more c.loop-i.invariant c.loop-i-test.true c.length_u64-c.ensures c.length_u32-k.ensures (omega (arith, c.args.self.typed.clients c.loop-i.i)) (omega (arith, c.args.self.typed.clocks c.loop-i.i))

pub returns : goal.returns
returns c = summing_all (vector_table c.args.self) c.loop-i.invariant (omega arith)
