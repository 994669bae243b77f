-- `pace::write_all` meets its contract: the loop goes by `Writing`. Assumes nothing.
use Rattle.std.proofs.Common.{ℕ, ap, ◌∙◌}
use Rattle.std.proofs.lemmas.List.{length-map}
use Rattle.varint.specs.Number.{bytes_of, write_at}
use Rattle.pace.proofs.Looping.{all_written, write_refused, write_more, numbered}
use Rattle.pace.proofs.write_all.Goals as goal

pub returns-in-Err : goal.returns-in-Err
returns-in-Err g c =
    let value = c.wide.ensures.same ∙ numbered g.T.Unsigned.number c.args.values.now c.loop-i.i c.loop-i-test.true c.index-values-i.is in
    let told = c.write_u64.ensures ∙ ap (λ (n : ℕ). write_at (bytes_of n) c.loop-i.buf c.loop-i.at) value in
    write_refused c.loop-i.invariant (rw length-map c.loop-i-test.true) c.write_u64.new.buf told c.in-Err.is

pub loop-i-preserved : goal.loop-i-preserved
loop-i-preserved g c =
    let value = c.wide.ensures.same ∙ numbered g.T.Unsigned.number c.args.values.now c.loop-i.i c.loop-i-test.true c.index-values-i.is in
    let told = c.write_u64.ensures ∙ ap (λ (n : ℕ). write_at (bytes_of n) c.loop-i.buf c.loop-i.at) value in
    write_more c.loop-i.invariant (rw length-map c.loop-i-test.true) c.write_u64.new.buf told c.in-Ok.is

pub returns : goal.returns
returns g c = all_written c.loop-i.invariant (rw length-map c.loop-i-test.false)
