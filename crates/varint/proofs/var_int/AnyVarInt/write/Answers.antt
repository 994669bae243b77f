-- The `write` of every signed width meets its contract: the round trip of plain signed numbers. Assumes nothing.
use Rattle.std.proofs.Common.{ℤ, ap, ◌∙◌, to_z-of_z, w64}
use Rattle.varint.specs.Number.{write_at}
use Rattle.varint.specs.Integer.{int_bytes}
use Rattle.varint.proofs.ReadBack.{int_back}
use Rattle.varint.proofs.var_int.AnyVarInt.write.Goals as goal

pub returns-clause-back : goal.returns-clause-back
returns-clause-back g c =
    let e = c.write_i64.ensures
    ∙ ap (λ (z : ℤ). write_at (int_bytes z) c.args.buf.now c.args.at) (to_z-of_z {w = w64} (record { sfits = c.wide.type_inv }) ∙ c.wide.ensures.same) in
    int_back _ _ _ _ _ g.met.T.Integer.at_most c.wide.ensures.fits _ e
