-- `varint::write_signed` meets its contract: the round trip of `Signed`. Assumes nothing.
use Rattle.std.proofs.Common.{ℤ, ap, ◌∙◌, to_z-of_z, w64}
use Rattle.varint.specs.Integer.{write_signed_at}
use Rattle.varint.specs.declared.signed_numbers.Signed.{Signed}
use Rattle.varint.proofs.ReadBack.{signed_back}
use Rattle.varint.proofs.signed_numbers.write_signed.Goals as goal

pub returns-clause-back : goal.returns-clause-back
returns-clause-back g c =
    let e = c.write_signed_i64.ensures
    ∙ ap (λ (s : Signed ℤ). write_signed_at s.is_negative s.value c.args.buf.now c.args.at) c.new-wide.ensures
    ∙ ap (λ (z : ℤ). write_signed_at c.args.signed.is_negative z c.args.buf.now c.args.at) (to_z-of_z {w = w64} (record { sfits = c.wide.type_inv }) ∙ c.wide.ensures.same) in
    signed_back _ _ _ _ _ g.met.T.Integer.at_most c.wide.ensures.fits _ _ e
