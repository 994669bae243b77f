-- The range finds its place, and one row stands there for those that it meets.
use native.Mathlib.Omega.{arith}
use mathlib.Core.Path.{refl}
use borrow.Author.Rules.{rules}
use Rattle.ids.specs.Places.{number_of}
use Rattle.ids.proofs.Numbering.{narrow}
use Rattle.ids.proofs.Splicing.{parted_ends, parted_starts, laid_full, laid_done, spliced}
use Rattle.ids.proofs.Inserting.{range_added}
use Rattle.ids.proofs.Answering.{made_over, made_within}
use Rattle.ids.proofs.edit.put_in.Goals as goal

pub returns-then-capacity-k-clause-made : goal.returns-then-capacity-k-clause-made
returns-then-capacity-k-clause-made c =
    let a = c.args in
    let t = a.table in
    let p = parted_ends t (number_of a.client.0 a.start.0) _ (λ k p. search rules) (λ k p. search rules) c.first_not-i.ensures in
    let q = parted_starts t (number_of a.client.0 a.start.0) (number_of a.client.0 a.end.0) _ (omega (arith, c.requires)) (λ k p. search rules) (λ k p. search rules) p c.first_not-j.ensures in
    made_over t _ refl (omega (arith, c.capacity.ensures, c.if-capacity-k.true))
    (range_added _ _ _ t c.requires
    (laid_full (narrow _ t.typed.starts) (narrow _ t.typed.ends) t.table (omega arith) (omega arith) c.requires c.first_not-j.ensures.lower p q c.lead-first.ensures c.trail-last.ensures
    refl (omega (arith, c.capacity.ensures, c.if-capacity-k.true))))

pub returns-clause-made : goal.returns-clause-made
returns-clause-made c =
    let a = c.args in
    let t = a.table in
    let p = parted_ends t (number_of a.client.0 a.start.0) _ (λ k p. search rules) (λ k p. search rules) c.first_not-i.ensures in
    let q = parted_starts t (number_of a.client.0 a.start.0) (number_of a.client.0 a.end.0) _ (omega (arith, c.requires)) (λ k p. search rules) (λ k p. search rules) p c.first_not-j.ensures in
    let few = t.table.few in
    let l = c.first_not-j.ensures.lower in
    let w = c.first_not-j.ensures.within in
    made_within t _ refl (omega (arith, c.capacity.ensures, c.if-capacity-k.false))
    (range_added _ _ _ t c.requires
    (laid_done (narrow _ t.typed.starts) (narrow _ t.typed.ends) t.table (omega arith) (omega arith) c.requires l p q c.lead-first.ensures c.trail-last.ensures
    refl (omega (arith, c.capacity.ensures, c.if-capacity-k.false)) (spliced _ l (omega arith) (omega arith) c.splice_front.ensures) (spliced _ l (omega arith) (omega arith) c.splice_front-2.ensures)
    (spliced _ l (omega arith) (omega arith) c.splice_front-3.ensures)))
