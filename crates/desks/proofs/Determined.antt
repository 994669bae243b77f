-- The contract of each public function determines its answer and every element of the lent memory: any two results of one call coincide. `Learnt` is what a
-- caller learns, as Rattle reads the `ensures`, so a weaker `ensures` breaks the theorem. Assumes nothing.
use mathlib.Core.Path.{refl}
use Rattle.varint.proofs.Determining.{Answers, Settles}
use Rattle.ids.specs.Tables.{Slices}
use Rattle.ids.proofs.Determined.{writes_one, captured_one}
use Rattle.desks.specs.Steps.{table, lent}
use Rattle.desks.proofs.insert.Reads as insert
use Rattle.desks.proofs.capture.Reads as capture
use Rattle.desks.proofs.merge.Reads as merge
use Rattle.desks.proofs.exchange.Reads as exchange
use Rattle.desks.proofs.demand.Reads as demand
use Rattle.desks.proofs.excluded.Reads as excluded

pub insert_determined : Settles insert.Learnt (λ κ y. lent y.1.1.1.1.0.now)
insert_determined κ x r s y z p q = writes_one (lent x.1.1.1.1.0.now) p.0 q.0

pub capture_determined : Settles capture.Learnt (λ κ y. lent y.1.0.now)
capture_determined κ x r s y z p q = captured_one (table x.0) (lent x.1.0.now) p.0 q.0

pub merge_determined : Settles merge.Learnt (λ κ y. lent y.1.1.0.now)
merge_determined κ x r s y z p q = writes_one (lent x.1.1.0.now) p.0 q.0

pub exchange_determined : Settles {M = Slices × Slices} exchange.Learnt (λ κ y. (lent y.1.1.0.now, lent y.1.1.1.0.now))
exchange_determined κ x r s y z p q =
    let one = writes_one (lent x.1.1.0.now) p.0 q.0 in
    let other = writes_one (lent x.1.1.1.0.now) p.1.0 q.1.0 in
    (λ i. (one.0 i, other.0 i), λ i. (one.1 i, other.1 i))

-- no answer, and nothing lent
pub demand_determined : Answers demand.Learnt
demand_determined κ x r s y z p q = refl

pub excluded_determined : Answers excluded.Learnt
excluded_determined κ x r s y z p q = refl
