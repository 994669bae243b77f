-- The contract of each public function determines its answer: this one has none, and is lent nothing.
use mathlib.Core.Path.{refl}
use Rattle.varint.proofs.Determining.{Answers}
use Rattle.examples.proofs.all_hold.Reads as all-hold

pub all_hold_determined : Answers all-hold.Learnt
all_hold_determined κ x r s y z p q = refl
