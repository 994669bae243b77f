-- `varint::go_on` meets its contract: the law of the next byte answers the return. Assumes nothing.
use Rattle.std.proofs.Common.{rules}
use Rattle.varint.proofs.Reading.{begins_fits, begins_step}
use Rattle.varint.proofs.begun.go_on.Goals as goal

pub returns-clause-begins : goal.returns-clause-begins
returns-clause-begins c =
    begins_step c.requires.begins c.requires.read_in_bounds c.requires.read_bound c.wrapping_shl-bits.ensures c.pick.ensures c.pick-2.ensures

pub overflow_add-result-2 : goal.overflow_add-result-2
overflow_add-result-2 c = search (begins_fits, rules)
