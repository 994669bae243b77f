-- Each turn of the loop is one byte.
use Rattle.std.proofs.Common.{◌≡◌, ◌+◌, ◌≤◌, length}
use Rattle.varint.specs.Inner.{Begins}
use Rattle.varint.proofs.begun.begin.Given as goal

abbrev pub invariant-loop : goal.invariant-loop
invariant-loop l = Begins l.bytes l.at l.s.read l.s.value l.s.next l.s.more × (l.s.read ≡ l.counter) × (l.at + 5 ≤ length l.bytes)
