-- The loop goes by `Writing`, over the numbers of the values.
use Rattle.std.proofs.Common.{map}
use Rattle.pace.proofs.Looping.{Writing}
use Rattle.pace.proofs.write_all.Given as goal

abbrev pub invariant-loop-i : goal.invariant-loop-i
invariant-loop-i g l = Writing (map g.T.Unsigned.number l.values) l.initial.buf l.buf l.i l.at
