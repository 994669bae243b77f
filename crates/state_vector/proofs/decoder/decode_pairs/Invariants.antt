-- The invariant: what is left to read, with the rows so far, gives what the whole gives; and these rows stand in the output.
use mathlib.Core.List.{[]}
use Prim.Native.Nat.{◌-◌}
use Rattle.state_vector.specs.Bytes.{pairs_at}
use Rattle.state_vector.specs.Lent.{lends, Kept}
use Rattle.state_vector.proofs.Decoding.{Pairing}
use Rattle.state_vector.proofs.decoder.decode_pairs.Given as goal

abbrev pub invariant-loop : goal.invariant-loop
invariant-loop l = record {
  rows : Pairing l.initial.room.most l.bytes (pairs_at l.initial.room.most l.bytes l.count [] l.start) (lends l.room) l.next (l.count - l.counter) l.n;
  kept : Kept l.initial.room l.room;
}
