-- What a checked vector and the room for one lend. Their own files can't cite this one, which names them.
use Rattle.std.specs.Prelude.{◌≡◌, length}
use Rattle.state_vector.specs.Vectors.{Slices, two, Held, held}
use Rattle.state_vector.specs.declared.vector.Vector.{Vector}
use Rattle.state_vector.specs.declared.vector.VectorRoom.{VectorRoom}

abbrev pub lent : Vector → Held
lent v = held v.clients.now v.clocks.now v.count

abbrev pub lends : VectorRoom → Slices
lends r = two r.clients.now r.clocks.now

-- the same slices are lent, with as many elements
pub record Kept (r s : VectorRoom) : Type 0 where
  pub clients : s.clients.ghost_name ≡ r.clients.ghost_name
  pub clocks : s.clocks.ghost_name ≡ r.clocks.ghost_name
  pub clients_len : length s.clients.now ≡ length r.clients.now
  pub clocks_len : length s.clocks.now ≡ length r.clocks.now
  pub most : s.most ≡ r.most
