-- There is no room for the bytes; or they are put.
use Rattle.state_vector.proofs.Encoding.{full_there}
use Rattle.tables.proofs.Saying.{says_taken}
use Rattle.state_vector.proofs.vector.Vector.encode.Goals as goal

pub returns-then-not-has_room : goal.returns-then-not-has_room
returns-then-not-has_room c = full_there _ _ _ (says_taken c.has_room.ensures c.if-not-has_room.true)
