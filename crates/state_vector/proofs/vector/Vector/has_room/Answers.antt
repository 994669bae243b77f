-- Where the most that a vector takes fits, this one does; else its bytes are counted.
use native.Mathlib.Omega.{arith}
use Rattle.tables.proofs.Saying.{says_yes}
use Rattle.state_vector.proofs.Spanning.{vector_table}
use Rattle.state_vector.proofs.Encoding.{encoded_most}
use Rattle.state_vector.proofs.vector.Vector.has_room.Goals as goal

pub returns-then-len-at-ge-MOST_BYTES : goal.returns-then-len-at-ge-MOST_BYTES
returns-then-len-at-ge-MOST_BYTES c =
    says_yes (omega (arith, encoded_most (vector_table c.args.self) c.args.self.typed))
