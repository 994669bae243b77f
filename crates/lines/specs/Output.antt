-- What a replay leaves in its output, where the bytes of that are known.
use Rattle.std.specs.Prelude.{ℕ, Option, List}
use Rattle.std.specs.Io.KnownBytes.{Appends}

-- the bytes that stood there stay, and others stand behind them
unfoldable pub Grows : Option (List ℕ) → Option (List ℕ) → Type 0
Grows old new = (bytes : List ℕ) × Appends old new bytes
