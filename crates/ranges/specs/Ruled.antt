-- Rows by their index in a slice, and a table row by row: what a checked table keeps. A reader of the promises may skip it.
use Rattle.std.specs.Prelude.{List, ℕ, ◌+◌, ◌*◌, ◌/◌, ◌≤◌, ◌<◌, length, get_or}
use Rattle.tables.specs.Limits.{row_limit}
use Rattle.tables.specs.Inner.Rows as inner
use Rattle.tables.specs.Inner.Rows.{span, Follows}

-- row i of a slice, as a row of weight 1
abbrev pub row_at : List ℕ → ℕ → inner.Row
row_at l i = record { start = get_or l (2 * i) 0; end = get_or l (2 * i + 1) 0; weight = 1 }

-- the first n rows
abbrev pub rows_of : List ℕ → ℕ → inner.Rows
rows_of l n = span (row_at l) 0 n

-- well formed, row by row
pub record Ruled (l : List ℕ) (n : ℕ) : Type 0 where
  pub few : n ≤ row_limit
  pub fits : n ≤ length l / 2
  pub ruled : (i : ℕ) → i < n → Follows (row_at l) i
