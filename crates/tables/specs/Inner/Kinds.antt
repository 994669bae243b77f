-- What the traits of rows say, whatever the kind: how rows are read and stored.
use Rattle.std.specs.Prelude.{◌≡◌, ℕ, ◌≤◌, ◌<◌}
use Rattle.tables.specs.Limits.{row_limit}
use Rattle.tables.specs.Inner.Rows.{Row}
use Rattle.tables.specs.Inner.Edit.{Plain}

-- n rows that keep the rules of a table, each in one line, before top
pub record Ruled (line : ℕ → ℕ) (top : ℕ) (row : ℕ → Row) (n : ℕ) : Type 0 where
  pub few : n ≤ row_limit
  pub plain : Plain row n
  pub lined : (i : ℕ) → i < n → line (row i).start ≡ line (row i).end
  pub within : (i : ℕ) → i < n → (row i).end ≤ top

-- a start stored at row k, while there is room; every other row stays
pub record Opens (room : ℕ) (row : ℕ → Row) (k x : ℕ) (row' : ℕ → Row) : Type 0 where
  pub other : (z : ℕ) → (z ≡ k → ⊥) → row z ≡ row' z
  pub here : k < room → (row' k).start ≡ x

-- an end stored at row k, in the line of the row's start
pub record Closes (line : ℕ → ℕ) (room : ℕ) (row : ℕ → Row) (k y : ℕ) (row' : ℕ → Row) : Type 0 where
  pub other : (z : ℕ) → (z ≡ k → ⊥) → row z ≡ row' z
  pub here : k < room → line (row k).start ≡ line y → row' k ≡ record { start = (row k).start; end = y; weight = 1 }
