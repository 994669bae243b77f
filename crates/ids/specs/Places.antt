-- Ids as places on a line, and id tables index by index: what the view of a table and its proofs go by. The id (client, clock) stands at
-- client * 2^32 + clock, so an id table is a table of joined rows: clock 2^32 - 1 is in no row, so the rows of two clients never touch.
use Rattle.std.specs.Prelude.{◌≡◌, Bool, true, List, ℕ, ◌+◌, ◌*◌, ◌≤◌, ◌<◌, get_or}
use Rattle.tables.specs.Answers.{Says}
use Rattle.tables.specs.Inner.Rows as inner
use Rattle.ids.specs.Tables.{three, held, most, Table}

-- the place of an id
abbrev pub number_of : ℕ → ℕ → ℕ
number_of client clock = client * 4294967296 + clock

-- row i of three slices, by places
abbrev pub id_row : List ℕ → List ℕ → List ℕ → ℕ → inner.Row
id_row cs ss es i =
    record { start = number_of (get_or cs i 0) (get_or ss i 0); end = number_of (get_or cs i 0) (get_or es i 0); weight = 1 }

abbrev pub id_rows : List ℕ → List ℕ → List ℕ → ℕ → inner.Rows
id_rows cs ss es n = inner.span (id_row cs ss es) 0 n

-- no row is empty
abbrev pub NoneEmpty : List ℕ → List ℕ → ℕ → Type 0
NoneEmpty ss es j = get_or ss j 0 < get_or es j 0

-- row j + 1 starts past the end of row j
abbrev pub Apart : List ℕ → List ℕ → List ℕ → ℕ → Type 0
Apart cs ss es j = number_of (get_or cs j 0) (get_or es j 0) < number_of (get_or cs (j + 1) 0) (get_or ss (j + 1) 0)

-- an id table, index by index
pub record IdTable (cs ss es : List ℕ) (n : ℕ) : Type 0 where
  pub few : n ≤ most (three cs ss es)
  pub filled : (j : ℕ) → j < n → NoneEmpty ss es j
  pub apart : (j : ℕ) → j + 1 < n → Apart cs ss es j

-- what the types of the three slices say: clients are u64, clocks u32
pub record Typed (cs ss es : List ℕ) : Type 0 where
  pub clients : (j : ℕ) → get_or cs j 0 < 18446744073709551616
  pub starts : (j : ℕ) → get_or ss j 0 < 4294967296
  pub ends : (j : ℕ) → get_or es j 0 < 4294967296

-- whether the slices hold a table
pub record Checked (cs ss es : List ℕ) (n : ℕ) (r : Bool) : Type 0 where
  pub says : Says (Table (held cs ss es n)) r
  pub table : r ≡ true → IdTable cs ss es n

abbrev pub marks : List ℕ → List ℕ → ℕ → ℕ
marks cs ks k = number_of (get_or cs k 0) (get_or ks k 0)
