-- Id tables as the loops over rows of any kind see them: ids are places, a client is a line.
use Rattle.std.specs.Prelude.{List, [], ◌∷◌, map, ℕ, ◌/◌, ◌%◌, min, length, get_or}
use Rattle.tables.specs.Limits.{row_limit}
use Rattle.tables.specs.Answers.{padded}
use Rattle.tables.specs.Inner.Rows as inner
use Rattle.ids.specs.declared.room.IdRoom.{IdRoom}
use Rattle.ids.specs.Rows.{Row, row}
use Rattle.ids.specs.Tables.{Slices}
use Rattle.ids.specs.Places.{number_of}

-- the client of the id at a place
abbrev pub client_of : ℕ → ℕ
client_of n = n / 4294967296

-- the last place that an id can have
abbrev pub final : ℕ
final = number_of 18446744073709551615 4294967295

-- how long the slices of a room are, and which ones they are
abbrev pub shape_of : IdRoom → List ℕ
shape_of o =
    length o.clients.now ∷ length o.starts.now ∷ length o.ends.now ∷ o.clients.ghost_name ∷ o.starts.ghost_name ∷ o.ends.ghost_name ∷ []

-- how many rows slices of these lengths hold, within the limit
abbrev pub most_of : List ℕ → ℕ
most_of l = min row_limit (min (get_or l 0 0) (min (get_or l 1 0) (get_or l 2 0)))

-- the row of a client that stands at these places
abbrev pub gather : inner.Row → Row
gather r = row (r.start / 4294967296) (r.start % 4294967296) (r.end % 4294967296)

-- three slices as a list of them
abbrev pub columns : Slices → List (List ℕ)
columns o = o.clients ∷ o.starts ∷ o.ends ∷ []

-- what stands in a room
abbrev pub cells_of : IdRoom → List (List ℕ)
cells_of o = o.clients.now ∷ o.starts.now ∷ o.ends.now ∷ []

-- slices of these lengths with rows in front, given by their places, and zeros behind them
abbrev pub fill_of : List ℕ → inner.Rows → List (List ℕ)
fill_of l rs =
    let t = map gather rs in
    padded (get_or l 0 0) (map (λ (r : Row). r.client) t) ∷ padded (get_or l 1 0) (map (λ (r : Row). r.start) t) ∷ padded (get_or l 2 0) (map (λ (r : Row). r.end) t) ∷ []
