-- A table that was checked, as contracts see it.
use Rattle.std.specs.Prelude.{[], ◌∷◌, ℕ, cond, ltb, get_or}
use Rattle.tables.specs.Inner.Rows as inner
use Rattle.ids.specs.declared.place.Id.{Id}
use Rattle.ids.specs.declared.view.Ids.{Ids}
use Rattle.ids.specs.Tables.{Held, held}
use Rattle.ids.specs.Places.{id_row, id_rows}

-- the table as it lies in memory
abbrev pub shown : Ids → Held
shown t = held t.clients.now t.starts.now t.ends.now t.count

-- its row i, by places
abbrev pub placed : Ids → ℕ → inner.Row
placed t = id_row t.clients.now t.starts.now t.ends.now

-- its rows, by places
abbrev pub rows_in : Ids → inner.Rows
rows_in t = id_rows t.clients.now t.starts.now t.ends.now t.count

-- where its row i starts
abbrev pub start_at : Ids → ℕ → Id
start_at t i = record { client = record { 0 = get_or t.clients.now i 0 }; clock = record { 0 = get_or t.starts.now i 0 } }

-- the id behind its last one
abbrev pub end_at : Ids → ℕ → Id
end_at t i = record { client = record { 0 = get_or t.clients.now i 0 }; clock = record { 0 = get_or t.ends.now i 0 } }

-- its rows with one range more, which has no id where s is not below e
abbrev pub with_range : ℕ → ℕ → ℕ → Ids → inner.Rows
with_range c s e t = cond (ltb s e) (inner.combined inner.union (rows_in t) (id_rows (c ∷ []) (s ∷ []) (e ∷ []) 1)) (rows_in t)

-- the rows of two tables combined
abbrev pub combined_rows : (ℕ → ℕ → ℕ) → Ids × Ids → inner.Rows
combined_rows f p = inner.combined f (rows_in p.0) (rows_in p.1)
