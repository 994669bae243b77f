-- What a routine lays into the slices that it is lent, and what it answers.
use Rattle.std.specs.Prelude.{◌≡◌, Result, Ok, Err, ◌++◌, map, ℕ, ◌-◌, cond, leb, length, take, replicate}
use Rattle.varint.specs.declared.Refusal.{Refusal}
use Rattle.varint.specs.declared.Refusal.TheVariants.{Full}
use Rattle.tables.specs.Answers.{Lays}
use Rattle.tables.specs.Inner.Rows as inner
use Rattle.tables.specs.Inner.Sweep.{Holds}
use Rattle.ids.specs.declared.room.IdRoom.{IdRoom}
use Rattle.ids.specs.Tables.{Slices, three, most, filled}
use Rattle.ids.specs.Places.{id_row}
use Rattle.ids.specs.Lines.{gather, columns}

-- what stands in a room
abbrev pub lent : IdRoom → Slices
lent o = three o.clients.now o.starts.now o.ends.now

-- a room is the one that it was, whatever stands in it
pub record Same (o o' : IdRoom) : Type 0 where
  pub clients : o'.clients.ghost_name ≡ o.clients.ghost_name
  pub starts : o'.starts.ghost_name ≡ o.starts.ghost_name
  pub ends : o'.ends.ghost_name ≡ o.ends.ghost_name
  pub clients_long : length o'.clients.now ≡ length o.clients.now
  pub starts_long : length o'.starts.now ≡ length o.starts.now
  pub ends_long : length o'.ends.now ≡ length o.ends.now

-- row i of what stands there, by places
abbrev pub lent_row : Slices → ℕ → inner.Row
lent_row o = id_row o.clients o.starts o.ends

-- the answer of a routine that found k rows, where there is room for `room`
abbrev pub fitted : ℕ → ℕ → Result ℕ Refusal
fitted room k = cond (leb k room) (Ok k) (Err Full)

-- the first k rows, and zeros behind them
abbrev pub kept : Slices → ℕ → Slices
kept o k = three (take k o.clients ++ replicate (length o.clients - k) 0) (take k o.starts ++ replicate (length o.starts - k) 0) (take k o.ends ++ replicate (length o.ends - k) 0)

-- a routine's two tables: the first refusal counts
abbrev pub both : {A B : Type 0} → Result A Refusal → Result B Refusal → Result (A × B) Refusal
both (Ok a) (Ok b) = Ok (a, b)
both (Ok a) (Err e) = Err e
both (Err e) b = Err e

-- what a routine has made of its tables when it answers r: in front of the room stand the first rows of the result, as many as it has, or there is no
-- room for them; or the tables were refused
pub data Made {A : Type 0} (result : A → inner.Rows) (a : Result A Refusal) (o : Slices) (r : Result ℕ Refusal) : Type 0 where
  made : (t : A) (k : ℕ) → a ≡ Ok t → Holds (most o) (lent_row o) k (result t) → r ≡ fitted (most o) k → Made result a o r
  refused : (e : Refusal) → a ≡ Err e → r ≡ Err e → Made result a o r

-- what a routine that lays its result has made of its tables in the slices o when it answers r: the result stands in out, or there is no room for it; or the
-- tables were refused, and out is zero
pub data Laid {A : Type 0} (result : A → inner.Rows) (a : Result A Refusal) (o out : Slices) (r : Result ℕ Refusal) : Type 0 where
  laid : (t : A) → a ≡ Ok t → Lays (result t) (most o) (λ rs. columns (filled o (map gather rs))) (columns out) r → Laid result a o out r
  denied : (e : Refusal) → a ≡ Err e → r ≡ Err e → out ≡ kept o 0 → Laid result a o out r
