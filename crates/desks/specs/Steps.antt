-- The tables that a step reads and the slices that it writes, as the contracts of src/ see them.
use Rattle.std.specs.Prelude.{◌≡◌, length}
use Rattle.ids.specs.Tables.{Slices, Held, three, held}
use Rattle.desks.specs.declared.Stored.{Stored}
use Rattle.desks.specs.declared.Spare.{Spare}

abbrev pub table : Stored → Held
table t = held t.clients.now t.starts.now t.ends.now t.count

-- what stands in a spare
abbrev pub lent : Spare → Slices
lent o = three o.clients.now o.starts.now o.ends.now

-- a spare is of the slices that it was of, whatever stands in them
pub record SameSlices (o o' : Spare) : Type 0 where
  pub clients : o'.clients.ghost_name ≡ o.clients.ghost_name
  pub starts : o'.starts.ghost_name ≡ o.starts.ghost_name
  pub ends : o'.ends.ghost_name ≡ o.ends.ghost_name

-- slices of the same lengths
pub record SameRoom (o p : Slices) : Type 0 where
  pub clients : length o.clients ≡ length p.clients
  pub starts : length o.starts ≡ length p.starts
  pub ends : length o.ends ≡ length p.ends
