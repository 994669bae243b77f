-- A room that is written to stays the room that it was. Assumes nothing.
use mathlib.Core.Path.{◌≡◌, refl, ap, ◌∙◌}
use Prim.Native.Nat.{ℕ}
use mathlib.Core.List.{List}
use lib.ListN.{get_or}
use native.Mathlib.Omega.{arith}
use Rattle.ids.specs.declared.room.IdRoom.{IdRoom}
use Rattle.ids.specs.Tables.{most}
use Rattle.ids.specs.Room.{lent, Same}
use Rattle.ids.specs.Lines.{shape_of}

pub same_none : (o : IdRoom) → Same o o
same_none o = record { clients = refl; starts = refl; ends = refl; clients_long = refl; starts_long = refl; ends_long = refl }

pub same_more : {o o' o'' : IdRoom} → Same o o' → Same o' o'' → Same o o''
same_more a b =
    record {
      clients = b.clients ∙ a.clients;
      starts = b.starts ∙ a.starts;
      ends = b.ends ∙ a.ends;
      clients_long = b.clients_long ∙ a.clients_long;
      starts_long = b.starts_long ∙ a.starts_long;
      ends_long = b.ends_long ∙ a.ends_long;
    }

-- as many rows fit
pub same_most : {o o' : IdRoom} → Same o o' → most (lent o') ≡ most (lent o)
same_most s = omega (arith, s.clients_long, s.starts_long, s.ends_long)

-- as the loops over rows of any kind say it
pub same_shape : {o o' : IdRoom} → shape_of o' ≡ shape_of o → Same o o'
same_shape e =
    record {
      clients = ap (λ (l : List ℕ). get_or l 3 0) e;
      starts = ap (λ (l : List ℕ). get_or l 4 0) e;
      ends = ap (λ (l : List ℕ). get_or l 5 0) e;
      clients_long = ap (λ (l : List ℕ). get_or l 0 0) e;
      starts_long = ap (λ (l : List ℕ). get_or l 1 0) e;
      ends_long = ap (λ (l : List ℕ). get_or l 2 0) e;
    }
