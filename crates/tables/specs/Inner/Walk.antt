-- What the private functions of two walks say of rows of any kind.
use Rattle.std.specs.Prelude.{ℕ, ◌+◌, ◌*◌, ◌≤◌}
use Rattle.tables.specs.Limits.{row_limit}
use Rattle.tables.specs.Inner.Rows.{Row}
use Rattle.tables.specs.Inner.Ends.{Turns, Places}
use Rattle.tables.specs.declared.walking.Low.{Low}
use Rattle.tables.specs.declared.walking.High.{High}

-- where two walks stand that lay rows
abbrev pub places : (ℕ → Row) → Low → High → Places
places row w z = record { laid = row; i = w.i; j = w.j; k = w.k; u = z.u; v = z.v; t = z.t }

-- c turns of two walks fit in tables of n and m rows, and in room for most
pub record Fit (n m most c : ℕ) (w : Low) (z : High) : Type 0 where
  pub turns : Turns c w.i w.j w.k z.u z.v z.t
  pub left : (z.u ≤ n) × (z.u ≤ row_limit)
  pub right : (z.v ≤ m) × (z.v ≤ row_limit + 1)
  pub room : (z.t ≤ most) × (w.k + c ≤ 2 * row_limit)

-- the gaps between two rows, from that behind row lo on
abbrev pub between_rows : (ℕ → Row) → ℕ → ℕ → Row
between_rows row lo j = record { start = (row (lo + j)).end; end = (row (lo + j + 1)).start; weight = 1 }
