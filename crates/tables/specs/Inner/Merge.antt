-- What the private functions of the union say of rows of any kind. The last row put out ends at l.
use Rattle.std.specs.Prelude.{◌≡◌, ℕ, ◌+◌, ◌-◌, ◌≤◌, ◌<◌, max}
use Rattle.tables.specs.Inner.Rows.{Row}
use Rattle.tables.specs.Inner.Unite.{Last, Adds, United}

-- x where p is not past q, else y
pub record Picked {A : Type 0} (p q : ℕ) (x y r : A) : Type 0 where
  pub on : p ≤ q → r ≡ x
  pub off : q < p → r ≡ y

-- of row i of the one table and row j of the other, which start at p and q, the one that starts first is x .. y, and is taken
pub record First (ra rb : ℕ → Row) (i j p q x y i' j' : ℕ) : Type 0 where
  pub start : Picked p q p q x
  pub end : Picked p q (ra i).end (rb j).end y
  pub one : Picked p q (i + 1) i i'
  pub two : Picked p q j (j + 1) j'

-- the last of k rows ends at l, in the line of its start
pub record Tied (line : ℕ → ℕ) (room : ℕ) (row : ℕ → Row) (k l : ℕ) : Type 0 where
  pub last : Last room row k (l + 1)
  pub lined : k ≤ room → line (row (k - 1)).start ≡ line l

-- the row x, .., y - 1 joined to k rows
pub record Added (line : ℕ → ℕ) (room : ℕ) (row : ℕ → Row) (k e x y : ℕ) (row' : ℕ → Row) (r : ℕ) : Type 0 where
  pub adds : Adds room row k e x y row' r
  pub lined : r ≤ room → line (row' (r - 1)).start ≡ line (max (e - 1) y)

-- i rows of the one table and j of the other are taken, and the k rows put out are their union
pub record Far (line : ℕ → ℕ) (top : ℕ) (ra : ℕ → Row) (n i : ℕ) (rb : ℕ → Row) (m j room : ℕ) (row : ℕ → Row) (k l : ℕ) : Type 0 where
  pub united : United (top + 1) ra n i rb m j room row k (l + 1)
  pub lined : k ≤ room → line (row (k - 1)).start ≡ line l

-- and rows of both are left, which start at p and q
pub record Going (line : ℕ → ℕ) (top : ℕ) (ra : ℕ → Row) (n i : ℕ) (rb : ℕ → Row) (m j room : ℕ) (row : ℕ → Row) (k l p q : ℕ) : Type 0 where
  pub far : Far line top ra n i rb m j room row k l
  pub left : i < n
  pub right : j < m
  pub one : p ≡ (ra i).start
  pub two : q ≡ (rb j).start
