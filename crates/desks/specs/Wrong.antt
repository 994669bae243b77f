-- Wrong desks that the demand on desks excludes, each by the clause of `excluded` that names it.
use Rattle.std.specs.Prelude.{Result, ◌≡◌, Bool, true, false, List, [], ◌∷◌, ℕ, eqb, Ok, Err}
use Rattle.varint.specs.declared.Refusal.{Refusal}
use Rattle.varint.specs.declared.Refusal.TheVariants.{Full}
use Rattle.ids.specs.Tables.{Slices, Held, Inserted, Captured, Merged, filled}
use Rattle.desks.specs.Runs.{Place, choose, Event, insert, capture, merge, Routines, Step}
use Rattle.desks.specs.Demand.{Right}

-- the insert and the capture are right, and the merge is M
abbrev pub with_merge : (Held → Held → Slices → Slices → Result ℕ Refusal → Type 0) → Routines
with_merge M = record { inserted = Inserted; captured = Captured; merged = M }

-- "a merge that hands back its left table"
abbrev pub left_back : Routines
left_back = with_merge (λ a b. Captured a)

-- "a desk that merges the first message and only acknowledges later ones": a later message is answered as accepted, and the table stays as it was.
abbrev pub first_only : Bool → Held → Held → Slices → Slices → Result ℕ Refusal → Type 0
first_only true a b = Merged a b
first_only false a b = Captured a

-- A promise sees tables and no history, so the first message is here that of a desk that has no row yet.
abbrev pub acknowledging : Routines
acknowledging = with_merge (λ a b. first_only (eqb a.count 0) a b)

-- A desk that counts its messages knows its history, which is the log: whether desk d has accepted no message in it, and whether the next step is the first
-- message of its desk.
abbrev pub unmerged : ℕ → List Event → Bool
unmerged d [] = true
unmerged d (insert e r a ∷ log) = unmerged d log
unmerged d (capture e m a ∷ log) = unmerged d log
unmerged d (merge e m (Ok n) ∷ log) = choose (eqb e d) false (unmerged d log)
unmerged d (merge e m (Err x) ∷ log) = unmerged d log

abbrev pub first : Event → List Event → Bool
first (insert d r a) log = true
first (capture d m a) log = true
first (merge d m a) log = unmerged d log

-- A run of such desks: as `Run`, and each step's merge goes by the log before it.
abbrev pub Counting : List Event → (Place → Held) → Type 0
Counting [] w = (p : Place) → (w p).count ≡ 0
Counting (e ∷ log) v = (w : Place → Held) × Counting log w × Step (with_merge (first_only (first e log))) w e v

-- "a merge that always says FULL": each desk holds what was accepted there, so it is `Answers` that excludes this one
abbrev pub refusing : Routines
refusing = with_merge (λ a b o out r. (r ≡ Err Full) × (out ≡ filled o []))

-- a merge that allows no answer: each desk holds what was accepted there, so it is `GoesOn` that excludes this one
abbrev pub silent : Routines
silent = with_merge (λ a b o out r. ⊥)

-- what the demand would be of the desks of such a run, where a single desk has the routines R
abbrev pub CountingRight : Routines → Type 0
CountingRight R = (log : List Event) (w : Place → Held) → Counting log w → (d : ℕ) → Right R log w d
