-- An insert is a merge with a table of one row, and of an empty range a capture. Assumes nothing.
use Rattle.std.specs.Prelude.{Result}
use Rattle.varint.specs.declared.Refusal.{Refusal}
use mathlib.Core.Path.{sym, subst}
use mathlib.Core.Logic.{◌⊎◌, inl, inr, ⊎_elim}
use mathlib.Core.List.{List, [], ◌∷◌}
use Prim.Native.Nat.{ℕ, ◌≤◌, ◌<◌}
use native.Mathlib.Omega.{arith}
use lib.Dec.{lit≤}
use Rattle.tables.specs.Answers.{Answer, Gives, done, full, malformed}
use Rattle.ids.specs.Rows.{Row, Within, Holds, TableOf}
use Rattle.ids.specs.Tables.{Slices, Held, Table, held, rows, Merged, Captured, Inserted}

-- the same answer to another question
gives_as : {T O : Type 0} {ok ok' : Type 0} {right right' : List T → Type 0} {most : ℕ} {fill : List T → O} {out : O} {a : Answer ℕ}
    → (ok → ok') → (ok' → ok) → ((t : List T) → ok → right t → right' t) → Gives ok right most fill out a → Gives ok' right' most fill out a
gives_as to from same (done t p r l e f) = done t (to p) (same t p r) l e f
gives_as to from same (full t p r l e f) = full t (to p) (same t p r) l e f
gives_as to from same (malformed n e f) = malformed (λ p. n (from p)) e f

abbrev pub single : Row → Held
single r = held (r.client ∷ []) (r.start ∷ []) (r.end ∷ []) 1

single_table : (r : Row) → r.start < r.end → Table (single r)
single_table r l = record { few = lit≤ tt; joined = (l, tt, tt) }

module _ (a : Held) (r : Row) (o out : Slices) (x : Result ℕ Refusal) where
  pub merged_inserted : r.start < r.end → Merged a (single r) o out x → Inserted a r o out x
  merged_inserted l g =
      gives_as (λ p. p.0) (λ p. (p, single_table r l))
      (λ t p q. (
        q.0,
        λ c k. (
          (λ h. ⊎_elim (λ y. inl y) (λ y. ⊎_elim (λ z. inr z) (λ z. absurd z) y) ((q.1 c k).0 h)),
          (λ h. (q.1 c k).1 (⊎_elim (λ y. inl y) (λ y. inr (inl y)) h)),
        ),
      )) g

  pub captured_inserted : r.end ≤ r.start → Captured a o out x → Inserted a r o out x
  captured_inserted l g =
      gives_as (λ p. p) (λ p. p)
      (λ t p q. subst (λ (u : List Row). TableOf (λ c k. Holds (rows a) c k ⊎ Within r c k) u) (sym q)
      (p.joined, λ c k. ((λ h. inl h), ⊎_elim (λ h. h) (λ h. let z : ⊥ = omega arith in absurd z)))) g
