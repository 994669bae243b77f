-- Convergence follows from `Demand`, of any routines: there is one table of exactly some ids.
use Rattle.std.specs.Prelude.{Result}
use mathlib.Core.Logic.{inl, inr, ⊎_elim}
use mathlib.Core.Path.{◌≡◌, ap, sym, ◌∙◌}
use mathlib.Core.List.{List, [], map}
use Prim.Native.Nat.{ℕ}
use native.Mathlib.Omega.{arith}
use lib.ListN.{length}
use Rattle.varint.specs.declared.Refusal.{Refusal}
use Rattle.tables.specs.Answers.{padded, done, full, malformed}
use Rattle.ids.specs.Rows.{Row, Holds, TableOf, union}
use Rattle.ids.specs.Tables.{Slices, Held, Table, rows, filled, Merged}
use Rattle.ids.proofs.Determined.{writes_one}
use Rattle.desks.specs.Steps.{SameRoom}
use Rattle.ids.proofs.Numbering.{fit, length-rows}
use Rattle.desks.specs.Runs.{desk, reached, Routines}
use Rattle.desks.specs.Demand.{Demand, Alike, Converge}

-- a well formed table has as many rows as it counts
pub counted : (h : Held) → Table h → length (rows h) ≡ h.count
counted h t = length-rows h.count _ _ _ (fit h.count h.slices.clients h.slices.starts h.slices.ends (omega (arith, t.few)))

same_rows : (a b : Held) → Table a → Table b → rows a ≡ rows b → Alike a b
same_rows a b s t e = (e, omega (arith, counted a s, counted b t, ap length e))

pub converge : {R : Routines} → Demand R → Converge R
converge demand log log' w w' run run' d e same =
    let one = demand log w run d in
    let other = demand log' w' run' e in
    let a : Held = w (desk d) in
    let b : Held = w' (desk e) in
    let holds : TableOf (Holds (reached log' (desk e))) (rows a) = (one.table.joined, λ c k. (λ x. (same c k).0 ((one.ids c k).0 x), λ x. (one.ids c k).1 ((same c k).1 x))) in
    same_rows a b one.table other.table (other.one (rows a) holds)

-- ## Two desks that send each other what they hold

filled_same : (o p : Slices) → SameRoom o p → (t : List Row) → filled p t ≡ filled o t
filled_same o p s t = λ i. record {
  clients = padded (sym s.clients i) (map (λ (r : Row). r.client) t);
  starts = padded (sym s.starts i) (map (λ (r : Row). r.start) t);
  ends = padded (sym s.ends i) (map (λ (r : Row). r.end) t);
}

turned : (a b : List Row) (t : List Row) → TableOf (union b a) t → TableOf (union a b) t
turned a b t h = (h.0, λ c k. (λ x. ⊎_elim (λ y. inr y) (λ y. inl y) ((h.1 c k).0 x), λ x. (h.1 c k).1 (⊎_elim (λ y. inr y) (λ y. inl y) x)))

-- a merge of the two, whichever was the desk's, into slices of the same lengths
other_way : (a b : Held) (o p out : Slices) (r : Result ℕ Refusal) → SameRoom o p → Merged b a p out r → Merged a b o out r
other_way a b o p out r s (done t k h l e f) = done t (k.1, k.0) (turned (rows a) (rows b) t h) (omega (arith, l, s.clients, s.starts, s.ends)) e (f ∙ filled_same o p s t)
other_way a b o p out r s (full t k h l e f) = full t (k.1, k.0) (turned (rows a) (rows b) t h) (omega (arith, l, s.clients, s.starts, s.ends)) e (f ∙ filled_same o p s [])
other_way a b o p out r s (malformed n e f) = malformed (λ k. n (k.1, k.0)) e (f ∙ filled_same o p s [])

pub either_way : (a b : Held) (o p out out' : Slices) (r r' : Result ℕ Refusal) → SameRoom o p → Merged a b o out r → Merged b a p out' r' → (r ≡ r') × (out ≡ out')
either_way a b o p out out' r r' s m n = writes_one o m (other_way a b o p out' r' s n)
