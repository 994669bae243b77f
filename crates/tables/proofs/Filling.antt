-- What a routine that can refuse no input answers and leaves: from the rows that stand in a room to the promise. Assumes nothing.
use Rattle.std.specs.Prelude.{Result, Ok, Err}
use Rattle.varint.specs.declared.Refusal.{Refusal}
use Rattle.varint.specs.declared.Refusal.TheVariants.{Full}
use mathlib.Core.Path.{◌≡◌, refl, ap, sym, subst, ◌∙◌}
use Prim.Native.Nat.{ℕ, ◌≤◌, ◌<◌}
use native.Mathlib.Omega.{arith}
use lib.ListN.{length}
use Rattle.tables.specs.Answers.{answer, done, full, Lays}
use Rattle.tables.specs.Inner.Rows.{Row, Rows, span}
use Rattle.tables.specs.Inner.Sweep.{Holds}
use Rattle.tables.proofs.Spanning.{length-span}

module _ {O : Type 0} {room k : ℕ} {row : ℕ → Row} {rs : Rows} {fill : Rows → O} {out : O} (h : Holds room row k rs) where
  -- no room for the rows
  pub lays_over : room < k → out ≡ fill (span row 0 0) → Lays rs room fill out (Err Full)
  unfolding span
  lays_over l e = full rs tt refl (h.over l) refl e

  -- the rows in front
  pub lays_within : k ≤ room → out ≡ fill (span row 0 k) → Lays rs room fill out (Ok k)
  lays_within l e =
      let n : k ≡ length rs = sym (length-span row 0 k) ∙ ap length (h.kept l) in
      done rs tt refl (omega (arith, n)) (ap (λ (x : ℕ). answer 0 x) n) (e ∙ ap fill (h.kept l))

-- with the room known by another name
pub lays_in : {S O : Type 0} (most : S → ℕ) (fill : S → Rows → O) {s s' : S} {rs : Rows} {out : O} (r : Result ℕ Refusal) → s ≡ s' → Lays rs (most s) (fill s) out r → Lays rs (most s') (fill s') out r
lays_in most fill {s} {s'} {rs} {out} r e h = subst (λ (v : _). Lays rs (most v) (fill v) out r) e h
