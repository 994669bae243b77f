-- Id tables keep the rules of tables of any kind. Assumes nothing.
use mathlib.Core.Path.{◌≡◌, refl, ap, ap₂, sym, subst, ◌∙◌}
use mathlib.Core.List.{List}
use Prim.Native.Nat.{ℕ, ◌+◌, ◌-◌, ◌<◌}
use native.Mathlib.Omega.{arith}
use lib.ListN.{length, get_or, set}
use lib.Seq.{get_or-set_same, get_or-set_other}
use Rattle.tables.specs.Inner.Edit.{Plain}
use Rattle.tables.specs.Inner.Kinds.{Ruled, Closes}
use Rattle.tables.proofs.Joining.{row_is}
use Rattle.ids.specs.Places.{number_of, id_row, Typed, IdTable}
use Rattle.ids.specs.Lines.{client_of, final}

same_client : (c s e : ℕ) → s < 4294967296 → e < 4294967296 → client_of (number_of c s) ≡ client_of (number_of c e)
same_client c s e h g = omega arith

one_client : (c s d e : ℕ) → s < 4294967296 → e < 4294967296 → client_of (number_of c s) ≡ client_of (number_of d e) → c ≡ d
one_client c s d e h g l = omega arith

module _ {cs ss es : List ℕ} {n : ℕ} (f : Typed cs ss es) (t : IdTable cs ss es n) where
  pub ids_plain : Plain (id_row cs ss es) n
  ids_plain =
      record {
        unit = λ _. refl;
        ruled = λ j h. record {
          filled = omega (arith, t.filled j h);
          apart = λ l. subst (λ (v : ℕ). (id_row cs ss es (j - 1)).end < (id_row cs ss es v).start) (let z : j - 1 + 1 ≡ j = omega arith in z) (t.apart (j - 1) (omega arith));
        };
      }

  pub ids_ruled : Ruled client_of final (id_row cs ss es) n
  ids_ruled =
      record {
        few = omega (arith, t.few);
        plain = ids_plain;
        lined = λ i h. same_client (get_or cs i 0) (get_or ss i 0) (get_or es i 0) (f.starts i) (f.ends i);
        within = λ i h. omega (arith, f.clients i, f.ends i);
      }

-- an end stored at row k
pub end_closes : (cs ss es : List ℕ) (room k c x y z : ℕ) → x ≡ get_or ss k 0 → x < 4294967296 → z ≡ y → z < 4294967296 → k < length es
    → Closes client_of room (id_row cs ss es) k (number_of c y) (id_row cs ss (set es k z))
end_closes cs ss es room k c x y z e f g h l =
    record {
      other = λ j o. row_is refl (ap (number_of (get_or cs j 0)) (sym (get_or-set_other es k j z 0 o))) refl;
      here = λ _ m. row_is refl (ap₂ number_of (one_client (get_or cs k 0) (get_or ss k 0) c y (omega arith) (omega arith) m) (get_or-set_same es k z 0 l ∙ g)) refl;
    }
