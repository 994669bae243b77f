-- Two walks over a table and other rows, which are those of a table or its gaps: what holds at every turn, and what a turn asks. Assumes nothing.
use mathlib.Core.Path.{◌≡◌, ap, sym, subst, subst₂}
use mathlib.Core.Bool.{Bool, true, false}
use Prim.Native.Nat.{ℕ, ◌+◌, ◌-◌, ◌≤◌, ◌<◌, max, min}
use native.Mathlib.Omega.{arith}
use Rattle.tables.specs.Answers.{Says}
use Rattle.tables.specs.Limits.{row_limit}
use Rattle.tables.specs.Inner.Rows.{Row, combined, difference, intersection, span}
use Rattle.tables.specs.Inner.Sweep.{Holds}
use Rattle.tables.specs.Inner.Edit.{Plain, Moved}
use Rattle.tables.specs.Inner.Unite.{Passed}
use Rattle.tables.specs.Inner.Cross.{Keeps}
use Rattle.tables.specs.Inner.Ends.{Stores, Dropped, Raised, Turns, Inside, Below, Above, Places, Swept, none, Halves, GapsFrom, GapsTo}
use Rattle.tables.specs.Inner.Kinds.{Ruled}
use Rattle.tables.specs.Inner.Walk.{Fit, between_rows}
use Rattle.tables.specs.declared.walking.Low.{Low}
use Rattle.tables.specs.declared.walking.High.{High}
use Rattle.tables.proofs.Meeting.{Read, Meeting, meeting_none, meeting_top, meeting_rest, meeting_halves, below_few, below_less, above_few, above_lower, turns_few}
use Rattle.tables.proofs.Uniting.{holds_other}
use Rattle.tables.proofs.Gaps.{gaps, gaps_plain, gaps_combined, gap_read}
use Rattle.tables.proofs.Turning.{Underway, underway_more, Alike, alike_all, Went, swept_went, swept_met}

-- ## Turns that are counted

pub underway_begun : {ra rb : ℕ → Row} {c : ℕ} {x : Places} → Underway ra rb c (c - 0) x x
underway_begun = record { made = 0; all = omega arith; swept = none }

pub underway_next : {ra rb mid : ℕ → Row} {c n p e q f p₂ e₂ q₂ f₂ : ℕ} {x y z : Places} → Underway ra rb c (c - n) x y → n < c → Read ra y.i p e → Read rb y.j q f
    → Below (y.k + 1) y.laid y.i y.j y.k p e q f mid z.i z.j z.k → Read ra (y.u - 1) p₂ e₂ → Read rb (y.v - 1) q₂ f₂
    → Above mid y.u y.v y.t p₂ e₂ q₂ f₂ z.laid z.u z.v z.t → Underway ra rb c (c - (n + 1)) x z
underway_next {ra} {rb} {c = c} {n} {x = x} {z = z} s h r₁ r₂ b r₃ r₄ a =
    subst (λ (d : ℕ). Underway ra rb c d x z) (let e : c - n - 1 ≡ c - (n + 1) = omega arith in e) (underway_more s (omega arith) r₁ r₂ b r₃ r₄ a)

pub fit_begun : {n m most c : ℕ} {w : Low} {z : High} → Fit n m most c w z → Fit n m most (c - 0) w z
fit_begun f =
    record {
      turns = record { left = omega (arith, f.turns.left); right = omega (arith, f.turns.right); room = omega (arith, f.turns.room) };
      left = f.left;
      right = f.right;
      room = (f.room.0, omega (arith, f.room.1));
    }

pub fit_next : {n m most most' c x room p e q h p₂ e₂ q₂ h₂ : ℕ} {row row' row₁ row₂ : ℕ → Row} {w w' : Low} {z z' : High} → Fit n m most (c - x) w z → x < c → most ≡ most'
    → Below room row w.i w.j w.k p e q h row' w'.i w'.j w'.k → Above row₁ z.u z.v z.t p₂ e₂ q₂ h₂ row₂ z'.u z'.v z'.t → Fit n m most' (c - (x + 1)) w' z'
fit_next f g l b d =
    let o = below_few b in
    let m = above_few d in
    record {
      turns = record { left = omega (arith, f.turns.left, o.0, m.1); right = omega (arith, f.turns.right, o.1, m.3); room = omega (arith, f.turns.room, o.2, m.4) };
      left = (omega (arith, m.0, f.left.0), omega (arith, m.0, f.left.1));
      right = (omega (arith, m.2, f.right.0), omega (arith, m.2, f.right.1));
      room = (omega (arith, above_lower d, f.room.0, l), omega (arith, o.2, f.room.1));
    }

-- none more need fit behind the last turn
pub went_all : {ra rb : ℕ → Row} {c : ℕ} {x y : Places} → Swept ra rb x c y → Turns c x.i x.j x.k x.u x.v x.t → Went c 0 x y
went_all p s = swept_went 0 p (turns_few (omega arith) s)

-- ## What was laid

module _ {line : ℕ → ℕ} {top : ℕ} {ra : ℕ → Row} {n : ℕ} {rb : ℕ → Row} {m most : ℕ} (va : Ruled line top ra n) (tb : Plain rb m) where
  pub met_none : {u v : ℕ} {row : ℕ → Row} → u ≡ n → v ≡ m → Meeting ra n 0 u rb m 0 v most row 0 most
  met_none {row = row} e f = subst₂ (λ (x y : ℕ). Meeting ra n 0 x rb m 0 y most row 0 most) (sym e) (sym f) (meeting_none ra n rb m most va.plain tb row)

  pub met_rest : {i i' u j j' v k k' t p e q f : ℕ} {row row' : ℕ → Row} {on : Bool} → Says ((i < u) × (j < v)) on → on ≡ true → Read ra i p e → Read rb j q f
      → Below t row i j k p e q f row' i' j' k' → Meeting ra n i u rb m j v most row k t → Meeting ra n i' u rb m j' v most row' k' t
  met_rest s g x y b w = meeting_rest ra n rb m most va.plain tb (s.right g) x y b w

  pub met_halves : {i u j v k t : ℕ} {row : ℕ → Row} {on : Bool} → Says ((i < u) × (j < v)) on → on ≡ false → Meeting ra n i u rb m j v most row k t
      → Halves most row k t (combined intersection (span ra 0 n) (span rb 0 m))
  met_halves s e w = meeting_halves ra n rb m most va.plain tb (s.wrong e) w

  -- over rows that are counted from d on
  pub met_swept : (d : ℕ) {read row row' : ℕ → Row} {c i j k u v t i' j₀ v₀ j₁ k' u' v₁ t' : ℕ}
      → Swept ra read (record { laid = row; i = i; j = j₀; k = k; u = u; v = v₀; t = t }) c (record { laid = row'; i = i'; j = j₁; k = k'; u = u'; v = v₁; t = t' })
      → Alike rb d read j₀ v₀ → Turns c i j₀ k u v₀ t → (j ≡ d + j₀) × (v ≡ d + v₀) → Meeting ra n i u rb m j v most row k t → Meeting ra n i' u' rb m (d + j₁) (d + v₁) most row' k' t'
  met_swept d {row = row} {i = i} {k = k} {u = u} {t = t} p same s e w =
      swept_met ra n rb m most va.plain tb d _ 0 p same (turns_few (omega arith) s)
      (subst₂ (λ (x y : ℕ). Meeting ra n i u rb m x y most row k t) e.0 e.1 w)

  pub met_swept_all : {row row' : ℕ → Row} {c i j k u v t i' j' k' u' v' t' : ℕ}
      → Swept ra rb (record { laid = row; i = i; j = j; k = k; u = u; v = v; t = t }) c (record { laid = row'; i = i'; j = j'; k = k'; u = u'; v = v'; t = t' })
      → Turns c i j k u v t → Meeting ra n i u rb m j v most row k t → Meeting ra n i' u' rb m j' v' most row' k' t'
  met_swept_all {row' = row'} {i' = i'} {j'} {k'} {u'} {v'} {t'} p s w =
      subst₂ (λ (x y : ℕ). Meeting ra n i' u' rb m x y most row' k' t') (let q : 0 + j' ≡ j' = omega arith in q) (let q : 0 + v' ≡ v' = omega arith in q)
      (met_swept 0 p (alike_all rb) s (omega arith, omega arith) w)

pub moved_in : {src row row' : ℕ → Row} {a b b' c : ℕ} → b ≡ b' → Moved src a b row c row' → Moved src a b' row c row'
moved_in {src} {row} {row'} {a} {c = c} e m = subst (λ (b : ℕ). Moved src a b row c row') e m

-- ## A step of the walk from above alone, or of the one from below

module _ {line : ℕ → ℕ} {top : ℕ} {ra : ℕ → Row} {n : ℕ} {rb : ℕ → Row} {m most : ℕ} (va : Ruled line top ra n) (tb : Plain rb m) where
  pub met_top : {i u u' j v v' k t t' p e q f : ℕ} {row row' : ℕ → Row} {last : Type 0} {on : Bool} → Says ((i < u) × (j < v) × (k < t) × last) on → on ≡ true → Read ra (u - 1) p e → Read rb (v - 1) q f
      → Above row u v t p e q f row' u' v' t' → Meeting ra n i u rb m j v most row k t → Meeting ra n i u' rb m j v' most row' k t'
  met_top s g x y b w = let h = s.right g in meeting_top ra n rb m most va.plain tb (h.0, h.1, h.2) x y b w

pub rest_less : {i j k u v room p e q f i' j' k' : ℕ} {on : Bool} {row row' : ℕ → Row} → Says ((i < u) × (j < v)) on → on ≡ true → Below room row i j k p e q f row' i' j' k'
    → (u + v) - (i' + j') < (u + v) - (i + j)
rest_less s g b = below_less (s.right g) b

-- ## The gaps of a table

-- turns over the gaps between two rows, the first of which is gap 1
module _ {m lo c i j k u v t : ℕ} (s : Inside m lo c i j k u v t) where
  pub inside_first : (j ≡ 1 + (j - 1)) × (v ≡ 1 + (v - 1))
  inside_first = (omega (arith, s.behind), omega (arith, s.behind, s.turns.right))

  pub inside_turns : Turns c i (j - 1) k u (v - 1) t
  inside_turns = record { left = s.turns.left; right = omega (arith, s.behind, s.turns.right); room = s.turns.room }

  pub inside_less : {laid : ℕ → Row} {y : Places} → Went c 0 (record { laid = laid; i = i; j = j - 1; k = k; u = u; v = v - 1; t = t }) y
      → (y.u + (1 + y.v)) - (y.i + (1 + y.j)) ≤ (u + v) - (i + j)
  inside_less {y = y} g =
      let l : (y.u + (1 + y.v)) - (y.i + (1 + y.j)) ≡ (y.u + y.v) - (y.i + y.j) = omega arith in
      let r : (u + (v - 1)) - (i + (j - 1)) ≡ (u + v) - (i + j) = omega (arith, s.behind, s.turns.right) in
      omega (arith, l, r, g.less)

  pub inside_alike : (top : ℕ) (rb : ℕ → Row) → Alike (gaps top rb m lo) 1 (between_rows rb lo) (j - 1) (v - 1)
  inside_alike top rb z _ l =
      gap_read top rb m (
        record {
          first = λ o. absurd (omega arith);
          next = λ _. ap (λ (x : ℕ). (rb x).end) (let o : lo + z ≡ lo + (1 + z) - 1 = omega arith in o);
        },
        record {
          inside = λ _. ap (λ (x : ℕ). (rb x).start) (let o : lo + z + 1 ≡ lo + (1 + z) = omega arith in o);
          last = λ o. absurd (omega (arith, s.before));
        },
      )

module _ {line : ℕ → ℕ} {top : ℕ} {ra rb : ℕ → Row} {n m lo hi : ℕ} (va : Ruled line top ra n) (vb : Ruled line top rb m) (c : 0 < top) (f : GapsFrom rb m lo) (g : GapsTo top rb m hi) where
  pub these_plain : Plain (gaps top rb m lo) (hi - lo)
  these_plain = gaps_plain top rb m lo hi vb.plain c f g

  pub these_differ : {most r : ℕ} {row : ℕ → Row} → Holds most row r (combined intersection (span ra 0 n) (span (gaps top rb m lo) 0 (hi - lo))) → Holds most row r (combined difference (span ra 0 n) (span rb 0 m))
  these_differ h = holds_other (gaps_combined top rb m lo hi vb.plain c f g ra n va.plain va.within) h

  -- what the sweep over the gaps between two rows asks
  pub these_fit : {i j k u v t most room d : ℕ} {row : ℕ → Row} → Inside m lo d i j k u v t → Meeting ra n i u (gaps top rb m lo) (hi - lo) j v most row k t → most ≡ room
      → Fit n (m - lo - 1) room d (record { i = i; j = j - 1; k = k }) (record { u = u; v = v - 1; t = t })
  these_fit s w e =
      record {
        turns = inside_turns s;
        left = (omega (arith, w.one.within), omega (arith, w.one.within, va.few));
        right = (omega (arith, s.before), omega (arith, s.before, vb.few));
        room = (omega (arith, w.within), omega (arith, s.turns.left, s.turns.right, w.one.within, va.few, s.before, vb.few, w.crossed.few));
      }

  pub these_last : {i j k u v t most : ℕ} {row : ℕ → Row} → Meeting ra n i u (gaps top rb m lo) (hi - lo) j v most row k t → v ≤ row_limit + 1
  these_last w = omega (arith, w.two.within, g.most, vb.few)

pub inside_in : {m m' lo c i j k u v t : ℕ} → m ≡ m' → Inside m lo c i j k u v t → Inside m' lo c i j k u v t
inside_in e s = record { turns = s.turns; behind = s.behind; before = omega (arith, s.before) }

-- ## What a step is made of

pub step_below : {room i j k p e q f i' j' k' x y : ℕ} {row row' : ℕ → Row} → x ≡ max p q → y ≡ min e f → Passed e (min e f) i i' → Passed f (min f e) j j'
    → Keeps room row k x y row' k' → ((z : ℕ) → room ≤ z → row z ≡ row' z) → Below room row i j k p e q f row' i' j' k'
step_below {room} {j = j} {k = k} {e = e} {f = f} {j' = j'} {k' = k'} {row = row} {row' = row'} a b c d g h =
    record {
      one = c;
      two = subst (λ (v : ℕ). Passed f v j j') (let z : min f e ≡ min e f = omega arith in z) d;
      keeps = subst₂ (λ (v w : ℕ). Keeps room row k v w row' k') a b g;
      above = h;
    }

pub step_above : {u v t p e q f u' v' t' x y : ℕ} {row row' : ℕ → Row} → x ≡ max p q → y ≡ min e f → Dropped p (max p q) u u' → Dropped q (max q p) v v'
    → Raised x y t t' → Stores t row (t - 1) x y row' → Above row u v t p e q f row' u' v' t'
step_above {v = v} {t} {p} {q = q} {v' = v'} {t'} {row = row} {row' = row'} a b c d g h =
    record {
      one = c;
      two = subst (λ (w : ℕ). Dropped q w v v') (let z : max q p ≡ max p q = omega arith in z) d;
      raised = subst₂ (λ (w z : ℕ). Raised w z t t') a b g;
      stores = subst₂ (λ (w z : ℕ). Stores t row (t - 1) w z row') a b h;
    }
