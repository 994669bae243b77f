-- The union, a row a turn, of rows of any kind: of the rows that stand next in the two tables, the one that starts first. Assumes nothing.
use mathlib.Core.Logic.{⊎_elim}
use mathlib.Core.Path.{◌≡◌, refl, ap, sym, subst, subst₂, ◌∙◌}
use Prim.Native.Nat.{ℕ, ◌+◌, ◌-◌, ◌≤◌, ◌<◌, max}
use native.Mathlib.Omega.{arith}
use Rattle.tables.specs.Inner.Rows.{Row, Rows}
use Rattle.tables.specs.Inner.Sweep.{Holds}
use Rattle.tables.specs.Inner.Unite.{Counted, Starts, Ends, Last, United}
use Rattle.tables.specs.Inner.Kinds.{Ruled, Opens, Closes}
use Rattle.tables.specs.Inner.Merge.{Picked, First, Tied, Added, Far, Going}
use Rattle.varint.proofs.Cases.{split}
use Rattle.tables.proofs.Inserting.{plain_links}
use Rattle.tables.proofs.Uniting.{adds, counted_some, united_swap}
use Rattle.tables.proofs.Taking.{united_take}

-- ## Picked together

pub picked_by : {A : Type 0} (f : A → ℕ) {p q : ℕ} {x y r : A} → Picked p q x y r → Picked p q (f x) (f y) (f r)
picked_by f c = record { on = λ h. ap f (c.on h); off = λ h. ap f (c.off h) }

-- what is picked together belongs together
picked_of : (f : ℕ → ℕ) {p q i j r s t v : ℕ} → s ≡ f i → t ≡ f j → Picked p q i j r → Picked p q s t v → v ≡ f r
picked_of f {p} {q} a b h k = ⊎_elim (λ o. k.off o ∙ (b ∙ ap f (sym (h.off o)))) (λ o. k.on o ∙ (a ∙ ap f (sym (h.on o)))) (split q p)

pub first_few : {ra rb : ℕ → Row} {i j p q x y i' j' : ℕ} → First ra rb i j p q x y i' j' → (i' ≤ i + 1) × (j' ≤ j + 1)
first_few {p = p} {q = q} f = ⊎_elim (λ h. (omega (arith, f.one.off h), omega (arith, f.two.off h))) (λ h. (omega (arith, f.one.on h), omega (arith, f.two.on h))) (split q p)

-- ## A row more

module _ (line : ℕ → ℕ) (rises : (x y : ℕ) → x ≤ y → line x ≤ line y) {room k e x y r f : ℕ} {row row₁ row₂ : ℕ → Row} (u : (j : ℕ) → (row j).weight ≡ 1)
    (a : x < y) (b : line x ≡ line y) (l : Last room row k e) (t : 0 < e → k ≤ room → line (row (k - 1)).start ≡ line (e - 1))
    (s : Opens room row k x row₁) (q : Counted k e x r) (h : f ≡ max (e - 1) y) (d : Closes line room row₁ (r - 1) f row₂) where
  -- the last row lies in the line of its end
  in_line : r - 1 < room → line (row₁ (r - 1)).start ≡ line f
  in_line o = ⊎_elim
      (λ z. let v : r ≡ k = q.off z in
      let p : 0 < k = l.some (omega arith) in
      ap (λ (j : ℕ). line (row₁ (j - 1)).start) v
      ∙ (ap (λ (w : Row). line w.start) (sym (s.other (k - 1) (λ w. omega arith)))
      ∙ (t (omega arith) (omega arith)
      ∙ ⊎_elim
      (λ w. let g : f ≡ y = omega arith in let c : line (e - 1) ≡ line y = omega (arith, rises (e - 1) y (omega arith), rises x (e - 1) (omega arith), b) in c ∙ ap line (sym g))
      (λ w. ap line (let g : e - 1 ≡ f = omega arith in g)) (split (e - 1) y))))
      (λ z. let v : r ≡ k + 1 = q.on z in
      let w : r - 1 ≡ k = omega arith in
      ap (λ (j : ℕ). line (row₁ j).start) w ∙ (ap line (s.here (omega arith)) ∙ (b ∙ ap line (let g : y ≡ f = omega arith in g))))
      (split x e)

  pub added : Added line room row k e x y row₂ r
  added =
      let g : f + 1 ≡ max e (y + 1) = omega arith in
      let z : f ≡ f + 1 - 1 = omega arith in
      let o : Starts room row k x row₁ = record { below = λ j m. s.other j (λ w. omega arith); here = s.here } in
      let n : Ends room row₁ (r - 1) f row₂ = record { below = λ j m. d.other j (λ w. omega arith); here = λ m. d.here m (in_line m) } in
      record {
        adds = adds room row row₁ row₂ u k e x y r (f + 1) a l o q g (subst (λ (v : ℕ). Ends room row₁ (r - 1) v row₂) z n);
        lined = λ m.
            let p : r - 1 < room = omega (arith, counted_some room row k e x r l q) in
            ap (λ (w : Row). line w.start) (d.here p (in_line p)) ∙ (in_line p ∙ ap line h);
      }

-- ## How far the union has come

module _ {line : ℕ → ℕ} {top : ℕ} {ra rb : ℕ → Row} {n m : ℕ} where
  pub far_swap : {i j room k l : ℕ} {row : ℕ → Row} → Far line top ra n i rb m j room row k l → Far line top rb m j ra n i room row k l
  far_swap u = record { united = united_swap _ _ _ _ _ _ _ _ _ _ _ u.united; lined = u.lined }

  pub far_left : {i j room k l : ℕ} {row : ℕ → Row} → n ≤ i → Far line top ra n i rb m j room row k l → Far line top rb m j ra n n room row k l
  far_left {i} {j} {room} {k} {l} {row} h u = far_swap (subst (λ (v : ℕ). Far line top ra n v rb m j room row k l) (let z : i ≡ n = omega (arith, u.united.one.within) in z) u)

  pub far_tied : {i j room k l : ℕ} {row : ℕ → Row} → Far line top ra n i rb m j room row k l → Tied line room row k l
  far_tied u = record { last = u.united.last; lined = u.lined }

module _ {line : ℕ → ℕ} {top : ℕ} {ra rb : ℕ → Row} {n m : ℕ} (va : Ruled line top ra n) (vb : Ruled line top rb m) where
  -- what is taken of row i
  pub row_more : {i j room k e x y r f : ℕ} {row row' : ℕ → Row} → i < n → x ≡ (ra i).start → y ≡ (ra i).end → (j < m → x ≤ (rb j).start)
      → United (top + 1) ra n i rb m j room row k e → Added line room row k e x y row' r → f ≡ max (e - 1) y → Far line top ra n (i + 1) rb m j room row' r f
  row_more {i} {j} {room} {k} {e} {x} {y} {r} {f} {row} {row'} h s t o p d g =
      record {
        united = united_take (top + 1) ra n rb m room va.plain.unit vb.plain.unit (plain_links ra n va.plain) (plain_links rb m vb.plain) i j k e r x y (f + 1) row row'
            h s t o p d.adds (omega (arith, va.within i h)) (omega arith);
        lined = λ w. d.lined w ∙ ap line (sym g);
      }

module _ {line : ℕ → ℕ} {top : ℕ} {ra rb : ℕ → Row} {n m : ℕ} (va : Ruled line top ra n) (vb : Ruled line top rb m) where
  module _ {i j p q x y i' j' : ℕ} (h : i < n) (g : j < m) (s : p ≡ (ra i).start) (t : q ≡ (rb j).start) (w : First ra rb i j p q x y i' j') where
    pub first_filled : x < y
    first_filled = ⊎_elim
        (λ o. omega (arith, w.start.off o, w.end.off o, t, (vb.plain.ruled j g).filled))
        (λ o. omega (arith, w.start.on o, w.end.on o, s, (va.plain.ruled i h).filled))
        (split q p)

    pub first_lined : line x ≡ line y
    first_lined = ⊎_elim
        (λ o. ap line (w.start.off o ∙ t) ∙ (vb.lined j g ∙ ap line (sym (w.end.off o))))
        (λ o. ap line (w.start.on o ∙ s) ∙ (va.lined i h ∙ ap line (sym (w.end.on o))))
        (split q p)

    -- A TURN
    pub first_more : {room k e r f : ℕ} {row row' : ℕ → Row} → United (top + 1) ra n i rb m j room row k e → Added line room row k e x y row' r → f ≡ max (e - 1) y → Far line top ra n i' rb m j' room row' r f
    first_more {room} {k} {e} {r} {f} {row} {row'} u d z = ⊎_elim right left (split q p)
      where
        to : {i₁ j₁ : ℕ} → i₁ ≡ i' → j₁ ≡ j' → Far line top ra n i₁ rb m j₁ room row' r f → Far line top ra n i' rb m j' room row' r f
        to c c' v = subst₂ (λ (y y' : ℕ). Far line top ra n y rb m y' room row' r f) c c' v

        right : q < p → Far line top ra n i' rb m j' room row' r f
        right c =
            to (sym (w.one.off c)) (sym (w.two.off c))
            (far_swap (row_more vb va g (w.start.off c ∙ t) (w.end.off c) (λ _. omega (arith, w.start.off c, s)) (united_swap _ _ _ _ _ _ _ _ _ _ _ u) d z))

        left : p ≤ q → Far line top ra n i' rb m j' room row' r f
        left c = to (sym (w.one.on c)) (sym (w.two.on c)) (row_more va vb h (w.start.on c ∙ s) (w.end.on c) (λ _. omega (arith, w.start.on c, t)) u d z)

  -- A TURN, where no row of the other table is left
  pub alone_more : {i room k l x y r f : ℕ} {row row' : ℕ → Row} → i < n → x ≡ (ra i).start → y ≡ (ra i).end → Far line top ra n i rb m m room row k l
      → Added line room row k (l + 1) x y row' r → f ≡ max l y → Far line top ra n (i + 1) rb m m room row' r f
  alone_more h s t u d g = row_more va vb h s t (λ z. absurd (omega arith)) u.united d (omega arith)

  pub row_filled : {i x y : ℕ} → i < n → x ≡ (ra i).start → y ≡ (ra i).end → x < y
  row_filled {i} h s t = omega (arith, s, t, (va.plain.ruled i h).filled)

  pub row_lined : {i x y : ℕ} → i < n → x ≡ (ra i).start → y ≡ (ra i).end → line x ≡ line y
  row_lined {i} h s t = ap line s ∙ (va.lined i h ∙ ap line (sym t))

  -- A TURN with the next starts at hand, where a row is left behind them in both tables
  pub going_more : {i j room k l p q x y i' j' u t z f p' q' : ℕ} {row row' : ℕ → Row} → Going line top ra n i rb m j room row k l p q → First ra rb i j p q x y i' j'
      → i + 1 < n → j + 1 < m → Added line room row k (l + 1) x y row' z → f ≡ max l y
      → u ≡ (ra (i + 1)).start → t ≡ (rb (j + 1)).start → Picked p q u p p' → Picked p q q t q' → Going line top ra n i' rb m j' room row' z f p' q'
  going_more {f = f} g w c o d h s t a₂ b₂ =
      record {
        far = first_more g.left g.right g.one g.two w g.far.united d (omega arith);
        left = omega (arith, (first_few w).0);
        right = omega (arith, (first_few w).1);
        one = picked_of (λ (i : ℕ). (ra i).start) s g.one w.one a₂;
        two = picked_of (λ (j : ℕ). (rb j).start) g.two t w.two b₂;
      }

-- ## With room that is known by another name

pub opens_in : {room room' k x : ℕ} {row row' : ℕ → Row} → room ≡ room' → Opens room row k x row' → Opens room' row k x row'
opens_in {k = k} {x} {row} {row'} e o = subst (λ (v : ℕ). Opens v row k x row') e o

pub closes_in : {line : ℕ → ℕ} {room room' k y : ℕ} {row row' : ℕ → Row} → room ≡ room' → Closes line room row k y row' → Closes line room' row k y row'
closes_in {line} {k = k} {y} {row} {row'} e o = subst (λ (v : ℕ). Closes line v row k y row') e o

pub tied_line : {line : ℕ → ℕ} {room k l : ℕ} {row : ℕ → Row} → Tied line room row k l → 0 < l + 1 → k ≤ room → line (row (k - 1)).start ≡ line (l + 1 - 1)
tied_line {line} {l = l} t _ h = t.lined h ∙ ap line (let z : l ≡ l + 1 - 1 = omega arith in z)

pub none_last : {room : ℕ} {row : ℕ → Row} → Last room row 0 0
none_last = record { none = λ _. refl; some = λ h. h; end = λ h _. absurd (omega arith) }

pub holds_in : {room room' k : ℕ} {row : ℕ → Row} {rs : Rows} → room ≡ room' → Holds room row k rs → Holds room' row k rs
holds_in {k = k} {row} {rs} e h = subst (λ (v : ℕ). Holds v row k rs) e h
