-- Rows before all those of another table, or behind them, are passed with nothing laid: where two walks may begin. Assumes nothing.
use mathlib.Core.Logic.{⊎_elim}
use mathlib.Core.Path.{◌≡◌, refl, ap, sym, subst, subst₂, ◌∙◌}
use mathlib.Core.List.{◌++◌}
use Prim.Native.Nat.{ℕ, zero, suc, ◌+◌, ◌-◌, ◌≤◌, ◌<◌}
use native.Mathlib.Omega.{arith}
use Rattle.tables.specs.Inner.Rows.{Row, Rows}
use Rattle.tables.specs.Inner.Edit.{Plain, Parted, starts, ends}
use Rattle.tables.specs.Inner.Ends.{Below, Above, Clipped}
use Rattle.varint.proofs.Cases.{split}
use Rattle.tables.proofs.Spanning.{span_none}
use Rattle.tables.proofs.Inserting.{ended_before, starts_rising, ends_rising}
use Rattle.tables.proofs.Meeting.{Meeting, meeting_none, meeting_below, meeting_above, crossed_room}

-- ## A step that passes a row apart from the other

below_one : {room i j k p e q f : ℕ} {row : ℕ → Row} → e ≤ q → q < f → Below room row i j k p e q f row (suc i) j k
below_one h g =
    record {
      one = record { on = λ _. omega arith; off = λ l. absurd (omega arith) };
      two = record { on = λ l. absurd (omega arith); off = λ _. refl };
      keeps = record { below = λ _ _. refl; here = λ l _. absurd (omega arith); new = λ l. absurd (omega arith); old = λ _. refl };
      above = λ _ _. refl;
    }

below_two : {room i j k p e q f : ℕ} {row : ℕ → Row} → f ≤ p → p < e → Below room row i j k p e q f row i (suc j) k
below_two h g =
    record {
      one = record { on = λ l. absurd (omega arith); off = λ _. refl };
      two = record { on = λ _. omega arith; off = λ l. absurd (omega arith) };
      keeps = record { below = λ _ _. refl; here = λ l _. absurd (omega arith); new = λ l. absurd (omega arith); old = λ _. refl };
      above = λ _ _. refl;
    }

above_one : {u v t p e q f : ℕ} {row : ℕ → Row} → f ≤ p → q < f → Above row (suc u) v t p e q f row u v t
above_one h g =
    record {
      one = record { on = λ _. omega arith; off = λ l. absurd (omega arith) };
      two = record { on = λ l. absurd (omega arith); off = λ _. refl };
      raised = record { new = λ l. absurd (omega arith); old = λ _. refl };
      stores = record { here = λ l _. absurd (omega arith); other = λ _ _. refl; full = λ _ _. refl };
    }

above_two : {u v t p e q f : ℕ} {row : ℕ → Row} → e ≤ q → p < e → Above row u (suc v) t p e q f row u v t
above_two h g =
    record {
      one = record { on = λ l. absurd (omega arith); off = λ _. refl };
      two = record { on = λ _. omega arith; off = λ l. absurd (omega arith) };
      raised = record { new = λ l. absurd (omega arith); old = λ _. refl };
      stores = record { here = λ l _. absurd (omega arith); other = λ _ _. refl; full = λ _ _. refl };
    }

-- ## All those steps

module _ (ra : ℕ → Row) (n : ℕ) (rb : ℕ → Row) (m most : ℕ) (ta : Plain ra n) (tb : Plain rb m) (row : ℕ → Row) (some : 0 < most) where
  abbrev Met : ℕ → ℕ → ℕ → ℕ → Type 0
  Met i j u v = Meeting ra n i u rb m j v most row 0 most

  low_one : (i : ℕ) → i ≤ n → ((z : ℕ) → z < i → (0 < m) × ((ra z).end ≤ (rb 0).start)) → Met i 0 n m
  low_one zero h f = meeting_none ra n rb m most ta tb row
  low_one (suc i) h f =
      let g = f i (omega arith) in
      meeting_below ra n rb m most ta tb i (suc i) n 0 0 m 0 0 most row row (omega arith) g.0 (below_one g.1 (tb.ruled 0 g.0).filled) (low_one i (omega arith) (λ z l. f z (omega arith)))

  low_two : (i j : ℕ) → j ≤ m → ((z : ℕ) → z < j → (i < n) × ((rb z).end ≤ (ra i).start)) → Met i 0 n m → Met i j n m
  low_two i zero h f w = w
  low_two i (suc j) h f w =
      let g = f j (omega arith) in
      meeting_below ra n rb m most ta tb i i n j (suc j) m 0 0 most row row g.0 (omega arith) (below_two g.1 (ta.ruled i g.0).filled) (low_two i j (omega arith) (λ z l. f z (omega arith)) w)

  high_one : (i j d u : ℕ) → u + d ≡ n → i ≤ u → ((z : ℕ) → u ≤ z → z < n → (j < m) × ((rb (m - 1)).end ≤ (ra z).start)) → Met i j n m → Met i j u m
  high_one i j zero u e h f w = subst (λ (x : ℕ). Met i j x m) (let z : n ≡ u = omega arith in z) w
  high_one i j (suc d) u e h f w =
      let g = f u (omega arith) (omega arith) in
      meeting_above ra n rb m most ta tb i (suc u) u j m m 0 most most u (m - 1) row row refl (omega (arith, g.0)) (omega arith) g.0 some
      (above_one g.1 (tb.ruled (m - 1) (omega (arith, g.0))).filled) (high_one i j d (suc u) (omega arith) (omega arith) (λ z k l. f z (omega arith) l) w)

  high_two : (i j u d v : ℕ) → u ≤ n → v + d ≡ m → j ≤ v → ((z : ℕ) → v ≤ z → z < m → (i < u) × ((ra (u - 1)).end ≤ (rb z).start)) → Met i j u m → Met i j u v
  high_two i j u zero v k e h f w = subst (λ (x : ℕ). Met i j u x) (let z : m ≡ v = omega arith in z) w
  high_two i j u (suc d) v k e h f w =
      let g = f v (omega arith) (omega arith) in
      meeting_above ra n rb m most ta tb i u u j (suc v) v 0 most most (u - 1) v row row (omega (arith, g.0)) refl g.0 (omega arith) some
      (above_two g.1 (ta.ruled (u - 1) (omega (arith, g.0))).filled) (high_two i j u d (suc v) k (omega arith) (omega arith) (λ z l o. f z (omega arith) o) w)

  met_clipped : {i j u v : ℕ} → Clipped ra n rb m i j u v → Met i j u v
  met_clipped {i} {j} {u} {v} c =
      high_two i j u (m - v) v c.left.1 (omega (arith, c.right)) c.right.0 c.behind2
      (high_one i j (n - u) u (omega (arith, c.left)) c.left.0 c.behind
      (low_two i j (omega (arith, c.right)) c.before2 (low_one i (omega (arith, c.left)) c.before)))

-- nothing is laid yet: the room is of no account
other_room : {ra rb row : ℕ → Row} {n m i j u v most most' : ℕ} → Meeting ra n i u rb m j v most row 0 most → Meeting ra n i u rb m j v most' row 0 most'
other_room {row = row} {most = most} {most'} w =
    record {
      place = w.place;
      edge = w.edge;
      order = w.order;
      crossed = crossed_room (omega arith) (omega arith) (λ _ _. refl) w.crossed;
      left = w.left;
      right = w.right;
      one = w.one;
      two = w.two;
      far = w.far;
      within = omega arith;
      whole = λ rs b. ap (λ (l : Rows). rs ++ l) (span_none row most' most' (omega arith) ∙ sym (span_none row most most (omega arith))) ∙ w.whole rs b;
    }

-- WHERE THE WALKS BEGIN
pub meeting_clipped : {ra rb : ℕ → Row} {n m i j k u v t most : ℕ} (row : ℕ → Row) → Plain ra n → Plain rb m → Clipped ra n rb m i j u v → (k ≡ 0) × (t ≡ most) → Meeting ra n i u rb m j v most row k t
meeting_clipped {ra} {rb} {n} {m} {i} {j} {k} {u} {v} {t} {most} row ta tb c e =
    subst₂ (λ (x y : ℕ). Meeting ra n i u rb m j v most row x y) (sym e.0) (sym e.1) (other_room (met_clipped ra n rb m (suc most) ta tb row (omega arith) c))

-- ## Places found

module _ {row : ℕ → Row} {n : ℕ} (t : Plain row n) where
  ended_by : {x y i : ℕ} → x ≡ y → Parted (ends row) n (x + 1) i i → (z : ℕ) → z < i → (row z).end ≤ y
  ended_by {x} {y} {i} e p z l = omega (arith, ended_before row n t (x + 1) i z p l)

  begun_from : {x y u : ℕ} → x ≡ y → Parted (starts row) n x u u → (z : ℕ) → u ≤ z → z < n → y ≤ (row z).start
  begun_from {x} {y} {u} e p z l h = omega (arith, p.above (omega arith), starts_rising row n t u z l h)

module _ {ra rb : ℕ → Row} {n m n' m' x i : ℕ} (ta : Plain ra n) (tb : Plain rb m) (en : n' ≡ n) (em : m' ≡ m) (some : 0 < m') (sx : x ≡ (rb 0).start) (pi : Parted (ends ra) n (x + 1) i i) where
  pub clipped_one : Clipped ra n rb m i 0 n' m'
  clipped_one =
      record {
        left = (omega (arith, pi.within), omega arith);
        right = (omega arith, omega arith);
        before = λ z l. (omega arith, ended_by ta sx pi z l);
        before2 = λ z l. absurd (omega arith);
        behind = λ z l h. absurd (omega arith);
        behind2 = λ z l h. absurd (omega arith);
      }

  module _ {y j : ℕ} (left : i < n') (sy : y ≡ (ra i).start) (pj : Parted (ends rb) m (y + 1) j j) where
    pub clipped_low : Clipped ra n rb m i j n' m'
    clipped_low =
        record {
          left = (omega (arith, pi.within), omega arith);
          right = (omega (arith, pj.within), omega arith);
          before = λ z l. (omega arith, ended_by ta sx pi z l);
          before2 = λ z l. (omega arith, ended_by tb sy pj z l);
          behind = λ z l h. absurd (omega arith);
          behind2 = λ z l h. absurd (omega arith);
        }

    module _ {w : ℕ} (right : j < m') (sw : w ≡ (rb (m' - 1)).end) where
      -- the rows of the one table that are passed from below start before the end of the other
      pub begun_one : Parted (starts ra) n w i n
      begun_one =
          record {
            order = pi.within;
            within = omega arith;
            below = λ k e. omega (arith, (ta.ruled k (omega (arith, pi.within))).filled, ended_by ta sx pi k (omega arith), (tb.ruled 0 (omega arith)).filled, ends_rising rb m tb 0 (m' - 1) (omega arith) (omega arith));
            above = λ h. absurd (omega arith);
          }

      module _ {u : ℕ} (low : i ≤ u) (pu : Parted (starts ra) n w u u) where
        -- and one more does
        pub goes_on : i < u
        goes_on = ⊎_elim
            (λ l. l)
            (λ l. let z : u ≡ i = omega arith in
            absurd (omega (arith, pu.above (omega arith), ap (λ (k : ℕ). (ra k).start) z, pj.above (omega arith), ends_rising rb m tb j (m' - 1) (omega arith) (omega arith))))
            (split i u)

        module _ {d : ℕ} (sd : d ≡ (ra (u - 1)).end) where
          pub begun_two : Parted (starts rb) m d j m
          begun_two =
              record {
                order = pj.within;
                within = omega arith;
                below = λ k e. omega (arith, (tb.ruled k (omega (arith, pj.within))).filled, ended_by tb sy pj k (omega arith), (ta.ruled i (omega arith)).filled, ends_rising ra n ta i (u - 1) (omega (arith, goes_on)) (omega (arith, goes_on, pu.within)));
                above = λ h. absurd (omega arith);
              }

          pub clipped_all : {v : ℕ} → j ≤ v → Parted (starts rb) m d v v → Clipped ra n rb m i j u v
          clipped_all low2 pv =
              record {
                left = (low, pu.within);
                right = (low2, pv.within);
                before = λ z l. (omega arith, ended_by ta sx pi z l);
                before2 = λ z l. (omega arith, ended_by tb sy pj z l);
                behind = λ z l h. (omega arith, begun_from ta (sw ∙ ap (λ (k : ℕ). (rb (k - 1)).end) em) pu z l h);
                behind2 = λ z l h. (goes_on, begun_from tb sd pv z l h);
              }
