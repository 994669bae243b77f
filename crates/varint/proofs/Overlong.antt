-- How any bytes read as an unsigned number, overlong ones too, without the recursion of `Number.antt`: bytes that go on, and one that does not, are
-- the OR of the low seven bits of each at its shift; eleven that go on are LONG; and fewer, with no byte behind them, are END. Assumes nothing.
use Rattle.std.proofs.Common.{◌≡◌, ℕ, zero, suc, ◌+◌, ◌*◌, ◌%◌, ◌^◌, ◌<◌, ◌≤◌, List, [], ◌∷◌, ◌++◌, length, drop, refl, ap, ◌∙◌, add-zero, arith, le-ltb, lt-ltb}
use Rattle.std.specs.Prelude.{⊤}
use Rattle.varint.specs.Number.{done, refused, shifted, joined, reads, eleventh, read_at}

-- "bit 7 set": each of the bytes says that another follows
abbrev pub GoOn : List ℕ → Type 0
GoOn [] = ⊤
GoOn (b ∷ bs) = (128 ≤ b) × GoOn bs

-- "byte k (from 1) puts its low seven bits at shift 7(k-1) taken modulo the width, bits past the top are lost, and the bytes are joined by OR":
-- the bytes from the k-th on (from 0), where acc is what those before it gave
unfoldable pub ors : (w k acc : ℕ) → List ℕ → ℕ
ors w k acc [] = acc
ors w k acc (b ∷ bs) = ors w (k + 1) (joined w acc (7 * k) (b % 128)) bs

module _ (w at : ℕ) (rest : List ℕ) where
  -- a byte that goes on
  step : (n k acc p b : ℕ) (bs : List ℕ) → 128 ≤ b
      → reads eleventh w at (suc n) 7 (7 * k) acc p (b ∷ bs) ≡ reads eleventh w at n 7 (7 * (k + 1)) (joined w acc (7 * k) (b % 128)) (p + 1) bs
  unfolding reads
  step n k acc p b bs h = let e : 7 * (k + 1) ≡ 7 * k + 7 = omega arith in rw (e, le-ltb b 128 h)

  ends : (last : ℕ) → last < 128 → (front : List ℕ) (n k acc p : ℕ) → GoOn front → length front < n
      → reads eleventh w at n 7 (7 * k) acc p (front ++ last ∷ rest) ≡ done (ors w k acc (front ++ last ∷ [])) (p + length front + 1)
  unfolding reads ors
  ends last l [] zero k acc p g h = absurd (omega arith)
  ends last l [] (suc n) k acc p g h = rw (lt-ltb last 128 l, add-zero)
  ends last l (b ∷ bs) zero k acc p g h = absurd (omega arith)
  ends last l (b ∷ bs) (suc n) k acc p g h =
      step n k acc p b (bs ++ last ∷ rest) g.0 ∙ ends last l bs n (k + 1) (joined w acc (7 * k) (b % 128)) (p + 1) g.1 (omega arith) ∙ ap (done _) (omega arith)

  goes_on : (front : List ℕ) (n k acc p : ℕ) → GoOn front → length front ≡ n → reads eleventh w at n 7 (7 * k) acc p (front ++ rest) ≡ refused 2 at
  unfolding reads
  goes_on [] zero k acc p g h = refl
  goes_on [] (suc n) k acc p g h = absurd (omega arith)
  goes_on (b ∷ bs) zero k acc p g h = absurd (omega arith)
  goes_on (b ∷ bs) (suc n) k acc p g h = step n k acc p b (bs ++ rest) g.0 ∙ goes_on bs n (k + 1) _ (p + 1) g.1 (omega arith)

stops : (w at : ℕ) (front : List ℕ) (n k acc p : ℕ) → GoOn front → length front < n → reads eleventh w at n 7 (7 * k) acc p front ≡ refused 1 at
unfolding reads
stops w at [] zero k acc p g h = absurd (omega arith)
stops w at [] (suc n) k acc p g h = refl
stops w at (b ∷ bs) zero k acc p g h = absurd (omega arith)
stops w at (b ∷ bs) (suc n) k acc p g h = step w at [] n k acc p b bs g.0 ∙ stops w at bs n (k + 1) _ (p + 1) g.1 (omega arith)

module _ (w at : ℕ) (bytes front : List ℕ) (g : GoOn front) where
  -- At most eleven bytes, of which the last alone does not go on: the OR of them all, and the place past them.
  pub number_of_bytes : (last : ℕ) (rest : List ℕ) → last < 128 → length front ≤ 10 → drop at bytes ≡ front ++ last ∷ rest
      → read_at w bytes at ≡ done (ors w 0 0 (front ++ last ∷ [])) (at + length front + 1)
  unfolding read_at
  number_of_bytes last rest l few e = ap (reads eleventh w at 11 7 0 0 at) e ∙ ends w at rest last l front 11 0 0 at g (omega arith)

  -- Eleven bytes that go on: LONG, whatever follows.
  pub long_of_bytes : (rest : List ℕ) → length front ≡ 11 → drop at bytes ≡ front ++ rest → read_at w bytes at ≡ refused 2 at
  unfolding read_at
  long_of_bytes rest all e = ap (reads eleventh w at 11 7 0 0 at) e ∙ goes_on w at rest front 11 0 0 at g all

  -- Fewer that go on, and no byte behind them: END.
  pub end_of_bytes : length front ≤ 10 → drop at bytes ≡ front → read_at w bytes at ≡ refused 1 at
  unfolding read_at
  end_of_bytes few e = ap (reads eleventh w at 11 7 0 0 at) e ∙ stops w at front 11 0 0 at g (omega arith)

-- What the last bytes of the longest numbers do, x being the low seven bits of the byte. At 64 bits the tenth puts its lowest bit on top, and the
-- eleventh starts again at bit 6; at 32 bits the sixth starts again at bit 3, and the eleventh at bit 6.
pub tenth_of_64 : (x : ℕ) → shifted 64 x 63 ≡ x % 2 * 2 ^ 63
tenth_of_64 x = omega arith

pub eleventh_of_64 : (x : ℕ) → x < 128 → shifted 64 x 70 ≡ x * 64
eleventh_of_64 x h = omega arith

pub sixth_of_32 : (x : ℕ) → x < 128 → shifted 32 x 35 ≡ x * 8
sixth_of_32 x h = omega arith

pub eleventh_of_32 : (x : ℕ) → x < 128 → shifted 32 x 70 ≡ x * 64
eleventh_of_32 x h = omega arith
