-- An output grows by each line. Assumes nothing.
use Rattle.std.specs.Prelude.{Option, None, Some, Result, Ok, Err, OnOk}
use Rattle.std.proofs.Common.{ℕ, List, [], ◌++◌, sym, ap, ◌∙◌, append-nil, append_assoc}
use Rattle.std.specs.Io.KnownBytes.{Appends, Keeps}
use Rattle.lines.specs.Output.{Grows}

pub grows_none : (old : Option (List ℕ)) → Grows old old
unfolding Grows
grows_none None = ([], tt)
grows_none (Some xs) = ([], sym (append-nil xs))

pub grows_more : (old new next : Option (List ℕ)) → Grows old new → (bytes : List ℕ) → Appends new next bytes → Grows old next
unfolding Grows
grows_more None new next g bytes a = ([], tt)
grows_more (Some xs) None next (bs, b) bytes a = absurd b
grows_more (Some xs) (Some ys) None (bs, b) bytes a = absurd a
grows_more (Some xs) (Some ys) (Some zs) (bs, b) bytes a = (bs ++ bytes, a ∙ ap (λ (l : List ℕ). l ++ bytes) b ∙ append_assoc xs bs bytes)

pub grows_both : (old new next : Option (List ℕ)) → Grows old new → Grows new next → Grows old next
unfolding Grows
grows_both old new next g (bytes, a) = grows_more old new next g bytes a

grows_kept : (old new next : Option (List ℕ)) → Grows old new → Keeps new next → Grows old next
unfolding Grows
grows_kept None new next g k = ([], tt)
grows_kept (Some xs) None next (bs, b) k = absurd b
grows_kept (Some xs) (Some ys) None (bs, b) k = absurd k
grows_kept (Some xs) (Some ys) (Some zs) (bs, b) k = (bs, k ∙ b)

pub grows_flushed : {R E : Type 0} (r : Result R E) (old new next : Option (List ℕ)) → Grows old new → Keeps new next → OnOk r (Grows old next)
grows_flushed (Ok x) old new next g k = grows_kept old new next g k
grows_flushed (Err e) old new next g k = tt
