-- Cells by their rows.
use Rattle.std.proofs.Common.{◌≡◌, ◌<◌, ℕ, List, length, get_or, subst, arith}
use Rattle.std.specs.Prelude.{map}
use Rattle.std.proofs.lemmas.List.FromFn.{length-map-range_with_len, get_or-map-range_with_len}
use Rattle.prof_demo.specs.Generated.{below}

pub length-cells : (f : ℕ → List ℕ) (n : ℕ) → length (map f (below n)) ≡ n
unfolding below
length-cells f n = length-map-range_with_len f 0 n

pub cell_at : (f : ℕ → List ℕ) (n i : ℕ) (d : List ℕ) → i < length (map f (below n)) → get_or (map f (below n)) i d ≡ f i
unfolding below
cell_at f n i d h = get_or-map-range_with_len f 0 n i i d (subst (λ k. i < k) (length-map-range_with_len f 0 n) h) (omega arith)
