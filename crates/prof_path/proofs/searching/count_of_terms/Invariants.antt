use Rattle.std.proofs.Common.{◌≡◌, List, ℕ, Bor, length}
use Rattle.std.specs.Prelude.{map}
use Rattle.prof_path.specs.Terms.{terms_among}
use Rattle.prof_path.proofs.searching.count_of_terms.Given as goal

abbrev pub invariant-loop-piece : goal.invariant-loop-piece
invariant-loop-piece l = l.count ≡ length (terms_among (map (λ (b : Bor (List ℕ)). b.now) l.yielded))
