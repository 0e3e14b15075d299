-- The processes below a process, one more of its members at a time.
use Rattle.std.proofs.Common.{◌≡◌, ℕ, Option, Some, List, true, false, refl, ap}
use Rattle.std.specs.Prelude.{codes, is_some}
use Rattle.prof_grammar.specs.Value.{Value, Members, no_members, member, snoc, last_named, same_text}
use Rattle.prof_layout.proofs.Members.{last_named-same, last_named-other}
use Rattle.prof_gecko_layout.specs.GeckoProfile.{below, listed}

-- those of the last member of that name
pub below-same : (ms : Members) (n : List ℕ) (v : Value) → same_text n (codes "processes") ≡ true → below (snoc ms n v) ≡ listed v
below-same no_members n v h = rw h refl
below-same (member m w ms) n v h =
    let there : last_named (codes "processes") (snoc ms n v) ≡ Some v = last_named-same (codes "processes") ms n v h in
    let are : is_some (last_named (codes "processes") (snoc ms n v)) ≡ true = ap (λ (o : Option Value). is_some o) there in
    rw are (below-same ms n v h)

-- another member changes nothing
pub below-other : (ms : Members) (n : List ℕ) (v : Value) → same_text n (codes "processes") ≡ false → below (snoc ms n v) ≡ below ms
below-other no_members n v h = rw h refl
below-other (member m w ms) n v h =
    let same : last_named (codes "processes") (snoc ms n v) ≡ last_named (codes "processes") ms = last_named-other (codes "processes") ms n v h in
    rw (same, below-other ms n v h) refl
